use Rattle.std.proofs.Common.{◌≡◌, ℕ, List, get_or, set, replicate, take, drop, ◌+◌, ◌-◌, ◌++◌, ◌∷◌, ◌∙◌, ap}
use Rattle.of_cell.specs.Words.{pack, seq_of, payload_of}
use Rattle.of_core.specs.TableMoment.{TableStart}
use Rattle.of_core.specs.Starts.{closed_request, start_from_durable}
use Rattle.of_core.proofs.Starts.{heads_are, cells_filled}
use Rattle.of_core.proofs.opening.first_cells.Goals as goal

pub returns : goal.returns
returns c =
    let N : ℕ = c.args.shape.now.callers in
    let M : ℕ = c.args.shape.now.cells in
    let row : List ℕ = c.args.durable.now in
    let B : TableStart = start_from_durable N M row in
    let cur : c.cur.result ≡ 0 = c.cur.ensures.value in
    let zero : c.reserve.new.self.items ≡ replicate (N + 1) 0 = c.in_ok-reserve.ensures.items ∙ c.in_ok-cells.ensures.items_if_clones_equal (λ y e. e) in
    let owner : c.payload_of.result ≡ B.owner = c.payload_of.ensures ∙ ap (λ (k : ℕ). payload_of (get_or row k 0)) cur in
    let closed : c.closed.result ≡ closed_request B.seq = c.closed.ensures ∙ ap closed_request (c.seq_of.ensures ∙ ap (λ (k : ℕ). seq_of (get_or row k 0)) cur) in
    let heads : set (set c.reserve.new.self.items 0 (get_or row c.cur.result 0)) c.request.result c.closed.result ≡ pack B.seq B.owner ∷ set (replicate N 0) B.owner (closed_request B.seq) =
    rw (zero, cur, c.request.ensures.value, closed) (heads_are N M row c.payload_of.result owner) in
    let cells : take (c.data_cell-first.result + M - c.data_cell-first.result) (drop c.data_cell-first.result row) ≡ B.cells = ap (λ (k : ℕ). take (k + M - k) (drop k row)) c.data_cell-first.ensures.value in
    let items : c.extend_from_slice.new.self.items ≡ (pack B.seq B.owner ∷ set (replicate N 0) B.owner (closed_request B.seq)) ++ B.cells = c.in_ok-extend_from_slice.ensures.items ∙ (λ i. heads i ++ cells i) in
    c.in_ok-resize.ensures.items ∙ cells_filled N M row c.requires.row c.extend_from_slice.new.self.items c.durable_cells.result c.extend_from_slice.new.self.len items c.extend_from_slice.new.self.ok.0 c.durable_cells.ensures.value
