use Rattle.std.specs.Prelude.{slice_range}
use Rattle.std.proofs.Common.{◌≡◌, ℕ, List, ◌-◌, ◌++◌, ◌∙◌, ap, arith, take_all}
use Rattle.of_core.specs.TableMoment.{TableStart}
use Rattle.of_core.specs.Starts.{first_words, start_from_durable}
use Rattle.of_core.proofs.Starts.{cells_count, words_filled}
use Rattle.of_core.proofs.opening.first_words.Goals as goal

pub returns : goal.returns
returns c =
    let N : ℕ = c.args.shape.now.callers in
    let M : ℕ = c.args.shape.now.cells in
    let row : List ℕ = c.args.durable.now in
    let B : TableStart = start_from_durable N M row in
    let xs : List ℕ = c.in_ok-words.words.items in
    let whole : slice_range xs 0 c.in_ok-words.words.len ≡ xs = take_all (c.in_ok-words.words.len - 0) xs (omega (arith, c.in_ok-words.words.ok.0)) in
    let items : c.extend_from_within.new.self.items ≡ xs ++ xs = c.in_ok-extend_from_within.ensures.items ∙ (λ i. xs ++ whole i) in
    let long = cells_count N M row c.requires.row xs c.in_ok-words.ensures in
    c.in_ok-resize.ensures.items ∙ words_filled N M B xs c.extend_from_within.new.self.items c.words.result c.extend_from_within.new.self.len c.in_ok-words.ensures long items c.extend_from_within.new.self.ok.0 (omega (arith, c.words.ensures))
    ∙ ap (λ (n : ℕ). first_words N M B n) c.words.ensures
