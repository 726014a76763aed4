use Rattle.std.proofs.Common.{◌≡◌, ℕ, ◌<◌, get_or, ap, subst, ◌∙◌, arith}
use Rattle.of_cell.specs.Words.{payload_of}
use Rattle.of_cell.specs.Cells.{data_cell}
use Rattle.of_mem.specs.Plots.{data_cell_count}
use Rattle.of_recover.specs.Row.{current_owner}
use Rattle.of_image.specs.RowFault.{IsFirstNewer}
use Rattle.of_image.proofs.FaultCells.{fault_below}
use Rattle.of_image.proofs.RowLaw.{law_numbers, law_stands, law_fault, law_newer}
use Rattle.of_image.proofs.restore.lawful_store.Goals as goal

pub returns-in-Some-clause-err : goal.returns-in-Some-clause-err
returns-in-Some-clause-err c =
    let p = c.args.plot.now in
    let ws = c.args.words.now in
    let owner : c.payload_of.result ≡ current_owner (λ n. get_or ws n 0) = c.payload_of.ensures ∙ ap (λ (n : ℕ). payload_of (get_or ws n 0)) c.cur.ensures.value in
    let within : c.in-Some.a < data_cell_count p = omega (arith, c.in-Some.ensures.0, c.table_shape-shape.ensures.cells) in
    rw c.unlawful-in-Some.ensures (record {
      owned = omega (arith, owner, c.if-payload_of-plot.false);
      at = c.in-Some.a;
      within = within;
      first = subst (λ (n : ℕ). IsFirstNewer n ws c.in-Some.a) c.table_shape-shape.ensures.callers c.in-Some.ensures.1;
      is = c.data_cell.ensures.value ∙ ap (λ (n : ℕ). data_cell n c.in-Some.a) c.table_shape-shape.ensures.callers;
    })

pub returns-in-Ok-clause-ok : goal.returns-in-Ok-clause-ok
returns-in-Ok-clause-ok c =
    let p = c.args.plot.now in
    let ws = c.args.words.now in
    let owner : c.payload_of.result ≡ current_owner (λ n. get_or ws n 0) = c.payload_of.ensures ∙ ap (λ (n : ℕ). payload_of (get_or ws n 0)) c.cur.ensures.value in
    let numbers = law_numbers c.table_shape-shape.result.callers c.table_shape-shape.result.cells p ws c.deref.result.now c.table_shape-shape.ensures.callers c.table_shape-shape.ensures.cells c.requires (c.deref.ensures.value ∙ c.in_ok-numbers.ensures) in
    record {
      owned = omega (arith, owner, c.if-payload_of-plot.false);
      none_newer = law_newer _ _ p ws c.table_shape-shape.ensures.callers c.table_shape-shape.ensures.cells c.in-None.ensures;
      stands = law_stands p ws c.deref.result.now numbers c.in-Ok.store c.in-Ok.ensures.ok;
    }

pub data_cell-requires-in-Err-Unlawful : goal.data_cell-requires-in-Err-Unlawful
data_cell-requires-in-Err-Unlawful c =
    let bad = rw c.in-Err-Unlawful.field-0-is at c.in-Err-Unlawful.ensures in
    omega (arith, fault_below _ _ _ c.in-Err-Unlawful.cell _ bad.unlawful, c.table_shape-shape.ensures.cells)

pub returns-clause-err : goal.returns-clause-err
returns-clause-err c =
    let p = c.args.plot.now in
    let ws = c.args.words.now in
    let bad = rw c.in-Err-Unlawful.field-0-is at c.in-Err-Unlawful.ensures in
    let owner : c.payload_of.result ≡ current_owner (λ n. get_or ws n 0) = c.payload_of.ensures ∙ ap (λ (n : ℕ). payload_of (get_or ws n 0)) c.cur.ensures.value in
    let numbers = law_numbers c.table_shape-shape.result.callers c.table_shape-shape.result.cells p ws c.deref.result.now c.table_shape-shape.ensures.callers c.table_shape-shape.ensures.cells c.requires (c.deref.ensures.value ∙ c.in_ok-numbers.ensures) in
    rw c.unlawful-in-Err-Unlawful.ensures (record {
      owned = omega (arith, owner, c.if-payload_of-plot.false);
      none_newer = law_newer _ _ p ws c.table_shape-shape.ensures.callers c.table_shape-shape.ensures.cells c.in-None.ensures;
      at = c.in-Err-Unlawful.cell;
      first = law_fault p ws c.deref.result.now numbers c.in-Err-Unlawful.cell bad.unlawful;
      is = c.data_cell-in-Err-Unlawful.ensures.value ∙ ap (λ (n : ℕ). data_cell n c.in-Err-Unlawful.cell) c.table_shape-shape.ensures.callers;
    })
