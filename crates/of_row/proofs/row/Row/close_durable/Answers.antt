use Rattle.std.proofs.Common.{ℕ, ◌+◌, arith, ap, ◌∙◌, sym, List}
use Rattle.std.specs.Prelude.{slice_range}
use Rattle.std.specs.Mem.Slots.{slots_items}
use Rattle.of_cell.specs.Cells.{durable_cells}
use Rattle.of_row.specs.Rows.{setup_at}
use Rattle.of_row.proofs.Closes.{durable_part}
use Rattle.of_row.proofs.row.Row.close_durable.Goals as goal

pub free-requires : goal.free-requires
free-requires g c = let n = c.end-closed.ensures.no_slots in λ k l. absurd (omega arith)

pub returns-clause-words : goal.returns-clause-words
returns-clause-words g c =
    let shape = c.shape.ensures in
    let ws : List ℕ = slots_items c.end-closed.result.0.words in
    let count = c.durable_cells-count.ensures.value ∙ (λ i. durable_cells (shape.callers i) (shape.cells i)) in
    record {
      words = ws;
      meets = c.end-closed.ensures.words;
      durable = durable_part (setup_at g.W.Work.meaning c.args.self) ws _ (sym c.end-closed.result.0.words.ok.0 ∙ c.end-closed.ensures.size) (c.copy_out.ensures ∙ ap (λ (n : ℕ). slice_range ws n (n + n)) count);
    }

pub returns-clause-size : goal.returns-clause-size
returns-clause-size g c = (returns-clause-words g c).durable.long
