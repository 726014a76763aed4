use Rattle.std.proofs.Common.{◌≡◌, List, ℕ, ◌+◌, sym, subst}
use Rattle.std.specs.Prelude.{slice_range}
use Rattle.std.proofs.lemmas.Result.{IfOk-weaker}
use Rattle.of_cell.specs.Cells.{durable_cells}
use Rattle.of_mem.specs.Plots.{data_cell_count}
use Rattle.of_image.specs.declared.version.Version.TheVariants.{Two}
use Rattle.of_report.specs.ImageRow.{row_in}
use Rattle.of_image.specs.Grammar.{plan_grammar, table_grammar}
use Rattle.of_image.specs.ImageText.{image_text, SpellsIn}
use Rattle.of_image.proofs.ImageFacts.{table_is_row}
use Rattle.of_image.proofs.PrintedImages.{printed_again}
use Rattle.of_image.proofs.printing.image_print.Goals as goal

pub returns-clause-again : goal.returns-clause-again
returns-clause-again c =
    let p = c.args.plot.now in
    let D = durable_cells p.callers (data_cell_count p) in
    let r = row_in p (slice_range c.args.words.now D (D + D)) in
    let row = table_is_row _ _ p c.args.words.now c.requires.instrs c.requires.size (λ k. (c.type_inv.words k).fits) p.few_callers p.few_blocks in
    IfOk-weaker c.print_row.result (λ text. text.items ≡ image_text Two r) _ (λ text is. subst (λ (t : List ℕ). SpellsIn table_grammar t r) (sym is) (printed_again table_grammar r row)) (rw (c.durable_cells-cells.ensures.value, c.table_shape.ensures.callers, c.table_shape.ensures.cells) at c.print_row.ensures)

pub returns-clause-plan : goal.returns-clause-plan
returns-clause-plan c few_callers few_blocks =
    let p = c.args.plot.now in
    let D = durable_cells p.callers (data_cell_count p) in
    let r = row_in p (slice_range c.args.words.now D (D + D)) in
    let row = table_is_row _ _ p c.args.words.now c.requires.instrs c.requires.size (λ k. (c.type_inv.words k).fits) few_callers few_blocks in
    IfOk-weaker c.print_row.result (λ text. text.items ≡ image_text Two r) _ (λ text is. subst (λ (t : List ℕ). SpellsIn (plan_grammar Two) t r) (sym is) (printed_again (plan_grammar Two) r row)) (rw (c.durable_cells-cells.ensures.value, c.table_shape.ensures.callers, c.table_shape.ensures.cells) at c.print_row.ensures)
