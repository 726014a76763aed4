use Rattle.std.proofs.Common.{◌≡◌, ℕ, [], ◌∷◌, ◌++◌, sym, ap, ◌∙◌, arith}
use Rattle.of_cell.specs.Cells.{durable_cells}
use Rattle.of_report.specs.ImageRow.{data_cell_count_for}
use Rattle.of_image.proofs.MovedRows.{moved_pushed, moved_whole}
use Rattle.of_image.proofs.migration.moved_words.Goals as goal

pub loop-cell-preserved : goal.loop-cell-preserved
loop-cell-preserved c =
    let o = c.args.old.now in
    let n = c.args.new.now in
    c.in_ok-push.ensures.items ∙ ap (λ (w : ℕ). c.loop-cell.moved.items ++ w ∷ []) c.moved_word.ensures
    ∙ moved_pushed o.instrs n.instrs o.callers _ c.loop-cell.cell c.args.words.now c.loop-cell.moved.items c.loop-cell.invariant

pub returns : goal.returns
returns c =
    let o = c.args.old.now in
    let n = c.args.new.now in
    let end : c.loop-cell.cell ≡ c.durable_cells-cell-end.result = omega arith in
    moved_whole o.instrs n.instrs o.callers _ c.loop-cell.cell c.args.words.now c.loop-cell.moved.items
    (end ∙ c.durable_cells-cell-end.ensures.value
    ∙ (λ i. durable_cells (c.table_shape.ensures.callers i) (c.table_shape.ensures.cells i))
    ∙ (λ i. durable_cells (sym c.requires.callers i) (data_cell_count_for n.instrs (sym c.requires.callers i) (sym c.requires.blocks i))))
    c.loop-cell.invariant
