use Rattle.std.proofs.Common.{arith}
use Rattle.of_image.specs.ImageText.{image_cell_text}
use Rattle.of_report.proofs.Lines.{one_more_line}
use Rattle.of_image.proofs.printing.put_cells.Goals as goal

pub loop-cell-preserved : goal.loop-cell-preserved
loop-cell-preserved c = one_more_line image_cell_text c.args.words.now c.loop-cell.cell 0 _ _ _ (omega arith) c.loop-cell.invariant c.in_ok-put_cell.ensures
