use Rattle.std.proofs.lemmas.Result.{on_ok_weaker}
use Rattle.of_report.specs.ImageRow.{row_in}
use Rattle.of_image.proofs.PrintedImages.{printed_row}
use Rattle.of_image.proofs.printing.put_row.Goals as goal

pub returns : goal.returns
returns c =
    on_ok_weaker c.put_line-4.result
    (printed_row c.args.version (row_in c.args.plot.now c.args.words.now) c.number-number.result _ _ _ _ _ _ c.number-number.ensures
    c.in_ok-put_line.ensures c.in_ok-put_line-2.ensures c.in_ok-put_line-3.ensures c.in_ok-put_cells.ensures)
    c.put_line-4.ensures
