use Rattle.std.proofs.Common.{arith}
use Rattle.of_serial.proofs.KnownCells.{zeros_hold}
use Rattle.of_serial.proofs.serial_run.cells.Cells.new.Goals as goal

pub returns : goal.returns
returns c = zeros_hold _ c.loop-cell.part c.loop-cell.cell (omega (arith, c.cells-cell-end.ensures)) c.loop-cell.invariant.size c.loop-cell.invariant.zeros c.loop-cell.invariant.batch c.loop-cell.invariant.script
