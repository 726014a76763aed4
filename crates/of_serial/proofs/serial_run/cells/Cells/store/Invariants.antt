use Rattle.std.proofs.Common.{◌≡◌, Some, map, take}
use Rattle.of_mem.specs.Part.{overlaid}
use Rattle.of_serial.proofs.serial_run.cells.Cells.store.Given as goal

-- the numbers of the first cells
abbrev pub invariant-loop-cell : goal.invariant-loop-cell
invariant-loop-cell l = map Some l.cells.items ≡ take l.cell (overlaid l.self.part.known l.self.part.batch)
