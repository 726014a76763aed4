use Rattle.std.proofs.Common.{◌≡◌, Some, [], length, take, replicate}
use Rattle.of_eval.specs.Scripts.{scripts_data_cells}
use Rattle.of_serial.proofs.serial_run.cells.Cells.new.Given as goal

-- the first cells are known to be 0
abbrev pub invariant-loop-cell : goal.invariant-loop-cell
invariant-loop-cell l = record {
  size : length l.part.known ≡ scripts_data_cells l.scripts;
  zeros : take l.cell l.part.known ≡ replicate l.cell (Some 0);
  batch : l.part.batch ≡ [];
  script : l.part.script ≡ [];
}
