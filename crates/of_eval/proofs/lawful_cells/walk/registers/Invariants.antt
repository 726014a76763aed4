use Rattle.of_mem.specs.Plots.{base}
use Rattle.of_mem.specs.ProgramWork.{memory_of}
use Rattle.of_eval.specs.Faults.{AreNumbers}
use Rattle.of_eval.proofs.lawful_cells.walk.registers.Given as goal

abbrev pub invariant-loop-r : goal.invariant-loop-r
invariant-loop-r l = AreNumbers (base l.plot) (memory_of l.cells) l.r
