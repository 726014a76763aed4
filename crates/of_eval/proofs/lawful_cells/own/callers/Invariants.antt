use Rattle.of_mem.specs.ProgramWork.{memory_of}
use Rattle.of_eval.specs.Faults.{AllOwnCellsAreSound}
use Rattle.of_eval.proofs.lawful_cells.own.callers.Given as goal

abbrev pub invariant-loop-caller : goal.invariant-loop-caller
invariant-loop-caller l = AllOwnCellsAreSound l.plot.instrs (memory_of l.cells) l.caller
