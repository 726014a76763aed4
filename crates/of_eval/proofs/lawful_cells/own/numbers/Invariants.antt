use Rattle.std.proofs.Common.{ℕ, ◌<◌}
use Rattle.of_mem.specs.Places.{reply_at}
use Rattle.of_mem.specs.ProgramWork.{memory_of}
use Rattle.of_mem.specs.Numbers.{IsNumber}
use Rattle.of_eval.specs.Faults.{HasNumber}
use Rattle.of_eval.proofs.lawful_cells.own.numbers.Given as goal

abbrev pub invariant-loop-j : goal.invariant-loop-j
invariant-loop-j l = (i : ℕ) → i < l.j → HasNumber l.reply i → IsNumber (memory_of l.cells (reply_at l.plot.instrs l.caller i))
