use Rattle.std.proofs.Common.{◌≡◌, drop}
use Rattle.of_eval.specs.Scripts.{words_read}
use Rattle.of_eval.proofs.scripts.ScriptsWork.reads_only.Given as goal

abbrev pub invariant-loop-i : goal.invariant-loop-i
invariant-loop-i l = words_read (drop l.i l.op) ≡ words_read l.op
