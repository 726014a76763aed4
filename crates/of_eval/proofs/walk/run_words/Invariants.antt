use Rattle.std.proofs.Common.{◌≡◌, ◌<◌, [], length}
use Rattle.of_mem.specs.Plots.{base}
use Rattle.of_mem.specs.SuspendedRun.{IsSuspensionOf}
use Rattle.of_eval.specs.Resuming.{part_with, MayResume}
use Rattle.of_eval.proofs.walk.run_words.Given as goal

abbrev pub invariant-loop-i : goal.invariant-loop-i
invariant-loop-i l = record {
  of : IsSuspensionOf l.kept l.fn.plot.callers l.fn.plot.blocks l.fn.op;
  done : l.kept.done ≡ l.i;
  below : l.i < length l.fn.op;
  goes : MayResume (base l.fn.plot) l.fn.plot.blocks l.kept (record l.fn.part { script = [] });
  part : l.part ≡ part_with l.fn.part.known l.fn.part.batch l.kept.writes;
  room : l.kept.room ≡ l.fn.kept.room;
  out : l.out ≡ l.fn.out;
}
