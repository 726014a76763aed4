use Rattle.std.proofs.Common.{◌≡◌, ◌∙◌}
use Rattle.of_mem.specs.Plots.{base}
use Rattle.of_mem.specs.SuspendedRun.{IsSuspensionOf, begin_run}
use Rattle.of_eval.proofs.Resumed.{begun_goes, goes_there}
use Rattle.of_eval.proofs.walk.resume.Goals as goal
use Rattle.of_eval.proofs.walk.resume.Goals.{then-not-is_of, else-not-is_of}

pub returns-clause-goes : goal.returns-clause-goes
returns-clause-goes c = elim c.if-not-is_of.branch [
  | then-not-is_of w ↦ (
      let new : c.if-not-is_of.kept ≡ begin_run c.args.kept.now.room c.args.plot.now.callers c.args.plot.now.blocks c.args.op.now = w.kept-is ∙ w.begin.ensures in
      rw new (begun_goes (base c.args.plot.now) c.args.plot.now.blocks c.args.kept.now.room c.args.plot.now.callers c.args.plot.now.blocks c.args.op.now c.args.part.now c.requires.words.some))
  | else-not-is_of w ↦ (
      let was : IsSuspensionOf c.args.kept.now c.args.plot.now.callers c.args.plot.now.blocks c.args.op.now = c.is_of.ensures.0 w.if-not-is_of.false in
      rw w.kept-is (goes_there c.args.plot.now c.args.kept.now c.args.part.now c.args.op.now was c.requires.instrs c.requires.words.some c.requires.holds))
]
