use Rattle.of_report.specs.ImageLaw.{NoneNewer}
use Rattle.of_image.proofs.restore.first_newer.Given as goal

-- none of the cells so far
abbrev pub invariant-loop-a : goal.invariant-loop-a
invariant-loop-a l = NoneNewer l.shape.callers l.words l.a
