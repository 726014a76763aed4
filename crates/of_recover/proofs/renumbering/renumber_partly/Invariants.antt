use Rattle.std.proofs.Common.{◌≡◌, take}
use Rattle.of_recover.specs.Renumbered.{renumbering_writes}
use Rattle.of_recover.specs.Writes.{words_after_writes}
use Rattle.of_recover.proofs.renumbering.renumber_partly.Given as goal

abbrev pub invariant-loop-made : goal.invariant-loop-made
invariant-loop-made l = l.durable ≡ words_after_writes (take l.made (renumbering_writes l.shape.callers l.shape.cells l.fn.durable)) l.fn.durable
