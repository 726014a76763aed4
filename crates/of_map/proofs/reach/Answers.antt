use Rattle.of_mem.proofs.OnDemand.{may_rest, rests_same}
use Rattle.of_map.specs.Found.{HasBucketChain}
use Rattle.of_map.specs.MapPrograms.{seek}
use Rattle.of_map.proofs.Knows.{leads_bucket}
use Rattle.of_map.proofs.reach.Goals as goal

pub seek-requires : goal.seek-requires
seek-requires c = may_rest (seek c.args.plot.now c.args.key) (λ p. HasBucketChain c.args.plot.now p c.args.key) c.args.part.now (leads_bucket c.args.plot.now c.args.part.now c.args.key c.requires)

pub returns-clause-part : goal.returns-clause-part
returns-clause-part c = rests_same c.args.part.now c.seek.new.cells c.in_ok-seek.ensures.part c.in_ok-seek.ensures.runs.goes
