use Rattle.std.proofs.Common.{Ok}
use Rattle.of_alloc.proofs.TakingsOn.{gives, gives_on}
use Rattle.of_alloc.proofs.give.Goals as goal

pub returns-clause-runs : goal.returns-clause-runs
returns-clause-runs g c = gives c.args.plot.now c.args.block _ _ _ _ c.in_ok-front.front c.free.result c.block.result c.free-2.result c.free.ensures c.block.ensures c.free-2.ensures c.in_ok-front.ensures.runs c.set.ensures c.set-2.ensures

pub returns-clause-gives : goal.returns-clause-gives
returns-clause-gives g c = gives_on c.args.plot.now c.args.block _ _ (Ok tt) (returns-clause-runs g c)
