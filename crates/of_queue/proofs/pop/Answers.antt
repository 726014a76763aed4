use Rattle.std.proofs.Common.{rules, None, Ok}
use Rattle.of_queue.proofs.PopsOn.{may_pop, pops_some, pops_on}
use Rattle.of_queue.proofs.pop.Goals as goal

pub returns-then-head-eq0-clause-acts : goal.returns-then-head-eq0-clause-acts
returns-then-head-eq0-clause-acts g c = pops_on c.args.plot.now c.args.queue c.requires.queue (g.C.Cells.run c.args.cells.now) (g.C.Cells.run c.get.new.self) (Ok None) (search rules)

pub pop_front-requires : goal.pop_front-requires
pop_front-requires g c = may_pop c.args.plot.now c.args.queue c.requires.queue _ (g.C.Cells.run c.get.new.self) c.requires.may c.in_ok-head.head c.head.result c.head.ensures c.in_ok-head.ensures.runs c.if-head-eq0.false

pub returns-clause-runs : goal.returns-clause-runs
returns-clause-runs g c = pops_some c.args.plot.now c.args.queue c.requires.queue _ (g.C.Cells.run c.get.new.self) c.requires.may c.in_ok-head.head c.head.result c.head.ensures c.in_ok-head.ensures.runs (g.C.Cells.run c.pop_front.new.cells) c.pop_front.result c.if-head-eq0.false c.pop_front.ensures

pub returns-clause-acts : goal.returns-clause-acts
returns-clause-acts g c = pops_on c.args.plot.now c.args.queue c.requires.queue _ (g.C.Cells.run c.pop_front.new.cells) c.pop_front.result (returns-clause-runs g c)
