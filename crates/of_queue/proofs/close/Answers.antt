use Rattle.of_queue.proofs.PopsOn.{may_clear, clears}
use Rattle.of_queue.proofs.close.Goals as goal

pub give_back-requires : goal.give_back-requires
give_back-requires g c = may_clear c.args.plot.now c.args.queue c.args.block c.args.item c.args.link _ (g.C.Cells.run c.set.new.self) c.requires c.tail.result c.if-link-eq0.true c.tail.ensures c.set.ensures

pub returns-then-link-eq0 : goal.returns-then-link-eq0
returns-then-link-eq0 g c = clears c.args.plot.now c.args.queue c.args.block c.args.item c.args.link _ (g.C.Cells.run c.set.new.self) c.requires c.tail.result c.if-link-eq0.true c.tail.ensures c.set.ensures (g.C.Cells.run c.give_back.new.cells) c.give_back.result c.give_back.ensures
