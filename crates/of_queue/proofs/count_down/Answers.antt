use Rattle.of_queue.proofs.PopsOn.{counted}
use Rattle.of_queue.proofs.count_down.Goals as goal

pub returns : goal.returns
returns g c = counted c.args.plot.now c.args.queue c.args.item _ _ _ c.in_ok-items.items c.length.result c.length-2.result c.length.ensures c.length-2.ensures c.in_ok-items.ensures.runs c.set.ensures
