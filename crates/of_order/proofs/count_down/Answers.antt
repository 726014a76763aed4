use Rattle.of_order.proofs.DropsOn.{counted}
use Rattle.of_order.proofs.count_down.Goals as goal

pub returns-in_ok-keys : goal.returns-in_ok-keys
returns-in_ok-keys g c = counted c.args.plot.now c.args.gone _ _ _ c.in_ok-keys.keys c.keys.result c.keys-then-gone-ne0.result c.if-gone-ne0.true c.keys.ensures c.keys-then-gone-ne0.ensures c.in_ok-keys.ensures.runs c.set.ensures
