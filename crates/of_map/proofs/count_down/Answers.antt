use Rattle.of_map.proofs.DelsOn.{counted}
use Rattle.of_map.proofs.count_down.Goals as goal

pub returns : goal.returns
returns g c = counted c.args.plot.now c.args.value _ _ _ c.in_ok-keys.keys c.keys.result c.keys-2.result c.keys.ensures c.keys-2.ensures c.in_ok-keys.ensures.runs c.set.ensures
