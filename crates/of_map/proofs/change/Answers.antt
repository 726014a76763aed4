use Rattle.of_map.proofs.PutsOn.{changed}
use Rattle.of_map.proofs.change.Goals as goal

pub returns-clause-runs : goal.returns-clause-runs
returns-clause-runs g c = changed c.args.plot.now c.args.block c.args.value _ _ _ c.in_ok-before.before c.block-cell.result c.block-cell.ensures c.in_ok-before.ensures.runs c.set.ensures
