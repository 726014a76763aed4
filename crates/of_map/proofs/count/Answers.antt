use Rattle.of_map.proofs.GetsOn.{counts_on}
use Rattle.of_map.proofs.count.Goals as goal

pub returns-clause-answers : goal.returns-clause-answers
returns-clause-answers g c = counts_on c.args.plot.now _ (g.C.Cells.run c.get.new.self) c.get.result c.get.ensures.part (rw c.keys.ensures at c.get.ensures.runs)
