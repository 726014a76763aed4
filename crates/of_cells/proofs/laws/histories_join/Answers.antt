use Rattle.of_cells.proofs.Still.{histories_join}
use Rattle.of_cells.proofs.laws.histories_join.Goals as goal

pub returns : goal.returns
returns g c = histories_join (g.W.Work.meaning c.args.work)
