use Rattle.of_cells.proofs.Times.{told_first}
use Rattle.of_cells.proofs.laws.told_calls_come_first.Goals as goal

pub returns : goal.returns
returns g c = told_first g.W.Work.meaning
