use Rattle.of_cells.proofs.Called.{calls_counted}
use Rattle.of_cells.proofs.laws.calls_are_counted.Goals as goal

pub returns : goal.returns
returns g c = calls_counted g.W.Work.meaning
