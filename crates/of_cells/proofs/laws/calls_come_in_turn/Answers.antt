use Rattle.of_cells.proofs.Times.{come_in_turn}
use Rattle.of_cells.proofs.laws.calls_come_in_turn.Goals as goal

pub returns : goal.returns
returns g c = come_in_turn g.W.Work.meaning
