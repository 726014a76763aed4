use Rattle.of_cells.proofs.Still.{memories_stay}
use Rattle.of_cells.proofs.laws.memories_stay.Goals as goal

pub returns : goal.returns
returns g c = memories_stay g.W.Work.meaning
