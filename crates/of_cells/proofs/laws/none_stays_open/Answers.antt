use Rattle.of_cells.proofs.Still.{none_stays_open}
use Rattle.of_cells.proofs.laws.none_stays_open.Goals as goal

pub returns : goal.returns
returns g c = none_stays_open _
