use Rattle.of_cell.proofs.laws.cells_differ.Goals as goal
use Rattle.of_cell.proofs.Places.{cells_differ, cells_below}

pub returns-clause-differ : goal.returns-clause-differ
returns-clause-differ c = cells_differ _ _

pub returns-clause-below : goal.returns-clause-below
returns-clause-below c = cells_below _ _
