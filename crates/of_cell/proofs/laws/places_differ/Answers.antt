use Rattle.of_cell.proofs.laws.places_differ.Goals as goal
use Rattle.of_cell.proofs.Places.{places_differ, places_below}

pub returns-clause-differ : goal.returns-clause-differ
returns-clause-differ c = places_differ _ _ _

pub returns-clause-below : goal.returns-clause-below
returns-clause-below c = places_below _ _ _
