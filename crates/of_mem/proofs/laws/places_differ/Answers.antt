use Rattle.of_mem.proofs.laws.places_differ.Goals as goal
use Rattle.of_mem.proofs.PlotPlaces.{places_differ}

pub returns : goal.returns
returns c = places_differ c.args.plot
