use Rattle.of_recover.proofs.laws.recovered_underway.Goals as goal
use Rattle.of_recover.proofs.Fronts.{underway_recovers}

pub returns : goal.returns
returns c = underway_recovers _ _ c.args.durable.now c.args.later.now c.requires.row c.requires.underway
