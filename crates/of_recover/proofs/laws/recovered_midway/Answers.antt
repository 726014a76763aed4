use Rattle.of_recover.proofs.laws.recovered_midway.Goals as goal
use Rattle.of_recover.proofs.Fronts.{all_written, fronts_recover}

pub returns-clause-all : goal.returns-clause-all
returns-clause-all c = all_written _ _ c.args.durable.now c.requires

pub returns-clause-midway : goal.returns-clause-midway
returns-clause-midway c = fronts_recover _ _ c.args.durable.now c.requires c.args.made
