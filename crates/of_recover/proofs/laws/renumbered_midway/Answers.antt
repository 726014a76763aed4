use Rattle.of_recover.proofs.laws.renumbered_midway.Goals as goal
use Rattle.of_recover.proofs.AnewPartly.{all_anew, fronts_begin}

pub returns-clause-all : goal.returns-clause-all
returns-clause-all c = all_anew _ _ c.args.durable.now

pub returns-clause-midway : goal.returns-clause-midway
returns-clause-midway c = fronts_begin _ _ c.args.durable.now c.requires.row c.requires.closed c.args.made
