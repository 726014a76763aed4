use Rattle.of_recover.proofs.Anew.{begins_anew}
use Rattle.of_recover.proofs.laws.renumbered_row.Goals as goal

pub returns : goal.returns
returns c = begins_anew _ _ c.args.durable.now c.requires
