use Rattle.of_row.proofs.Wholes.{evictions_raised}
use Rattle.of_row.proofs.laws.evictions_are_raised.Goals as goal

pub returns : goal.returns
returns g c S B ws v m live = evictions_raised S (g.W.Work.lawful c.args.work) B ws v m live
