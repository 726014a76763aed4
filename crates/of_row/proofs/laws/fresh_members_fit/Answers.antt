use Rattle.of_row.proofs.FreshMembers.{fresh_fits}
use Rattle.of_row.proofs.laws.fresh_members_fit.Goals as goal

pub returns : goal.returns
returns g c B s r n below on none = fresh_fits _ (g.W.Work.lawful c.args.work) c.protocol.ensures B s r n below on none
