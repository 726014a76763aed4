use Rattle.of_row.proofs.Members.{idle_member}
use Rattle.of_row.proofs.laws.idle_members.Goals as goal

pub returns : goal.returns
returns g c = idle_member g.W.Work.meaning
