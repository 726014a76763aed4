use Rattle.of_row.proofs.Members.{fresh_member, member_in_range, new_member, begun_member}
use Rattle.of_row.proofs.laws.members.Goals as goal

pub returns-clause-fresh : goal.returns-clause-fresh
returns-clause-fresh g c = fresh_member g.W.Work.meaning

pub returns-clause-range : goal.returns-clause-range
returns-clause-range g c = member_in_range

pub returns-clause-first : goal.returns-clause-first
returns-clause-first g c = new_member g.W.Work.meaning

pub returns-clause-begun : goal.returns-clause-begun
returns-clause-begun g c = begun_member g.W.Work.meaning
