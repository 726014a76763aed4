use Rattle.of_row.proofs.Wholes.{sees_own, sees_legal}
use Rattle.of_row.proofs.laws.sees_own.Goals as goal

pub returns-clause-own : goal.returns-clause-own
returns-clause-own g c B ws v m live = sees_own _ (g.W.Work.lawful c.args.work) c.protocol.ensures B ws v m live

pub returns-clause-legal : goal.returns-clause-legal
returns-clause-legal g c B ws v m live = sees_legal _ (g.W.Work.lawful c.args.work) c.protocol.ensures B ws v m live
