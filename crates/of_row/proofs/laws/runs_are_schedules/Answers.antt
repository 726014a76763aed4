use Rattle.of_row.proofs.Runs.{runs_are_schedules}
use Rattle.of_row.proofs.laws.runs_are_schedules.Goals as goal

pub returns : goal.returns
returns g c B ws v m live first none all unlost = runs_are_schedules _ (g.W.Work.lawful c.args.work) c.protocol.ensures B ws v m live first none all unlost
