use Rattle.of_caller.proofs.Restarting.{runs_restart}
use Rattle.of_caller.proofs.laws.runs_restart.Goals as goal

pub returns : goal.returns
returns c = runs_restart
