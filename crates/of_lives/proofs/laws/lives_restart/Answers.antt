use Rattle.of_lives.proofs.Restarting.{lives_restart}
use Rattle.of_lives.proofs.laws.lives_restart.Goals as goal

pub returns : goal.returns
returns c = lives_restart c.runs_restart.ensures
