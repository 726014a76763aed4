use Rattle.of_lives.proofs.AllLives.{renumbered_lives}
use Rattle.of_lives.proofs.laws.renumbered_lives.Goals as goal

pub returns : goal.returns
returns c = renumbered_lives
