use Rattle.of_lives.proofs.RenumberedStarts.{images_start}
use Rattle.of_lives.proofs.laws.renumbered_images_start.Goals as goal

pub returns : goal.returns
returns c = images_start
