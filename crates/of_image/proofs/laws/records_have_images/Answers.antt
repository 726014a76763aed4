use Rattle.of_image.proofs.RunImages.{has_image}
use Rattle.of_image.proofs.laws.records_have_images.Goals as goal

pub returns : goal.returns
returns c = has_image
