use Rattle.of_image.specs.Grammar.{plan_grammar}
use Rattle.of_image.proofs.ImageFacts.{one_image}
use Rattle.of_image.proofs.laws.one_image.Goals as goal

pub returns : goal.returns
returns c = λ v. one_image (plan_grammar v)
