use Rattle.of_image.specs.Grammar.{plan_grammar}
use Rattle.of_image.proofs.ImageFacts.{unlawful_excludes, one_unlawful}
use Rattle.of_image.proofs.laws.unlawful_have_none.Goals as goal

pub returns : goal.returns
returns c = record { none = λ v. unlawful_excludes (plan_grammar v); one = λ v. one_unlawful (plan_grammar v) }
