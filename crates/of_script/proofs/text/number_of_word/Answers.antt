use Rattle.of_script.proofs.Words.{ends_behind}
use Rattle.of_script.proofs.text.number_of_word.Goals as goal

pub returns-clause-rest : goal.returns-clause-rest
returns-clause-rest c = ends_behind _ _ _ c.in_ok-first.ensures.parts
