use Rattle.of_script.proofs.Words.{ends_behind}
use Rattle.of_plan.proofs.pieces.read_word.Goals as goal

pub returns-then-eq-clause-rest : goal.returns-then-eq-clause-rest
returns-then-eq-clause-rest c = ends_behind _ _ _ c.in-Some.ensures.parts
