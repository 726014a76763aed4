use Rattle.of_plan.proofs.BadPieces.{none_next}
use Rattle.of_plan.proofs.pieces.next_word.Goals as goal

pub returns-in-None : goal.returns-in-None
returns-in-None c = none_next c.args.bytes.now c.in-None.ensures.words
