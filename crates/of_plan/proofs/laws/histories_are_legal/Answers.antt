use Rattle.of_plan.proofs.HistoriesLegal.{histories_legal}
use Rattle.of_plan.proofs.laws.histories_are_legal.Goals as goal

pub returns : goal.returns
returns c = histories_legal
