use Rattle.of_plan.proofs.InputParts.{one_cut}
use Rattle.of_plan.proofs.texts.one_cut.Goals as goal

pub returns : goal.returns
returns c = one_cut
