use Rattle.of_plan.proofs.OnePlan.{one_plan}
use Rattle.of_plan.proofs.texts.one_plan.Goals as goal

pub returns : goal.returns
returns c = one_plan
