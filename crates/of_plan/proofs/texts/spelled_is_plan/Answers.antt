use Rattle.of_plan.proofs.Ranges.{spelled_is_plan}
use Rattle.of_plan.proofs.texts.spelled_is_plan.Goals as goal

pub returns : goal.returns
returns c = spelled_is_plan
