use Rattle.of_plan.proofs.PrintedPlans.{printed_again}
use Rattle.of_plan.proofs.texts.printed_is_read.Goals as goal

pub returns : goal.returns
returns c = printed_again
