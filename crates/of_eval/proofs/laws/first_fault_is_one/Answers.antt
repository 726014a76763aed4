use Rattle.of_eval.proofs.OneFault.{one_fault}
use Rattle.of_eval.proofs.laws.first_fault_is_one.Goals as goal

pub returns : goal.returns
returns c = one_fault
