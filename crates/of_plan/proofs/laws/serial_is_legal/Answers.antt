use Rattle.of_plan.proofs.SerialLegal.{serial_legal}
use Rattle.of_plan.proofs.laws.serial_is_legal.Goals as goal

pub returns : goal.returns
returns c = serial_legal
