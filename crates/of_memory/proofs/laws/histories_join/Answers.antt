use Rattle.of_memory.proofs.Joining.{histories_join}
use Rattle.of_memory.proofs.laws.histories_join.Goals as goal

pub returns : goal.returns
returns c = histories_join
