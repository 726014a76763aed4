use Rattle.of_memory.proofs.Times.{in_turn}
use Rattle.of_memory.proofs.laws.calls_come_in_turn.Goals as goal

pub returns : goal.returns
returns c = in_turn
