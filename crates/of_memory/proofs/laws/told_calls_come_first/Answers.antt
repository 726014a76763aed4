use Rattle.of_memory.proofs.Times.{told_first}
use Rattle.of_memory.proofs.laws.told_calls_come_first.Goals as goal

pub returns : goal.returns
returns c = told_first
