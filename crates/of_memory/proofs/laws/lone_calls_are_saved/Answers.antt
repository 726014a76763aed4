use Rattle.of_memory.proofs.Alone.{lone_calls_are_saved}
use Rattle.of_memory.proofs.laws.lone_calls_are_saved.Goals as goal

pub returns : goal.returns
returns c = lone_calls_are_saved
