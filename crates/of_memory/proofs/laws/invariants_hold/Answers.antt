use Rattle.of_memory.proofs.Joining.{invariants_hold}
use Rattle.of_memory.proofs.laws.invariants_hold.Goals as goal

pub returns : goal.returns
returns c = invariants_hold
