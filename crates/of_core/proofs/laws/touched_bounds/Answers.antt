use Rattle.of_core.proofs.TouchedMoments.{bound_of_writes, bound_of_transfers}
use Rattle.of_core.proofs.laws.touched_bounds.Goals as goal

pub returns : goal.returns
returns c = record { writes = bound_of_writes; transfers = bound_of_transfers }
