use Rattle.std.proofs.Common.{arith}
use Rattle.of_mem.proofs.write_set.WriteSet.len.Goals as goal
use Rattle.of_mem.proofs.Chains.{entries_size}
use Rattle.of_mem.proofs.Listed.{few, is_write_set}

pub overflow_cast-result : goal.overflow_cast-result
overflow_cast-result c = omega (arith, few _ _ _ _ _ _ c.self.invariant, entries_size c.self.inside.entries.items, c.self.invariant.fits)

pub returns-clause-map : goal.returns-clause-map
returns-clause-map c = rw (← c.self.view_is) (is_write_set _ _ _ _ _ _ c.self.invariant)
