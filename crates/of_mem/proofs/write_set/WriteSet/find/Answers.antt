use Rattle.of_mem.proofs.Listed.{is_write_set}
use Rattle.of_mem.proofs.write_set.WriteSet.find.Goals as goal

pub returns-clause-map : goal.returns-clause-map
returns-clause-map c = rw (← c.self.view_is) (is_write_set _ _ _ _ _ _ c.self.invariant)
