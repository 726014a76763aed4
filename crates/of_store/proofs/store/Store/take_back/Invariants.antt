use Rattle.std.proofs.Common.{◌≡◌, ◌≤◌}
use Rattle.of_script.specs.declared.instr.TheConstants.{MOST_INSTRS}
use Rattle.of_store.specs.Changes.{AreThere, undone}
use Rattle.of_store.proofs.store.Store.take_back.Given as goal

-- the changes that are left are there, and without them it is the store without all
abbrev pub invariant-loop-left : goal.invariant-loop-left
invariant-loop-left l = record {
  few : l.left ≤ MOST_INSTRS;
  there : AreThere l.changes.list l.left l.self;
  back : undone l.changes.list l.left l.self ≡ undone l.changes.list l.changes.count l.fn.self;
}

abbrev pub decreases-loop-left : goal.decreases-loop-left
decreases-loop-left l = l.left
