use Rattle.std.proofs.Common.{◌≡◌, take}
use Rattle.of_mem.proofs.write_set.WriteSet.copy_from.Given as goal

abbrev pub invariant-loop-i : goal.invariant-loop-i
invariant-loop-i l = record {
  copied : l.self.entries ≡ take l.i l.other.entries;
  room : l.self.room ≡ l.other.room;
  other : l.other ≡ l.initial.other;
}
