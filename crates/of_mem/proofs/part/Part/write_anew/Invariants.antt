use Rattle.std.proofs.Common.{◌≡◌, take}
use Rattle.of_mem.proofs.part.Part.write_anew.Given as goal

abbrev pub invariant-loop-i : goal.invariant-loop-i
invariant-loop-i l = record {
  written : l.self ≡ record l.initial.self { script = take l.i l.writes.entries };
  writes : l.writes ≡ l.initial.writes;
}
