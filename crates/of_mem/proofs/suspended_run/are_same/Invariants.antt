use Rattle.std.proofs.Common.{◌≡◌, ◌*◌, take}
use Rattle.of_mem.proofs.suspended_run.are_same.Given as goal

abbrev pub invariant-loop-i : goal.invariant-loop-i
invariant-loop-i l = record {
  same : take (4 * l.i) l.initial.words ≡ take (4 * l.i) l.initial.others;
}

abbrev pub invariant-loop-last : goal.invariant-loop-last
invariant-loop-last l = record {
  same : take l.last l.initial.words ≡ take l.last l.initial.others;
}
