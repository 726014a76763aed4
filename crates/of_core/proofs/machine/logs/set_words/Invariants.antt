use Rattle.std.proofs.Common.{◌≡◌, ◌≤◌, length, take}
use Rattle.std.specs.Vec.{vec_capacity}
use Rattle.of_core.proofs.machine.logs.set_words.Given as goal

abbrev pub invariant-loop-i : goal.invariant-loop-i
invariant-loop-i l = record {
  words : l.list.items ≡ take l.i l.words;
  fits : length l.words ≤ vec_capacity l.list;
  room : vec_capacity l.list ≡ vec_capacity l.fn.list;
}
