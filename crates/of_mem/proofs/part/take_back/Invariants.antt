use Rattle.std.proofs.Common.{◌≡◌, drop}
use Rattle.of_mem.specs.Newest.{HasNewest}
use Rattle.of_mem.proofs.part.take_back.Given as goal

abbrev pub invariant-loop-i : goal.invariant-loop-i
invariant-loop-i l = record {
  newest : HasNewest (record { known = l.initial.cells.known; batch = l.initial.batch.entries; script = drop l.i l.initial.script.entries }) l.cells.newest;
  batch : l.batch ≡ l.initial.batch;
  script : l.script ≡ l.initial.script;
  known : l.cells.known ≡ l.initial.cells.known;
}
