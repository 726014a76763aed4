use Rattle.std.proofs.Common.{◌≡◌, ◌+◌, take}
use Rattle.of_mem.specs.CellMap.{put_all}
use Rattle.of_core.specs.Machine.{cells_from}
use Rattle.of_core.proofs.machine.logs.put_reply.Given as goal

abbrev pub invariant-loop-j : goal.invariant-loop-j
invariant-loop-j g l = record {
  script : l.part.script ≡ put_all l.initial.part.script (cells_from (l.row + 2) (take l.j l.raw.values));
  known : l.part.known ≡ l.initial.part.known;
  batch : l.part.batch ≡ l.initial.part.batch;
}
