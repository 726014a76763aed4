use Rattle.std.proofs.Common.{◌≡◌, drop, take}
use Rattle.of_mem.specs.CellMap.{put_all}
use Rattle.of_core.specs.Machine.{log_of}
use Rattle.of_core.proofs.machine.logs.put_entries.Given as goal

abbrev pub invariant-loop-j : goal.invariant-loop-j
invariant-loop-j l = record {
  entries : l.log.entries ≡ put_all l.initial.log.entries (drop l.from (take l.j (log_of l.copy)));
  room : l.log.room ≡ l.initial.log.room;
}
