use Rattle.std.proofs.Common.{◌≡◌, take}
use Rattle.of_mem.specs.CellMap.{put_all}
use Rattle.of_core.proofs.machine.logs.hand_to_log.Given as goal

abbrev pub invariant-loop-i : goal.invariant-loop-i
invariant-loop-i g l = record {
  entries : l.log.entries ≡ put_all l.initial.log.entries (take l.i l.fn.part.script);
  room : l.log.room ≡ l.initial.log.room;
  written : l.written ≡ l.fn.part;
}
