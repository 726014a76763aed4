use Rattle.std.proofs.Common.{◌≡◌, [], take}
use Rattle.of_mem.specs.CellMap.{put_all}
use Rattle.of_core.proofs.machine.logs.put_writes.Given as goal

abbrev pub invariant-loop-i : goal.invariant-loop-i
invariant-loop-i g l = record {
  part : l.part ≡ record l.fn.part { script = put_all [] (take l.i l.fn.writes.entries) };
}
