use Rattle.std.proofs.Common.{◌≡◌, take}
use Rattle.of_mem.specs.CellMap.{put_all}
use Rattle.of_mem.proofs.part.Part.keep.Given as goal

abbrev pub invariant-loop-i : goal.invariant-loop-i
invariant-loop-i l = record {
  written : l.self-inside.batch.entries ≡ put_all l.initial.self-inside.batch.entries (take l.i l.initial.self-inside.script.entries);
  batch : l.self-inside.batch.room ≡ l.initial.self-inside.batch.room;
  script : l.self-inside.script ≡ l.initial.self-inside.script;
  cells : l.self-inside.cells ≡ l.initial.self-inside.cells;
  undone : l.self-inside.undone ≡ l.initial.self-inside.undone;
  last : l.self-inside.last ≡ l.initial.self-inside.last;
}
