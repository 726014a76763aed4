use Rattle.std.proofs.Common.{◌≡◌, length}
use Rattle.std.specs.Prelude.{Some}
use Rattle.of_mem.specs.declared.work.TheConstants.{MOST_INSTRS}
use Rattle.of_row.specs.Rows.{key_of, setup_at, IsSeatOf}
use Rattle.of_row.specs.Passes.{words_of_past}
use Rattle.of_row.specs.Replacing.{HasLearntAt}
use Rattle.of_row.specs.Looking.{StaysAtRest, AreFirstNumbers}
use Rattle.of_row.proofs.row.Row.load_values.Given as goal

abbrev pub ghosts-look_up : goal.ghosts-look_up
ghosts-look_up g a = record { key = Some (key_of a.self.now) }

-- the first numbers are loaded, and are in the cells still if the table has stayed at rest
abbrev pub invariant-loop-place : goal.invariant-loop-place
invariant-loop-place g l = record {
  row : IsSeatOf l.self l.seat;
  learnt : HasLearntAt g.W.Work.meaning g.W.Work.lawful l.self l.fn.seat.me.0 l.seat.me.0;
  long : length l.values ≡ MOST_INSTRS;
  each : StaysAtRest g.W.Work.meaning l.self l.fn.seat.me.0 l.seat.me.0
      → AreFirstNumbers (setup_at g.W.Work.meaning l.self) (words_of_past g.W.Work.meaning l.self l.seat.me.0) l.number l.place l.values;
}
