use Rattle.std.specs.Prelude.{Some}
use Rattle.of_row.specs.Rows.{key_of}
use Rattle.of_row.proofs.row.Row.load_script.Given as goal
use Rattle.std.proofs.Common.{◌≡◌, ℕ, ◌<◌, length, get_or}
use Rattle.of_mem.specs.declared.work.TheConstants.{MOST_INSTRS}
use Rattle.of_core.specs.Table.{script_word}
use Rattle.of_row.specs.Rows.{setup_at, IsSeatOf}
use Rattle.of_row.specs.Passes.{words_of_past}
use Rattle.of_row.specs.Replacing.{HasLearntAt}

abbrev pub ghosts-look_up : goal.ghosts-look_up
ghosts-look_up g a = record { key = Some (key_of a.self.now) }

-- the first script words are loaded, and are so in the words that the events known now leave
abbrev pub invariant-loop-place : goal.invariant-loop-place
invariant-loop-place g l = record {
  row : IsSeatOf l.self l.seat;
  learnt : HasLearntAt g.W.Work.meaning g.W.Work.lawful l.self l.fn.seat.me.0 l.seat.me.0;
  long : length l.script ≡ MOST_INSTRS;
  each : (y : ℕ) → y < l.place → get_or l.script y 0 ≡ script_word (setup_at g.W.Work.meaning l.self) (words_of_past g.W.Work.meaning l.self l.seat.me.0) l.number y;
}
