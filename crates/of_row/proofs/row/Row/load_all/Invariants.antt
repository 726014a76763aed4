use Rattle.std.proofs.Common.{◌≡◌, ℕ, ◌<◌, ◌≤◌, length, get_or}
use Rattle.std.specs.Vec.{vec_capacity}
use Rattle.of_core.specs.Table.{durable_word}
use Rattle.of_row.specs.Rows.{setup_at}
use Rattle.of_row.specs.Passes.{words_of_past}
use Rattle.of_row.proofs.row.Row.load_all.Given as goal

-- the seat stays, the first words are loaded, and there is room for the others
abbrev pub invariant-loop-cell : goal.invariant-loop-cell
invariant-loop-cell g l = record {
  table : l.seat.table_id ≡ l.fn.seat.table_id;
  me : l.seat.me ≡ l.fn.seat.me;
  long : length l.words.items ≡ l.cell;
  within : l.cell ≤ l.count;
  fits : l.count ≤ vec_capacity l.words;
  each : (c : ℕ) → c < l.cell → get_or l.words.items c 0 ≡ durable_word (setup_at g.W.Work.meaning l.self) (words_of_past g.W.Work.meaning l.self l.fn.seat.me.0) c;
}
