-- The last reply of a number that was looked up on a row is what recovery finds in the durable words of this moment.
use Rattle.std.proofs.Common.{◌≡◌, ℕ, ◌+◌, ◌*◌, ◌≤◌, ◌<◌, List, length, get_or, sym, ◌∙◌, ap, subst, arith}
use Rattle.std.specs.Prelude.{slice_index}
use Rattle.std.proofs.lemmas.List.{get_or-map}
use mathlib.Core.List.{IsPrefix}
use Rattle.of_cell.specs.Words.{payload_of}
use Rattle.of_cell.specs.Cells.{data_cell}
use Rattle.of_mem.specs.Meaning.{Meaning}
use Rattle.of_mem.specs.declared.work.RawReply.{RawReply}
use Rattle.of_mem.proofs.Lists.{part_at}
use Rattle.of_recover.specs.Recovered.{recovered_words}
use Rattle.of_recover.proofs.Agreeing.{recovered_data-same}
use Rattle.of_recover.proofs.Kept.{data_at}
use Rattle.of_core.specs.Table.{Setup, setup_of, cell_count, durable_word, durable_at, data_word, ticket_cell, shape_cell, reply_cell}
use Rattle.of_core.specs.TableMoment.{TableStart}
use Rattle.of_core.specs.Starts.{IsDurable, start_from_durable}
use Rattle.of_row.specs.Trail.{moment}
use Rattle.of_row.specs.Views.{View}
use Rattle.of_row.specs.Looking.{FindsLast, FindsLastAt}
use Rattle.of_row.specs.Replacing.{HasLearntAt}
use Rattle.of_row.specs.Rows.{key_of, setup_at, row_start, view_of_pass}
use Rattle.of_row.proofs.RowLaws.{word_at}
use Rattle.of_cells.specs.declared.memory.CellMemory.{CellMemory}
use Rattle.of_cells.specs.Memories.{row_of}
use Rattle.of_cells.specs.Looking.{WasSoMeanwhile, HoldLast, events_looked}
use Rattle.of_cells.specs.Moments.{HoldsHistory, RowsHoldHistory, numbers_found}

module _ (callers cells limit : ℕ) (M : Meaning) (L : List ℕ → Type 0) (B : TableStart) (w : View) (n ticket : ℕ) (raw : RawReply) (f : FindsLast (setup_of callers cells limit M) L B w n ticket raw) (small : cells < 4294967296) (own : n * 18 + 18 ≤ cells)
    (law : RowsHoldHistory L (setup_of callers cells limit M)) where
  abbrev S : Setup
  S = setup_of callers cells limit M

  abbrev ws : List ℕ
  ws = (moment S B w.past).words

  abbrev words : List ℕ
  words = f.words

  durable : IsDurable S f.state.words words
  durable = f.durable

  pub holds : HoldsHistory S L B f.state words
  holds = law B f.state f.rule words durable

  -- the words of the state are those of the moment
  durable_same : (c : ℕ) → c < length words → get_or words c 0 ≡ durable_word S ws c
  durable_same c l =
      let low : c < cell_count S = omega (arith, l, durable.long) in
      durable.each c low ∙ (word_at S L B f.state f.rule (durable_at S c) (omega (arith, low)) ∙ ap (λ es. durable_word S (moment S B es).words c) f.now)

  found_at : (a : ℕ) → a < cells → get_or (numbers_found callers cells words) a 0 ≡ payload_of (data_word S ws a)
  found_at a l =
      let found : List ℕ = recovered_words callers cells words in
      let size : length (start_from_durable callers cells found).cells ≡ cells = holds.row.may_start.start.size in
      let e : data_cell callers 0 + a ≡ data_cell callers a = omega arith in
      get_or-map payload_of (start_from_durable callers cells found).cells a 0 0 (omega (arith, l, size))
      ∙ ap payload_of (part_at found (data_cell callers 0) cells a l ∙ ap (λ k. get_or found k 0) e ∙ data_at callers cells words durable.long a l
      ∙ recovered_data-same callers cells (slice_index words) (durable_word S ws) (λ c low. durable_same c (omega (arith, low, durable.long))) a l (omega (arith, l, small))
      ∙ f.recovers a l)

  pub holds_last : HoldLast (numbers_found callers cells words) n ticket raw
  holds_last = record {
    ticket_is = found_at (ticket_cell S n) (omega (arith, own)) ∙ sym f.cells.ticket_is;
    shape = f.cells.shape ∙ sym (found_at (shape_cell S n) (omega (arith, own)));
    long = f.cells.long;
    numbers = λ y l. f.cells.numbers y l ∙ sym (found_at (reply_cell S n y) (omega (arith, own, l)));
  }

-- a memory that has looked up the last reply of a number
pub looked : {X : Type 0} (meaning : X → Meaning) (lawful : X → List ℕ → Type 0) (m k : CellMemory X) (n ticket : ℕ) (raw : RawReply)
    → HasLearntAt meaning lawful (row_of m) (view_of_pass m.pass) (view_of_pass k.pass) → FindsLastAt meaning lawful (row_of m) (view_of_pass k.pass) n ticket raw
    → (key_of (row_of m)).cells < 4294967296 → n * 18 + 18 ≤ (key_of (row_of m)).cells → RowsHoldHistory (lawful (key_of (row_of m)).work) (setup_at meaning (row_of m))
    → (P : List ℕ → Type 0) → ((xs : List ℕ) → HoldLast xs n ticket raw → P xs) → WasSoMeanwhile meaning lawful P m k
looked meaning lawful m k n ticket raw learnt f small own law P so =
    let key = key_of (row_of m) in
    let L : List ℕ → Type 0 = lawful key.work in
    let B : TableStart = row_start meaning (row_of m) in
    record {
      state = f.state;
      rule = f.rule;
      since = subst (IsPrefix (events_looked m)) (sym f.now) learnt.past;
      now = f.now;
      words = f.words;
      durable = f.durable;
      found = so (numbers_found key.callers key.cells f.words) (holds_last key.callers key.cells key.limit (meaning key.work) L B (view_of_pass k.pass) n ticket raw f small own law);
      history = holds key.callers key.cells key.limit (meaning key.work) L B (view_of_pass k.pass) n ticket raw f small own law;
    }
