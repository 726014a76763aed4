-- What recovery makes of the durable words of a moment is a row from which a table may start.
use Rattle.std.proofs.Common.{◌≡◌, ℕ, ◌<◌, ◌≤◌, ◌⊎◌, inl, inr, List, length, get_or, sym, ◌∙◌, subst, arith}
use Rattle.std.proofs.lemmas.Bool.{cases_lt}
use Rattle.std.proofs.lemmas.List.{ext_get_or, get_or_past}
use Rattle.of_cell.specs.Words.{seq_of, payload_of}
use Rattle.of_cell.specs.Cells.{data_cell}
use Rattle.of_cell.proofs.Order.{seq_zero}
use Rattle.of_recover.specs.Recovered.{recovered_words}
use Rattle.of_recover.proofs.Rows.{length-recovered}
use Rattle.of_recover.proofs.Kept.{data_at, others_kept, recovered_twice}
use Rattle.of_recover.proofs.Agreeing.{recovered_data-same}
use Rattle.of_core.specs.Table.{Setup, cell_count, durable_word, durable_seq}
use Rattle.of_core.specs.TableMoment.{Moment, TableStart}
use Rattle.of_core.specs.History.{state_after}
use Rattle.of_core.specs.WordsMatch.{MayStart}
use Rattle.of_core.specs.Invariant.{MeetsInvariant}
use Rattle.of_core.specs.Claim.{IsSound}
use Rattle.of_core.specs.Starts.{start_from_durable, IsStartRow, IsDurable, recovered_start}
use Rattle.of_core.proofs.States.{state_length, old}
use Rattle.of_core.proofs.Assembling.{logs_of}
use Rattle.of_core.proofs.Starts.{data_long, data_is}

module _ (S : Setup) (Lawful : List ℕ → Type 0) (B : TableStart) (w : Moment) (g : MeetsInvariant S Lawful B w) (sound : IsSound S B w) where
  abbrev st : List ℕ
  st = state_after B w.batches (durable_seq S w.words)

  long : length st ≡ S.cells
  long = state_length S B w.batches g.core.shared.start (logs_of g.core) (durable_seq S w.words) sound.from sound.reaches

  -- no word of the state is newer than its sequence
  none_newer : (a : ℕ) → seq_of (get_or st a 0) ≤ durable_seq S w.words
  none_newer a = go (cases_lt a S.cells)
    where
      go : (a < S.cells) ⊎ (S.cells ≤ a) → seq_of (get_or st a 0) ≤ durable_seq S w.words
      go (inl l) = old S B w.batches g.core.shared.start (logs_of g.core) (durable_seq S w.words) a sound.from sound.reaches l
      go (inr l) = rw (get_or_past st a 0 (omega (arith, long)), seq_zero) (omega arith)

  -- the state that recovery finds is a start that may be
  pub may_restart : MayStart S Lawful (recovered_start S B w)
  may_restart = record {
    start = record { owner_in = sound.owner; size = long; old = none_newer };
    lawful = g.core.shared.stands.lawful (durable_seq S w.words) sound.from sound.reaches;
    limit = omega (arith, sound.reaches, sound.limit);
  }

  module _ (row : List ℕ) (durable : IsDurable S w.words row) where
    abbrev found : List ℕ
    found = recovered_words S.callers S.cells row

    found_long : length found ≡ cell_count S
    found_long = length-recovered S.callers S.cells row ∙ durable.long

    first_is : get_or found 0 0 ≡ durable_word S w.words 0
    first_is = others_kept S.callers S.cells row durable.long 0 (omega (arith, durable.long)) (inl (omega arith)) (λ q. omega (arith, q)) ∙ durable.each 0 (omega arith)

    word_is : (a : ℕ) → a < S.cells → get_or found (data_cell S.callers a) 0 ≡ get_or st a 0
    word_is a l =
        data_at S.callers S.cells row durable.long a l
        ∙ recovered_data-same S.callers S.cells (λ c. get_or row c 0) (durable_word S w.words) durable.each a l (omega (arith, l, g.core.shared.little))
        ∙ sound.recovers a l

    cells_are : (start_from_durable S.callers S.cells found).cells ≡ st
    cells_are =
        let many : length (start_from_durable S.callers S.cells found).cells ≡ S.cells = data_long S.callers S.cells found found_long in
        ext_get_or 0 (start_from_durable S.callers S.cells found).cells st (many ∙ sym long) (λ a l. let u : a < S.cells = omega (arith, l, many) in data_is S.callers S.cells found a u ∙ word_is a u)

    -- the recovered row is the start at that state
    pub start_is : start_from_durable S.callers S.cells found ≡ recovered_start S B w
    start_is = λ i. record { seq = seq_of (first_is i); owner = payload_of (first_is i); cells = cells_are i }

    pub restarts : IsStartRow S Lawful found
    restarts = record {
      long = found_long;
      recovered = recovered_twice S.callers S.cells row durable.long;
      may_start = subst (MayStart S Lawful) (sym start_is) may_restart;
    }
