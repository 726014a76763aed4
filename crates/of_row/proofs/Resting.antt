-- A table at rest: no cell falls, and while no transaction is open and none is committed, no data cell changes and
-- recovery would find each data cell as it is.
use Rattle.std.proofs.Common.{◌≡◌, ℕ, ◌+◌, ◌-◌, ◌<◌, ◌≤◌, ◌⊎◌, inl, inr, List, [], ◌∷◌, ◌++◌, length, get_or, sym, ◌∙◌, ap, subst, arith}
use Rattle.std.proofs.lemmas.List.{append-nil, length-append, get_or_default}
use mathlib.Core.List.{IsPrefix}
use Rattle.of_cell.specs.Words.{pack, seq_of, payload_of}
use Rattle.of_core.specs.Table.{Setup, words_before_members, cell_count, current_word, request_of, durable_word, data_word, committed_seq, committed_owner}
use Rattle.of_core.specs.Machine.{CallState, no_machine}
use Rattle.of_core.specs.Steps.{word_found}
use Rattle.of_core.specs.TableMoment.{Moment, TableStart, Batch}
use Rattle.of_core.specs.History.{data_word_after}
use Rattle.of_core.specs.WordsMatch.{MayStart, IsLastOpen}
use Rattle.of_core.specs.Claim.{IsSound}
use Rattle.of_core.specs.Guarantees.{Guarantees}
use Rattle.of_core.specs.Invariant.{MeetsInvariant}
use Rattle.of_core.specs.Events.{Event, Begins, Turns, Loads, Evicts, Raises, Revives, machine_in, after_event, after_events, IsSchedule, MayHappen}
use Rattle.of_core.proofs.Parts.{GoesOn, run_append, first_part, second_part, goes_on}
use Rattle.of_row.specs.Trail.{first_of, moment}
use Rattle.of_row.specs.RowLaws.{RowLaws}
use Rattle.of_row.specs.Looking.{IsAtRest, RecoversAsItIs}
use Rattle.of_row.proofs.Revivable.{lowers_none}

-- no word of a cell falls, and no durable word
pub record Rises (S : Setup) (ws vs : List ℕ) : Type 0 where
  pub cells : (c : ℕ) → c < cell_count S → get_or ws c 0 ≤ get_or vs c 0
  pub durs : (c : ℕ) → c < cell_count S → durable_word S ws c ≤ durable_word S vs c

none_falls : (S : Setup) (ws : List ℕ) → Rises S ws ws
none_falls S ws = record { cells = λ c l. omega arith; durs = λ c l. omega arith }

-- a table at rest has no open transaction
not_open : (S : Setup) (B : TableStart) (ws : List ℕ) → IsAtRest S ws → IsLastOpen B ws → ⊥
not_open S B ws rest o = go rest.closed
  where
    go : (committed_seq ws ≡ 0) ⊎ (pack (committed_seq ws) 0 < request_of ws (committed_owner ws)) → ⊥
    go (inl none) = let any = o.any in omega (arith, none, any)
    go (inr past) = let asks = o.asks in omega (arith, past, asks)

module _ (S : Setup) (B : TableStart) (w : Moment) (sound : IsSound S B w) (rest : IsAtRest S w.words) where
  -- each data cell is of the last state
  pub settled : (a : ℕ) → a < S.cells → data_word S w.words a ≡ data_word_after B w.batches (committed_seq w.words) a
  settled a l = go (sound.data_cells.each a l)
    where
      go : (data_word S w.words a ≡ data_word_after B w.batches (committed_seq w.words) a) ⊎ (IsLastOpen B w.words × (data_word S w.words a ≡ data_word_after B w.batches (committed_seq w.words - 1) a)) → data_word S w.words a ≡ data_word_after B w.batches (committed_seq w.words) a
      go (inl e) = e
      go (inr o) = absurd (not_open S B w.words rest o.0)

  pub recovers_so : RecoversAsItIs S w.words
  recovers_so a l = sound.recovers a l ∙ (ap (λ (k : ℕ). data_word_after B w.batches (seq_of k) a) rest.durable ∙ sym (settled a l))

  -- the owner of the last transaction is a caller
  pub owner_in : committed_owner w.words < S.callers
  owner_in = let o = sound.owner in omega (arith, o, ap payload_of rest.durable)

module _ (S : Setup) (L : List ℕ → Type 0) (laws : RowLaws S L) (B : TableStart) where
  step_rises : (w : Moment) → MeetsInvariant S L B w → (j : ℕ) → j < S.callers → Rises S w.words (after_event S w (Turns j)).words
  step_rises w good j may =
      let m : CallState = machine_in w j in
      let v : Moment = after_event S w (Turns j) in
      let here : get_or w.machines j m ≡ m = sym (get_or_default w.machines j no_machine m (omega (arith, may, (laws.sound B w good).members))) in
      let g : Guarantees S B j w.words w.batches v.words v.batches = laws.guarantees B w good j m may here (word_found S w.words m) (laws.finds S w.words m) in
      record { cells = g.rise; durs = g.durs }

  event_rises : (w : Moment) (e : Event) → MeetsInvariant S L B w → MayHappen S w e → Rises S w.words (after_event S w e).words
  event_rises w (Begins j op) good may = none_falls S w.words
  event_rises w (Turns j) good may = step_rises w good j may
  event_rises w (Loads c) good may = none_falls S w.words
  event_rises w (Evicts k) good may = record { cells = λ c l. lowers_none w.words _ _ c; durs = λ c l. lowers_none w.words _ _ _ }
  event_rises w (Raises c) good may = record { cells = λ c l. lowers_none w.words _ _ c; durs = λ c l. lowers_none w.words _ _ _ }
  event_rises w (Revives j made) good may = none_falls S w.words

  events_rise : (w : Moment) (es : List Event) → MeetsInvariant S L B w → IsSchedule S w es → Rises S w.words (after_events S w es).words
  events_rise w [] good s = none_falls S w.words
  events_rise w (e ∷ es) good s =
      let v : Moment = after_event S w e in
      let a : Rises S w.words v.words = event_rises w e good s.0 in
      let b : Rises S v.words (after_events S v es).words = events_rise v es (laws.runs B w good (e ∷ []) (s.0, tt)) s.1 in
      record { cells = λ c l. omega (arith, a.cells c l, b.cells c l); durs = λ c l. omega (arith, a.durs c l, b.durs c l) }

  pub good_after : MayStart S L B → (es : List Event) → IsSchedule S (first_of S B) es → MeetsInvariant S L B (moment S B es)
  good_after from es s = laws.runs B (first_of S B) (laws.start B from (words_before_members S + 1) (omega arith)).0 es s

  -- ---- from a moment of a row's events to a later one

  module _ (from : MayStart S L B) (es ds : List Event) (s : IsSchedule S (first_of S B) ds) (p : IsPrefix es ds) where
    abbrev w : Moment
    w = moment S B es

    abbrev v : Moment
    v = moment S B ds

    whole : IsSchedule S (first_of S B) (es ++ p.0)
    whole = subst (IsSchedule S (first_of S B)) (sym p.1) s

    good_w : MeetsInvariant S L B w
    good_w = good_after from es (first_part S (first_of S B) es p.0 whole)

    leads : after_events S w p.0 ≡ v
    leads = sym (run_append S (first_of S B) es p.0) ∙ ap (moment S B) p.1

    sound_w : IsSound S B w
    sound_w = laws.sound B w good_w

    sound_v : IsSound S B v
    sound_v = laws.sound B v (good_after from ds s)

    pub rises : Rises S w.words v.words
    rises = subst (λ (z : Moment). Rises S w.words z.words) leads (events_rise w p.0 good_w (second_part S (first_of S B) es p.0 whole))

    module _ (level : current_word v.words ≡ current_word w.words) where
      -- no batch was added
      same_batches : v.batches ≡ w.batches
      same_batches = go more.batches more.batches_are
        where
          more : GoesOn w v
          more = subst (λ (z : Moment). GoesOn w z) leads (goes_on S w p.0)

          go : (bs : List Batch) → v.batches ≡ w.batches ++ bs → v.batches ≡ w.batches
          go [] e = e ∙ append-nil w.batches
          go (b ∷ bs) e = absurd (omega (arith, ap length e, length-append w.batches (b ∷ bs), sound_w.count, sound_v.count, ap seq_of level))

      module _ (rest : IsAtRest S w.words) where
        -- the table is still at rest
        pub rest_on : IsAtRest S v.words
        rest_on = record {
          closed = go rest.closed;
          durable =
              let d = rises.durs 0 (omega arith) in
              let low = sound_v.low 0 (omega arith) in
              omega (arith, d, low, rest.durable, level);
        }
          where
            go : (committed_seq w.words ≡ 0) ⊎ (pack (committed_seq w.words) 0 < request_of w.words (committed_owner w.words)) → (committed_seq v.words ≡ 0) ⊎ (pack (committed_seq v.words) 0 < request_of v.words (committed_owner v.words))
            go (inl none) = inl (ap seq_of level ∙ none)
            go (inr past) = inr (subst (λ (k : ℕ). pack (seq_of k) 0 < request_of v.words (payload_of k)) (sym level)
                (let up = rises.cells (committed_owner w.words + 1) (omega (arith, owner_in S B w sound_w rest)) in omega (arith, past, up)))

        -- each data cell has the same word
        pub cell_stays : (a : ℕ) → a < S.cells → data_word S v.words a ≡ data_word S w.words a
        cell_stays a l = settled S B v sound_v rest_on a l ∙ ((λ i. data_word_after B (same_batches i) (seq_of (level i)) a) ∙ sym (settled S B w sound_w rest a l))
