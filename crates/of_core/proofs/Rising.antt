-- A data cell keeps its word, or gets one of a later transaction.
use Rattle.std.proofs.Common.{◌≡◌, ◌⊎◌, inl, inr, ℕ, ◌<◌, ◌≤◌, ◌==◌, List, [], ◌∷◌, get_or, set, refl, ◌∙◌, ap, arith, Bool, true, false, if◌then◌else◌}
use Rattle.std.proofs.lemmas.Bool.{cases_eq}
use Rattle.std.proofs.lemmas.Bool.Decides.{nat_tests}
use Rattle.std.proofs.lemmas.List.{get_or-set_other, set-get_or, get_or_default}
use Rattle.of_cell.specs.Words.{pack, seq_of}
use Rattle.of_mem.specs.Meaning.{IsSoundMeaning}
use Rattle.of_core.specs.declared.place.Place.{Place}
use Rattle.of_core.specs.declared.place.Place.TheVariants.{StoreScript, StoreAnnouncement, RaiseOld, StoreLog, RaiseLog, StoreRequest, RaiseRequest, ExchangeCurrent, RaiseCurrent, ExchangeTarget, RaiseTarget, CloseRequest, RaiseClosed}
use Rattle.of_core.specs.Table.{Setup, first_operation_cell, durable_at, script_word_at, request_at, data_at, log_at, data_word, committed_seq}
use Rattle.of_core.specs.Machine.{CallState, log_entry, no_machine}
use Rattle.of_core.specs.Steps.{want, want_at, word_of, words_after, word_found}
use Rattle.of_core.specs.TableMoment.{Moment, TableStart}
use Rattle.of_core.specs.Invariant.{HoldsAtPlace, MeetsCore, MeetsInvariant}
use Rattle.of_core.specs.Guarantees.{Guarantees}
use Rattle.of_core.specs.Events.{Event, Begins, Turns, Loads, Evicts, Raises, Revives, machine_in, after_event, MayHappen, after_events, IsSchedule}
use Rattle.of_core.proofs.Found.{found_now}
use Rattle.of_core.proofs.Stability.{owner_in, entry_in}
use Rattle.of_core.proofs.StepKept.{step_moves}
use Rattle.of_core.proofs.Happenings.{event_good}

module _ (S : Setup) (Lawful : List ℕ → Type 0) (B : TableStart) (w : Moment) (g : MeetsCore S Lawful B w) (i : ℕ) (m : CallState) (h : i < S.callers) (a : ℕ) (l : a < S.cells) where
  -- after these words the data cell is as it was, or its word was that of an older transaction
  abbrev Was : List ℕ → Type 0
  Was vs = (data_word S vs a ≡ data_word S w.words a) ⊎ (seq_of (data_word S w.words a) < committed_seq w.words)

  -- another word changes
  elsewhere : (x v : ℕ) → (data_at S a ≡ x → ⊥) → Was (set w.words x v)
  elsewhere x v away = inl (get_or-set_other w.words x (data_at S a) v 0 away)

  -- an exchange that finds the word of an older transaction
  exchanged : (x s old new : ℕ) → x < S.cells → seq_of old < s → s ≤ committed_seq w.words → Was (set w.words (data_at S x) (if data_word S w.words x == old then new else data_word S w.words x))
  exchanged x s old new x_in o u = go (cases_eq a x) (data_word S w.words x == old) refl
    where
      go : (a ≡ x) ⊎ (a ≡ x → ⊥) → (b : Bool) → (data_word S w.words x == old) ≡ b → Was (set w.words (data_at S x) (if b then new else data_word S w.words x))
      go (inr away) b e = elsewhere (data_at S x) _ (λ q. away (omega (arith, q)))
      go (inl same) false e = inl (ap (λ (vs : List ℕ). data_word S vs a) (set-get_or w.words (data_at S x) 0))
      go (inl same) true e =
          let z : data_word S w.words x ≡ old = grind (arith, nat_tests) in
          inr (omega (arith, ap seq_of z, ap (λ (y : ℕ). seq_of (data_word S w.words y)) same, o, u))

  cells_at : (p : Place) → HoldsAtPlace S B w.words w.batches i m p → Was (words_after (want_at S m p) w.words)
  cells_at (StoreScript x) q = elsewhere (script_word_at S m.caller x) _ (λ e. omega (arith, e, l))
  cells_at StoreAnnouncement q = elsewhere (script_word_at S m.caller S.instrs) _ (λ e. omega (arith, e, l))
  cells_at (StoreLog x) q = elsewhere (log_at S m.caller x) _ (λ e. omega (arith, e, l))
  cells_at StoreRequest q = elsewhere (request_at m.caller) _ (λ e. omega (arith, e, h, q.stored.past.looks.round.begun.caller))
  cells_at ExchangeCurrent q = elsewhere 0 _ (λ e. omega (arith, e))
  cells_at (ExchangeTarget x o) q = exchanged (log_entry m x).0 m.seq o (pack m.seq (log_entry m x).1) (entry_in g.shared q.entry.applies x q.entry.more).0 q.older q.entry.applies.upto
  cells_at CloseRequest q = elsewhere (request_at m.owner) _ (λ e. omega (arith, e, owner_in g.shared q.applies))
  cells_at RaiseOld q = elsewhere (durable_at S (request_at m.caller)) _ (λ e. omega (arith, e, l))
  cells_at (RaiseLog x) q = elsewhere (durable_at S (log_at S m.caller x)) _ (λ e. omega (arith, e, l))
  cells_at RaiseRequest q = elsewhere (durable_at S (request_at m.caller)) _ (λ e. omega (arith, e, l))
  cells_at RaiseCurrent q = elsewhere (durable_at S 0) _ (λ e. omega (arith, e, l))
  cells_at (RaiseTarget x o) q = elsewhere (durable_at S (data_at S (log_entry m x).0)) _ (λ e. omega (arith, e, l))
  cells_at RaiseClosed q = elsewhere (durable_at S (request_at m.owner)) _ (λ e. omega (arith, e, l))
  cells_at p q = inl (ap (λ (vs : List ℕ). data_word S vs a) (set-get_or w.words (word_of (want_at S m p)) 0))

-- from these words to those the data cell keeps its word, or gets a later one
abbrev Rises : Setup → (a : ℕ) → (ws vs : List ℕ) → Type 0
Rises S a ws vs = (data_word S vs a ≡ data_word S ws a) ⊎ (seq_of (data_word S ws a) < seq_of (data_word S vs a))

-- one after the other
rises_on : (S : Setup) (a : ℕ) (ws vs us : List ℕ) → Rises S a ws vs → Rises S a vs us → Rises S a ws us
rises_on S a ws vs us (inl p) (inl q) = inl (q ∙ p)
rises_on S a ws vs us (inl p) (inr q) = inr (omega (arith, ap seq_of p, q))
rises_on S a ws vs us (inr p) (inl q) = inr (omega (arith, p, ap seq_of q))
rises_on S a ws vs us (inr p) (inr q) = inr (omega (arith, p, q))

module _ (S : Setup) (Lawful : List ℕ → Type 0) (sound : IsSoundMeaning S.meaning Lawful (first_operation_cell S) S.cells) (B : TableStart) (a : ℕ) (l : a < S.cells) where
  turn_rises : (w : Moment) → MeetsInvariant S Lawful B w → (i : ℕ) → i < S.callers → Rises S a w.words (after_event S w (Turns i)).words
  unfolding want
  turn_rises w g i h = go (cells_at S Lawful B w g.core i m h a l m.place (g.core.each i m h own)) (moves.changes a l)
    where
      m : CallState
      m = machine_in w i

      own : get_or w.machines i m ≡ m
      own = get_or_default w.machines i m no_machine (omega (arith, g.core.members))

      moves : Guarantees S B i w.words w.batches (after_event S w (Turns i)).words (after_event S w (Turns i)).batches
      moves = step_moves S Lawful sound B w g i m h own (word_found S w.words m) (found_now S w.words m)

      go : (data_word S (after_event S w (Turns i)).words a ≡ data_word S w.words a) ⊎ (seq_of (data_word S w.words a) < committed_seq w.words)
          → (data_word S (after_event S w (Turns i)).words a ≡ data_word S w.words a) ⊎ (committed_seq w.words ≤ seq_of (data_word S (after_event S w (Turns i)).words a)) → Rises S a w.words (after_event S w (Turns i)).words
      go (inl e) q = inl e
      go (inr o) (inl e) = inl e
      go (inr o) (inr u) = inr (omega (arith, o, u))

  event_rises : (w : Moment) → MeetsInvariant S Lawful B w → (e : Event) → MayHappen S w e → Rises S a w.words (after_event S w e).words
  event_rises w g (Turns i) may = turn_rises w g i may
  event_rises w g (Begins i op) may = inl refl
  event_rises w g (Loads c) may = inl refl
  event_rises w g (Evicts k) may = inl (get_or-set_other w.words (durable_at S (get_or w.loaded k (0, 0)).0) (data_at S a) _ 0 (λ e. omega (arith, e, l)))
  event_rises w g (Revives i made) may = inl refl
  event_rises w g (Raises c) may = inl (get_or-set_other w.words (durable_at S c) (data_at S a) _ 0 (λ e. omega (arith, e, l)))

  pub cells_rise : (es : List Event) (w : Moment) → MeetsInvariant S Lawful B w → IsSchedule S w es → Rises S a w.words (after_events S w es).words
  cells_rise [] w g s = inl refl
  cells_rise (e ∷ es) w g s = rises_on S a w.words (after_event S w e).words (after_events S w (e ∷ es)).words (event_rises w g e s.0) (cells_rise es (after_event S w e) (event_good S Lawful B w g sound e s.0) s.1)
