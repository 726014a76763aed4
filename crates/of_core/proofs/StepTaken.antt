-- What the step of an open call is, in a world that meets the invariant.
use Rattle.std.proofs.Common.{◌≡◌, ℕ, ◌+◌, ◌<◌, List, [], ◌∷◌, length, get_or, refl, sym, ◌∙◌, ap, subst, arith, Option, Some, None, Bool, true, false, ◌≤◌, ◌⊎◌, inl, inr}
use Rattle.of_cell.specs.declared.word.TheConstants.{PAYLOADS}
use Rattle.of_cell.specs.Words.{seq_of}
use Rattle.of_cell.proofs.Order.{seq_word}
use Rattle.of_core.specs.declared.place.Place.{Place}
use Rattle.of_core.specs.declared.place.Place.TheVariants.{Idle, TryCurrent, TryRequest, TryCell, StoreScript, StoreAnnouncement, LoadCurrent, LoadRequest, CopyLog, LookAgain, LoadOwnTicket, LoadShape, LoadReply, LoadAnnouncement, LoadTicket, LoadScript, LoadCell, RaiseOld, StoreLog, RaiseLog, StoreRequest, RaiseRequest, ExchangeCurrent, RaiseCurrent, LoadTarget, ExchangeTarget, ReloadTarget, RaiseTarget, CloseRequest, RaiseClosed}
use Rattle.of_core.specs.declared.place.Outcome.{Outcome}
use Rattle.of_core.specs.declared.place.Outcome.TheVariants.{Answered, Spent, Lost}
use Rattle.of_core.specs.Table.{Setup, committed_seq}
use Rattle.of_core.specs.Machine.{CallState, IsOpen, is_idle, begin_call, first_place}
use Rattle.of_core.specs.Steps.{want, want_at, take_word, take_word_at, with_step_counted, IsFoundBy}
use Rattle.of_core.specs.TableMoment.{Moment, TableStart, Batch, Read, step_batches, step_reads, step_reads_if, step_reads_at, read_of, step_batches_at}
use Rattle.of_core.specs.Order.{HasBegunTry}
use Rattle.of_core.specs.Facts.{IsStepAtPlace, IsStep, CountsStepOrEnds, LastStepTells, TellsOutcome, ReadsFrom, loads_current, rests_on_seq, loads_current_at, rests_on_seq_at}
use Rattle.of_core.specs.Invariant.{HoldsAtPlace, MeetsInvariant}
use Rattle.of_core.proofs.StepFacts.{step_facts}

-- a load of the current-transaction word finds it
loaded_word : (S : Setup) (ws : List ℕ) (m : CallState) (n : ℕ) (p : Place) → loads_current_at p ≡ true → IsFoundBy (want_at S m p) ws n → n ≡ get_or ws 0 0
loaded_word S ws m n TryCurrent e f = f
loaded_word S ws m n LoadCurrent e f = f
loaded_word S ws m n Idle e f = cc
loaded_word S ws m n TryRequest e f = cc
loaded_word S ws m n (TryCell a) e f = cc
loaded_word S ws m n (StoreScript j) e f = cc
loaded_word S ws m n StoreAnnouncement e f = cc
loaded_word S ws m n LoadRequest e f = cc
loaded_word S ws m n (CopyLog x) e f = cc
loaded_word S ws m n LookAgain e f = cc
loaded_word S ws m n LoadOwnTicket e f = cc
loaded_word S ws m n LoadShape e f = cc
loaded_word S ws m n (LoadReply j) e f = cc
loaded_word S ws m n LoadAnnouncement e f = cc
loaded_word S ws m n LoadTicket e f = cc
loaded_word S ws m n (LoadScript j) e f = cc
loaded_word S ws m n (LoadCell a) e f = cc
loaded_word S ws m n RaiseOld e f = cc
loaded_word S ws m n (StoreLog x) e f = cc
loaded_word S ws m n (RaiseLog x) e f = cc
loaded_word S ws m n StoreRequest e f = cc
loaded_word S ws m n RaiseRequest e f = cc
loaded_word S ws m n ExchangeCurrent e f = cc
loaded_word S ws m n RaiseCurrent e f = cc
loaded_word S ws m n (LoadTarget j) e f = cc
loaded_word S ws m n (ExchangeTarget j v) e f = cc
loaded_word S ws m n (ReloadTarget j) e f = cc
loaded_word S ws m n (RaiseTarget j v) e f = cc
loaded_word S ws m n CloseRequest e f = cc
loaded_word S ws m n RaiseClosed e f = cc

no_answer : (d : CallState) (a b : Bool) → a ≡ false → b ≡ false → step_reads_if d a b ≡ []
no_answer d true b e f = cc
no_answer d false true e f = cc
no_answer d false false e f = refl

one_answer : (d : CallState) (a b : Bool) → a ≡ false → b ≡ true → step_reads_if d a b ≡ read_of d d.answer
one_answer d true b e f = cc
one_answer d false true e f = refl
one_answer d false false e f = cc

same_read : (c t : ℕ) (op : List ℕ) (r : Read) → c ≡ r.caller → t ≡ r.ticket → op ≡ r.op → record { caller = c; ticket = t; op = op; raw = r.raw; seq = r.seq } ∷ [] ≡ r ∷ []
same_read c t op r e f q = rw (e, f, q) refl

-- a call that has just begun has loaded nothing
pub opened_reads : (S : Setup) (m : CallState) (op : List ℕ) (low : ℕ) → ReadsFrom low (begin_call S m op)
unfolding ReadsFrom
opened_reads S m op low = go (S.meaning.reads_only op)
  where
    go : (b : Bool) → HasBegunTry (begin_call S m op) (first_place b) → low ≤ 0
    go true t = absurd t
    go false t = absurd t

module _ (S : Setup) (Lawful : List ℕ → Type 0) (B : TableStart) (w : Moment) (g : MeetsInvariant S Lawful B w) (i : ℕ) (m : CallState) (h : i < S.callers) (own : get_or w.machines i m ≡ m) (o : IsOpen m.place) (n : ℕ) where
  a : HoldsAtPlace S B w.words w.batches i m m.place
  a = g.core.each i m h own

  abbrev d : CallState
  d = take_word_at S (with_step_counted m.place m) n m.place

  abbrev bs : List Batch
  bs = step_batches_at S w.words m n m.place

  facts : IsStepAtPlace S m n m.place d bs
  facts = step_facts S Lawful B w g.core i m h n m.place o a

  -- a batch is committed by an exchange, which found the word that the round had loaded
  behind_last : IsFoundBy (want_at S m m.place) w.words n → 0 < length bs → rests_on_seq_at m m.place ≡ B.seq + length w.batches
  behind_last f l =
      let c = facts.commits l in
      let x = subst (λ (p : Place). HoldsAtPlace S B w.words w.batches i m p) c.0 a in
      let y : n ≡ get_or w.words 0 0 = subst (λ (p : Place). IsFoundBy (want_at S m p) w.words n) c.0 f in
      let owner : m.owner < PAYLOADS = omega (arith, x.stored.past.looks.round.current_word.owner_in, g.core.shared.few) in
      let z : committed_seq w.words ≡ m.seq = ap seq_of (sym y ∙ c.1) ∙ seq_word m.seq m.owner owner in
      ap (rests_on_seq_at m) c.0 ∙ sym z ∙ g.core.shared.counted.count

  goes_on : IsOpen d.place → (d.steps ≡ m.steps + 1) × (d.answer ≡ m.answer) × (step_reads_at d m.place ≡ [])
  goes_on q = let c : CountsStepOrEnds S m m.place d false = subst (λ (b : Bool). CountsStepOrEnds S m m.place d b) q facts.counts in (c.0, c.1, no_answer d (is_idle m.place) (is_idle d.place) o q)

  ends : d.place ≡ Idle → (x : Outcome) × (d.answer ≡ Some x) × TellsOutcome S m d x
  unfolding rests_on_seq step_reads ReadsFrom
  ends q = go d.answer refl c.0
    where
      ended : is_idle d.place ≡ true
      ended = ap is_idle q

      c : CountsStepOrEnds S m m.place d true
      c = subst (λ (b : Bool). CountsStepOrEnds S m m.place d b) ended facts.counts

      answer : (x : Option Outcome) → d.answer ≡ x → step_reads_at d m.place ≡ read_of d x
      answer x e = one_answer d (is_idle m.place) (is_idle d.place) o ended ∙ ap (read_of d) e

      go : (x : Option Outcome) → d.answer ≡ x → LastStepTells S m m.place x → (x : Outcome) × (d.answer ≡ Some x) × TellsOutcome S m d x
      go None e t = absurd t
      go (Some (Answered s true raw k)) e t = (Answered s true raw k, e, (omega (arith, t.0, c.1), t.1, answer (Some (Answered s true raw k)) e))
      go (Some (Answered s false raw k)) e t = (
        Answered s false raw k,
        e,
        (omega (arith, t.1, c.1), t.2, answer (Some (Answered s false raw k)) e ∙ same_read d.caller d.made d.op (record { caller = m.caller; ticket = m.made; op = m.op; raw = raw; seq = s }) facts.caller facts.made facts.op, λ low r. omega (arith, r t.0, t.1)),
      )
      go (Some (Lost s)) e t = absurd t
      go (Some (Spent s)) e t = (Spent s, e, (omega (arith, t.0, c.1), t.1, answer (Some (Spent s)) e))

  -- a try goes on at the state that it loaded, and a new one loads the last
  goes_from : IsFoundBy (want_at S m m.place) w.words n → (low : ℕ) → low ≤ B.seq + length w.batches → (HasBegunTry m m.place → low ≤ m.seq) → HasBegunTry d d.place → low ≤ d.seq
  goes_from f low l r t = go (facts.trying t)
    where
      go : (HasBegunTry m m.place × (d.seq ≡ m.seq)) ⊎ ((m.place ≡ TryCurrent) × (d.seq ≡ seq_of n)) → low ≤ d.seq
      go (inl q) = omega (arith, r q.0, q.1)
      go (inr q) = let z : seq_of n ≡ B.seq + length w.batches = ap seq_of (loaded_word S w.words m n m.place (ap loads_current_at q.0) f) ∙ g.core.shared.counted.count in omega (arith, l, q.1, z)

  pub step_taken : IsFoundBy (want S m) w.words n → IsStep S B w m n (take_word S m n) (step_batches S w.words m n)
  unfolding want take_word step_batches loads_current rests_on_seq step_reads ReadsFrom
  step_taken f = record {
    caller = facts.caller;
    made = facts.made;
    op = facts.op;
    finds_last = λ q. (ap seq_of (loaded_word S w.words m n m.place q f) ∙ g.core.shared.counted.count, (facts.loads q).0, (facts.loads q).1);
    rests_on = facts.rests;
    reads_from = goes_from f;
    few = facts.few;
    owner = facts.owner;
    commits = behind_last f;
    goes_on = goes_on;
    ends = ends;
  }
