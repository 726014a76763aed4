-- What one step of an open call does, whatever its kind: the facts that a holder of machines needs.
use Rattle.std.specs.Prelude.{◌≡◌, ℕ, ◌+◌, ◌<◌, ◌≤◌, ◌⊎◌, List, [], ◌∷◌, length, Option, Some, None, Bool, true, false}
use Rattle.std.specs.List.{All}
use Rattle.of_cell.specs.Words.{pack, seq_of}
use Rattle.of_core.specs.declared.place.Place.{Place}
use Rattle.of_core.specs.declared.place.Place.TheVariants.{Idle, TryCurrent, StoreScript, StoreAnnouncement, LoadCurrent, ExchangeCurrent}
use Rattle.of_core.specs.declared.place.Outcome.{Outcome}
use Rattle.of_core.specs.declared.place.Outcome.TheVariants.{Answered, Spent, Lost}
use Rattle.of_core.specs.Table.{Setup}
use Rattle.of_core.specs.Machine.{CallState, IsOpen, is_idle}
use Rattle.of_mem.specs.declared.work.RawReply.{RawReply}
use Rattle.of_core.specs.TableMoment.{Moment, TableStart, Batch, Read, step_reads}
use Rattle.of_core.specs.Order.{HasBegunTry}

-- whether the step from this place loads the current-transaction word
abbrev pub loads_current_at : Place → Bool
loads_current_at TryCurrent = true
loads_current_at LoadCurrent = true
loads_current_at p = false

-- the sequence on whose state the machine's round or try works, or of the transaction that the
-- machine applies: m.seq; but 0 at a place before the load of the current-transaction word
abbrev pub rests_on_seq_at : CallState → Place → ℕ
rests_on_seq_at m Idle = 0
rests_on_seq_at m TryCurrent = 0
rests_on_seq_at m (StoreScript j) = 0
rests_on_seq_at m StoreAnnouncement = 0
rests_on_seq_at m LoadCurrent = 0
rests_on_seq_at m p = m.seq

-- What holds if the machine m makes the last step of its call from place p. An answer counts all
-- steps of the call, and its sequence is at most m.seq. An unannounced answer comes from a try. A
-- spent call ends at the limit. No step ends a call as lost.
abbrev pub LastStepTells : Setup → CallState → Place → Option Outcome → Type 0
LastStepTells S m p None = ⊥
LastStepTells S m p (Some (Answered s false raw steps)) =
    HasBegunTry m p × (s ≡ m.seq) × (steps ≡ m.steps + 1)
LastStepTells S m p (Some (Answered s true raw steps)) = (s ≤ m.seq) × (steps ≡ m.steps + 1)
LastStepTells S m p (Some (Spent s)) = (s ≡ m.seq) × (s ≡ S.limit)
LastStepTells S m p (Some (Lost s)) = ⊥

-- if `ended` is true, the step has ended the call with an outcome of which `LastStepTells` holds;
-- otherwise the call is still open, and has made one step more
abbrev pub CountsStepOrEnds : Setup → CallState → Place → CallState → (ended : Bool) → Type 0
CountsStepOrEnds S m p d true = LastStepTells S m p d.answer × (m.seq ≤ rests_on_seq_at m p)
CountsStepOrEnds S m p d false = (d.steps ≡ m.steps + 1) × (d.answer ≡ m.answer)

-- after the step, which leads from m to d, the call is still open and has made one step more, or it
-- has an outcome as `LastStepTells` says
abbrev pub CountsStep : Setup → CallState → Place → CallState → Type 0
CountsStep S m p d = CountsStepOrEnds S m p d (is_idle d.place)

-- the machine m has made a step from the place p, has found n, is d now, and has committed the
-- batches `added`
pub record IsStepAtPlace (S : Setup) (m : CallState) (n : ℕ) (p : Place) (d : CallState)
    (added : List Batch) : Type 0 where
  -- caller, number and operation of the call stay
  pub caller : d.caller ≡ m.caller
  pub made : d.made ≡ m.made
  pub op : d.op ≡ m.op
  -- A load of the current-transaction word commits nothing, and after it the machine works at the
  -- sequence that was found, or at an older one. After any other step the machine works at no newer
  -- sequence than before, or at that of the batch that the step commits.
  pub loads : loads_current_at p ≡ true → (added ≡ []) × (rests_on_seq_at d d.place ≤ seq_of n)
  pub rests : loads_current_at p ≡ false
      → rests_on_seq_at d d.place ≤ rests_on_seq_at m p + length added
  -- the step commits at most one batch, which is the caller's, by an exchange of the
  -- current-transaction word that the round has loaded
  pub owner : All (λ (b : Batch). b.owner ≡ m.caller) added
  pub few : length added ≤ 1
  pub commits : 0 < length added → (p ≡ ExchangeCurrent) × (n ≡ pack m.seq m.owner)
  -- a step of a try commits nothing; after the step, a try is at the same sequence as before or has
  -- just begun
  pub tries : HasBegunTry m p → added ≡ []
  pub trying : HasBegunTry d d.place
      → (HasBegunTry m p × (d.seq ≡ m.seq)) ⊎ ((p ≡ TryCurrent) × (d.seq ≡ seq_of n))
  pub counts : CountsStep S m p d

unfoldable pub loads_current : CallState → Bool
loads_current m = loads_current_at m.place

unfoldable pub rests_on_seq : CallState → ℕ
rests_on_seq m = rests_on_seq_at m m.place

-- if the machine is in a try that has loaded the current-transaction word, the state that it reads
-- is no older than `low`
unfoldable pub ReadsFrom : (low : ℕ) → CallState → Type 0
ReadsFrom low m = HasBegunTry m m.place → low ≤ m.seq

-- the machine's call as a read of the state at s, with this reply
abbrev pub read_of_call : CallState → RawReply → (s : ℕ) → Read
read_of_call m raw s = record { caller = m.caller; ticket = m.made; op = m.op; raw = raw; seq = s }

-- What is true of the outcome of a call's last step, which leads from m to d. The outcome's
-- sequence is at most `rests_on_seq` of m, and an answer counts all steps of the call. An
-- unannounced answer is a read of the history, and the read's state is no older than the one that
-- the try reads.
abbrev pub TellsOutcome : Setup → CallState → CallState → Outcome → Type 0
TellsOutcome S m d (Answered s true raw steps) =
    (s ≤ rests_on_seq m) × (steps ≡ m.steps + 1) × (step_reads m d ≡ [])
TellsOutcome S m d (Answered s false raw steps) =
    (s ≤ rests_on_seq m) × (steps ≡ m.steps + 1)
    × (step_reads m d ≡ read_of_call m raw s ∷ []) × ((low : ℕ) → ReadsFrom low m → low ≤ s)
TellsOutcome S m d (Spent s) = (s ≤ rests_on_seq m) × (s ≡ S.limit) × (step_reads m d ≡ [])
TellsOutcome S m d (Lost s) = ⊥

-- the machine m of an open call, at a moment that meets the invariant, has made a step: it has
-- found n, is d now, and has committed the batches bs
pub record IsStep (S : Setup) (B : TableStart) (w : Moment) (m : CallState) (n : ℕ) (d : CallState)
    (bs : List Batch) : Type 0 where
  -- caller, number and operation of the call stay
  pub caller : d.caller ≡ m.caller
  pub made : d.made ≡ m.made
  pub op : d.op ≡ m.op
  -- a load of the current-transaction word finds the sequence of the last batch, and commits
  -- nothing; after it the machine's round or try works at this sequence or at an older one
  -- (`rests_on_seq`)
  pub finds_last : loads_current m ≡ true
      → (seq_of n ≡ B.seq + length w.batches) × (bs ≡ []) × (rests_on_seq d ≤ seq_of n)
  -- after any other step the machine works at no newer sequence than before, or at that of the
  -- batch that the step commits
  pub rests_on : loads_current m ≡ false → rests_on_seq d ≤ rests_on_seq m + length bs
  -- after the step, a try reads the same state as before, or a try has begun at the last batch
  pub reads_from : (low : ℕ) → low ≤ B.seq + length w.batches → ReadsFrom low m → ReadsFrom low d
  -- a step commits at most one batch. It is the caller's batch, and the machine's round worked on
  -- the state after the last batch
  pub few : length bs ≤ 1
  pub owner : All (λ (b : Batch). b.owner ≡ m.caller) bs
  pub commits : 0 < length bs → rests_on_seq m ≡ B.seq + length w.batches
  -- the call stays open and has made one step more, or it has ended with an outcome
  pub goes_on : IsOpen d.place
      → (d.steps ≡ m.steps + 1) × (d.answer ≡ m.answer) × (step_reads m d ≡ [])
  pub ends : d.place ≡ Idle → (o : Outcome) × (d.answer ≡ Some o) × TellsOutcome S m d o
