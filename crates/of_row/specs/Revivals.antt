-- A member whose machine is lost: what it learns by loads of the table, and the new machine that
-- takes the lost one's place.
use Rattle.std.specs.Prelude.{◌≡◌, ◌≤◌, ◌<◌, ◌+◌, ℕ, List, [], ◌∷◌, ◌++◌, map, Option, Some, None, ◌⊎◌}
use Rattle.std.specs.List.{AllByRecursion as Each}
use Rattle.std.proofs.Common.{get_or}
use mathlib.Core.List.{IsPrefix}
use Rattle.atomic_table.specs.Table.{State}
use Rattle.of_mem.specs.Meaning.{Meaning}
use Rattle.of_core.specs.declared.place.Place.TheVariants.{Idle}
use Rattle.of_core.specs.declared.place.Outcome.TheVariants.{Lost}
use Rattle.of_core.specs.Table.{Setup, committed_seq}
use Rattle.of_core.specs.Machine.{CallState, IsOpen, is_idle}
use Rattle.of_core.specs.TableMoment.{Moment, TableStart}
use Rattle.of_core.specs.WordsMatch.{MayStart}
use Rattle.of_core.specs.Events.{Event, Revives, IsSchedule}
use Rattle.of_core.specs.Bound.{bound}
use Rattle.of_core.specs.Calls.{outcome_of_loss}
use Rattle.of_core.specs.Remains.{remains_of, revived_machine}
use Rattle.of_row.specs.declared.view.RowKey.{RowKey}
use Rattle.of_row.specs.Views.{EndedCall, KnownCaller, View, seen_batch}
use Rattle.of_row.specs.Trail.{first_of, moment, IsToldBy, IsRunBy}
use Rattle.of_row.specs.Rule.{HasOwn, HasOwnOnce, IsLegalFront, MeetsRule}
use Rattle.of_row.specs.Keys.{key_setup, key_start}

-- The view's past has all events up to some moment of the row, and what the view keeps of its
-- callers is what these events lead to.
pub record HasOwnPast (S : Setup) (Lawful : List ℕ → Type 0) (B : TableStart) (v : View)
    : Type 0 where
  pub from : MayStart S Lawful B
  pub schedule : IsSchedule S (first_of S B) v.past
  pub runs : Each (IsRunBy S B v.past) v.kept

-- the view v after one more load that is no step, by which it has learnt of these events
abbrev pub after_learning : View → List Event → View
after_learning v es = record v { past = es; looks = v.looks + 1 }

-- A load of the word with the index c has found n. By it the view v has learnt of all events, and is
-- the view w now. At the moment of the load the row was in this state, which meets the rule by
-- these events.
pub record LearnsWord (S : Setup) (Lawful : List ℕ → Type 0) (B : TableStart) (c : ℕ) (v : View)
    (n : ℕ) (w : View) : Type 0 where
  pub is : w ≡ after_learning v w.past
  pub past : IsPrefix v.past w.past
  pub own : HasOwnPast S Lawful B w
  pub word : n ≡ get_or (moment S B w.past).words c 0
  pub state : State (Unit {0}) View
  pub rule : MeetsRule S Lawful B state
  pub now : rule.events ≡ w.past

-- the open call of the lost machine m as a lost call, if the new machine d has no open call: a list
-- of at most one. The loss has the sequence s
abbrev pub lost_calls : (m d : CallState) → (s : ℕ) → List EndedCall
lost_calls m d s =
    map (λ o. record { op = m.op; outcome = o })
    (outcome_of_loss s (is_idle m.place) (is_idle d.place))

-- the new machine that may take the place of the kept caller's lost one at the moment w
abbrev pub new_machine_at : Setup → Moment → KnownCaller → CallState
new_machine_at S w x =
    revived_machine S (remains_of S w.words x.machine.caller) x.machine.caller x.machine.made

-- what is kept of a caller after a new machine has taken the place of its lost one at the moment w
abbrev pub known_after_revival : Setup → Moment → KnownCaller → KnownCaller
known_after_revival S w x = record {
  machine = new_machine_at S w x;
  ended = x.ended ++ lost_calls x.machine (new_machine_at S w x) (committed_seq w.words);
  since = x.since;
  turns = x.turns;
  losses = x.losses + 1;
}

-- the view of a member that keeps the caller x, after a load at the moment to which these events
-- lead: a new machine has taken the place of the caller's lost one
abbrev pub after_revival_of : Setup → TableStart → View → KnownCaller → List Event → View
after_revival_of S B v x es = record v {
  seen = map seen_batch (moment S B es).batches;
  kept = known_after_revival S (moment S B es) x ∷ [];
  past = es ++ Revives x.machine.caller x.machine.made ∷ [];
  looks = v.looks + 1;
}

-- What has become of the calls of the kept caller x, which is y now, with a new machine in place of
-- its lost one. The counts of begun calls and of steps stay. An open call goes on, with the same
-- operation, or it is lost; if none was open, nothing is lost.
pub record TakesOver (x y : KnownCaller) : Type 0 where
  pub caller : y.machine.caller ≡ x.machine.caller
  pub made : y.machine.made ≡ x.machine.made
  pub turns : y.turns ≡ x.turns
  pub since : y.since ≡ x.since
  pub losses : y.losses ≡ x.losses + 1
  pub idle : x.machine.place ≡ Idle → (y.machine.place ≡ Idle) × (y.ended ≡ x.ended)
  pub open_call : IsOpen x.machine.place
      → (IsOpen y.machine.place × (y.machine.op ≡ x.machine.op) × (y.ended ≡ x.ended))
      ⊎ ((y.machine.place ≡ Idle)
      × ((s : ℕ) × (y.ended ≡ x.ended ++ record { op = x.machine.op; outcome = Lost s } ∷ [])))

-- The view v of a member that keeps the caller x has become w at the moment to which these events
-- lead, and a new machine has taken the place of the caller's lost one. What w keeps agrees with
-- what it has seen, as after a step.
pub record IsReplacedAt (S : Setup) (Lawful : List ℕ → Type 0) (B : TableStart) (es : List Event)
    (v : View) (x : KnownCaller) (w : View) : Type 0 where
  pub is : w ≡ after_revival_of S B v x es
  pub seen : IsPrefix v.seen w.seen
  pub takes_over : TakesOver x (known_after_revival S (moment S B es) x)
  pub legal : IsLegalFront S B w.seen
  pub own : HasOwn S B w.seen (known_after_revival S (moment S B es) x)
  pub once : HasOwnOnce S B w.seen (known_after_revival S (moment S B es) x)
  pub told : IsToldBy S B w.past x.machine.caller (known_after_revival S (moment S B es) x)
  -- an open call that goes on has made a step, and fewer steps than the bound
  pub started : IsOpen (new_machine_at S (moment S B es) x).place
      → 0 < (new_machine_at S (moment S B es) x).steps
  pub within : IsOpen (new_machine_at S (moment S B es) x).place
      → (new_machine_at S (moment S B es) x).steps < bound S

-- A load of the word with the index c has found n. Below the limit a new machine has taken the place
-- of the lost one of the caller that the view v keeps; at the limit the view has only learnt of all
-- events. The view is w now.
pub record TriesRevival (S : Setup) (Lawful : List ℕ → Type 0) (B : TableStart) (c : ℕ) (v : View)
    (n : ℕ) (w : View) : Type 0 where
  pub events : List Event
  pub past : IsPrefix v.past events
  pub own : HasOwnPast S Lawful B (record v { past = events })
  pub after : HasOwnPast S Lawful B w
  pub word : n ≡ get_or (moment S B events).words c 0
  pub result : (x : KnownCaller) → v.kept ≡ x ∷ []
      → ((committed_seq (moment S B events).words < S.limit) × IsReplacedAt S Lawful B events v x w)
      ⊎ ((S.limit ≤ committed_seq (moment S B events).words) × (w ≡ after_learning v events))

-- the same for a row that is given by its key
abbrev pub LearnsWordOf : {W : Type 0} → (W → Meaning) → (W → List ℕ → Type 0) → Option (RowKey W)
    → (c : ℕ) → View → ℕ → View → Type 0
LearnsWordOf meaning lawful None c v n w = Unit {0}
LearnsWordOf meaning lawful (Some k) c v n w =
    LearnsWord (key_setup meaning k) (lawful k.work) (key_start meaning k) c v n w

abbrev pub TriesRevivalOf : {W : Type 0} → (W → Meaning) → (W → List ℕ → Type 0)
    → Option (RowKey W) → (c : ℕ) → View → ℕ → View → Type 0
TriesRevivalOf meaning lawful None c v n w = Unit {0}
TriesRevivalOf meaning lawful (Some k) c v n w =
    TriesRevival (key_setup meaning k) (lawful k.work) (key_start meaning k) c v n w
