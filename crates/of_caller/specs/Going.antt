-- A call on its way: what its steps have led to, and what a denied ask leaves.
use Rattle.std.specs.Prelude.{◌≡◌, ℕ, ◌+◌, ◌-◌, ◌<◌, ◌≤◌, List, [], ◌∷◌, length, Bool, true, false, Option}
use mathlib.Core.List.{IsPrefix}
use Rattle.of_mem.specs.Meaning.{Meaning}
use Rattle.of_core.specs.declared.place.Outcome.{Outcome}
use Rattle.of_core.specs.declared.place.Place.{Place}
use Rattle.of_core.specs.Table.{Setup}
use Rattle.of_core.specs.Machine.{CallState, IsOpen, is_idle}
use Rattle.of_core.specs.MachineValue.{Machine, machine_setup}
use Rattle.of_core.specs.Lagging.{at_place}
use Rattle.of_core.specs.OwedRun.{after_run_if}
use Rattle.of_core.specs.TableMoment.{TableStart}
use Rattle.of_core.specs.Bound.{bound}
use Rattle.of_core.specs.Touched.{IsWithinTouched}
use Rattle.of_core.specs.Turn.{IsIdle}
use Rattle.of_core.specs.Calls.{operations_begun}
use Rattle.of_brake.specs.Stops.{HasRisen, ChargesAsk, Asked}
use Rattle.of_row.specs.Views.{KnownCaller, View}
use Rattle.of_row.specs.Told.{operations_known}
use Rattle.of_row.specs.Turned.{since_after}
use Rattle.of_row.specs.declared.row.Row.{Row}
use Rattle.of_row.specs.Rows.{key_of, setup_at, row_start}
use Rattle.of_caller.specs.declared.caller.Caller.{Caller}
use Rattle.of_caller.specs.Callers.{IsCaller, caller_call, sight_of}
use Rattle.of_caller.specs.CallsTold.{HasEndedWith, IsStillOpen, TellsStepsMade}
use Rattle.of_caller.specs.Brakes.{TakesSteps, AskedFor}

-- the caller; if its machine owes a run, the caller after this run
abbrev pub true_caller : {W : Type 0} → (W → Meaning) → (owed : Bool) → Caller W → Caller W
true_caller meaning owed c = record c { machine = after_run_if meaning owed c.machine }

-- the caller with this machine in place of its own
abbrev pub with_machine : {W : Type 0} → Caller W → Machine W → Caller W
with_machine c m = record c { machine = m }

-- the true caller, if its machine lags: its call has come to the place p, after k steps more
abbrev pub lagging_caller : {W : Type 0} → Caller W → Place → (k : ℕ) → Caller W
lagging_caller c p k = with_machine c (at_place c.machine p k)

-- n steps of a call have led from the machine m and the view v to d and w
pub record Progress (S : Setup) (L : List ℕ → Type 0) (B : TableStart) (m : CallState) (v : View)
    (n : ℕ) (d : CallState) (w : View) : Type 0 where
  pub seen : IsPrefix v.seen w.seen
  pub past : IsPrefix v.past w.past
  pub caller : d.caller ≡ m.caller
  pub made : d.made ≡ m.made
  pub op : d.op ≡ m.op
  pub before : KnownCaller
  pub kept : KnownCaller
  pub kept_before : v.kept ≡ before ∷ []
  pub kept_now : w.kept ≡ kept ∷ []
  pub none : n ≡ 0 → (w ≡ v) × (d ≡ m)
  pub some : 0 < n → TellsStepsMade S B d w kept
  pub turns : kept.turns ≡ before.turns + n
  pub losses : kept.losses ≡ before.losses
  pub looks : w.looks ≡ v.looks
  pub since : 0 < n → kept.since ≡ since_after B v before
  pub behind : 0 < n
      → length (operations_begun v.past m.caller) ≤ length (operations_known before)
  pub touched : 0 < n → IsWithinTouched S L m.op (m.steps + n)
  pub still : IsOpen d.place → IsStillOpen S m before n d kept
  pub ended : IsIdle d → (o : Outcome) × HasEndedWith S L B m v before n d w kept o

-- Steps of the open call have led from the caller c0 to c. The brake was asked before each of them;
-- it was b0 before the first and is b now. The count of steps was s0 and is s now.
pub record HasGone {W B : Type 0} (meaning : W → Meaning) (lawful : W → List ℕ → Type 0)
    (denials : B → ℕ) (left : B → Option (Option ℕ)) (answers asks : B → Option ℕ) (r : Row W)
    (c0 : Caller W) (b0 : B) (s0 : ℕ) (c : Caller W) (b : B) (s : ℕ) : Type 0 where
  pub count : ℕ
  pub progress : Progress (setup_at meaning r) (lawful (key_of r).work) (row_start meaning r)
      (caller_call c0) (sight_of c0) count (caller_call c) (sight_of c)
  pub steps : s ≡ s0 + count
  pub denied : denials b0 ≤ denials b
  pub uses : TakesSteps (left b0) (left b) count
  pub asked : AskedFor (asks b0) (asks b) count
  pub heard : answers b ≡ answers b0

-- Steps of the open call have led from the caller c0 to c, and then the brake denied one more. The
-- call is still open.
pub record IsDenied {W B : Type 0} (meaning : W → Meaning) (lawful : W → List ℕ → Type 0)
    (denials : B → ℕ) (left : B → Option (Option ℕ)) (answers asks : B → Option ℕ) (r : Row W)
    (c0 : Caller W) (b0 : B) (s0 : ℕ) (c : Caller W) (b : B) (s : ℕ) : Type 0 where
  -- the brake before the denied ask
  pub brake : B
  pub gone : HasGone meaning lawful denials left answers asks r c0 b0 s0 c brake s
  pub still : IsOpen (caller_call c).place
  pub denied : denials brake ≤ denials b
  pub cause : HasRisen (denials brake) (denials b)
  pub charges : ChargesAsk (left brake) (left b) false
  pub asked : Asked (asks brake) (asks b)
  pub heard : answers b ≡ answers brake

-- the call goes on from c to c1: whatever steps have led to c, some more have led to c1
abbrev pub LeadsOn : {W B : Type 0} → (W → Meaning) → (W → List ℕ → Type 0)
    → (B → ℕ) → (B → Option (Option ℕ)) → (answers asks : B → Option ℕ) → Row W
    → (c : Caller W) → (b : B) → (s : ℕ) → (c1 : Caller W) → (b1 : B) → (s1 : ℕ) → Type 0
LeadsOn {W} {B} meaning lawful denials left answers asks r c b s c1 b1 s1 =
    (c0 : Caller W) → (b0 : B) → (s0 : ℕ)
    → HasGone meaning lawful denials left answers asks r c0 b0 s0 c b s
    → HasGone meaning lawful denials left answers asks r c0 b0 s0 c1 b1 s1

-- the call goes on from c to c1, where the brake denies a step
abbrev pub LeadsToDenial : {W B : Type 0} → (W → Meaning) → (W → List ℕ → Type 0)
    → (B → ℕ) → (B → Option (Option ℕ)) → (answers asks : B → Option ℕ) → Row W
    → (c : Caller W) → (b : B) → (s : ℕ) → (c1 : Caller W) → (b1 : B) → (s1 : ℕ) → Type 0
LeadsToDenial {W} {B} meaning lawful denials left answers asks r c b s c1 b1 s1 =
    (c0 : Caller W) → (b0 : B) → (s0 : ℕ)
    → HasGone meaning lawful denials left answers asks r c0 b0 s0 c b s
    → IsDenied meaning lawful denials left answers asks r c0 b0 s0 c1 b1 s1

-- the steps that an open call has left at most, and 0 if the call is not open
abbrev pub left_by : Setup → CallState → (idle : Bool) → ℕ
left_by S d true = 0
left_by S d false = bound S - d.steps

abbrev pub steps_to_go : Setup → CallState → ℕ
steps_to_go S d = left_by S d (is_idle d.place)

abbrev pub steps_left : {W : Type 0} → (W → Meaning) → Caller W → ℕ
steps_left meaning c = steps_to_go (machine_setup meaning c.machine) (caller_call c)

-- what a step, or a few of them, has led to from the true caller c to the true caller c1: c1 is a
-- caller of the row, the call goes on to it, and fewer steps are left
pub record GoesTo {W B : Type 0} (meaning : W → Meaning) (lawful : W → List ℕ → Type 0)
    (denials : B → ℕ) (left : B → Option (Option ℕ)) (answers asks : B → Option ℕ) (r : Row W)
    (c : Caller W) (b : B) (s : ℕ) (c1 : Caller W) (b1 : B) (s1 : ℕ) : Type 0 where
  pub caller : IsCaller meaning r c1
  pub goes : LeadsOn meaning lawful denials left answers asks r c b s c1 b1 s1
  pub falls : steps_left meaning c1 < steps_left meaning c

-- the brake has denied a step of the true caller c, which is c1 now
pub record IsDeniedAt {W B : Type 0} (meaning : W → Meaning) (lawful : W → List ℕ → Type 0)
    (denials : B → ℕ) (left : B → Option (Option ℕ)) (answers asks : B → Option ℕ) (r : Row W)
    (c : Caller W) (b : B) (s : ℕ) (c1 : Caller W) (b1 : B) (s1 : ℕ) : Type 0 where
  pub caller : IsCaller meaning r c1
  pub denied : LeadsToDenial meaning lawful denials left answers asks r c b s c1 b1 s1

-- Steps of the open call have led from the caller c to the true caller c1, whose machine is still
-- that of c: the call has come to the place p, after k steps that the machine hasn't counted.
pub record LagsTo {W B : Type 0} (meaning : W → Meaning) (lawful : W → List ℕ → Type 0)
    (denials : B → ℕ) (left : B → Option (Option ℕ)) (answers asks : B → Option ℕ) (r : Row W)
    (c : Caller W) (b : B) (s : ℕ) (c1 : Caller W) (p : Place) (k : ℕ) (b1 : B) (s1 : ℕ)
    : Type 0 where
  pub machine : c1.machine ≡ c.machine
  pub caller : IsCaller meaning r (lagging_caller c1 p k)
  pub goes : LeadsOn meaning lawful denials left answers asks r c b s (lagging_caller c1 p k) b1 s1
  pub falls : steps_left meaning (lagging_caller c1 p k) ≤ steps_left meaning c
