-- How many steps a call of a handle makes, and when it is stopped.
use Rattle.std.specs.Prelude.{◌≡◌, ℕ, ◌+◌, ◌≤◌, Option, Some, None, Result, Ok, Err}
use Rattle.of_brake.specs.Stops.{HasRisen}
use Rattle.of_cells.specs.declared.answer.RawAnswer.{RawAnswer}
use Rattle.of_cells.specs.declared.error.RunError.{RunError}
use Rattle.of_cells.specs.declared.error.RunError.TheVariants.{Stopped, Spent, InCall, NoCall, NoTicket}

-- the call is not stopped
abbrev pub IsNeverStopped : Result RawAnswer RunError → Type 0
IsNeverStopped (Ok a) = Unit {0}
IsNeverStopped (Err (Stopped asked)) = ⊥
IsNeverStopped (Err (Spent seq)) = Unit {0}
IsNeverStopped (Err InCall) = Unit {0}
IsNeverStopped (Err NoCall) = Unit {0}
IsNeverStopped (Err NoTicket) = Unit {0}

-- A call that had made `before` steps may make `more` steps, and has made `now` in all. If it is
-- answered, it has made at most `before + more`. It is stopped only after it has made all `more`
-- steps, when it asks for one more.
abbrev pub KeepsWithin : (before more now : ℕ) → Result RawAnswer RunError → Type 0
KeepsWithin before more now (Ok a) = a.steps ≤ before + more
KeepsWithin before more now (Err (Stopped asked)) = (asked ≡ more + 1) × (now ≡ before + more)
KeepsWithin before more now (Err (Spent seq)) = Unit {0}
KeepsWithin before more now (Err InCall) = Unit {0}
KeepsWithin before more now (Err NoCall) = Unit {0}
KeepsWithin before more now (Err NoTicket) = Unit {0}

-- A call that had made `before` steps makes at most as many steps more as its stop allows, and it
-- is stopped only after it has made them all. Without a stop it is never stopped.
abbrev pub KeepsToStop : (before : ℕ) → (stop : Option ℕ) → (now : ℕ)
    → Result RawAnswer RunError → Type 0
KeepsToStop before None now r = IsNeverStopped r
KeepsToStop before (Some more) now r = KeepsWithin before more now r

-- The steps of an answer are at most `most`, and a stopped call has asked at most `most` times.
abbrev pub EndsWithin : (most : ℕ) → Result RawAnswer RunError → Type 0
EndsWithin most (Ok a) = a.steps ≤ most
EndsWithin most (Err (Stopped asked)) = asked ≤ most
EndsWithin most (Err (Spent seq)) = Unit {0}
EndsWithin most (Err InCall) = Unit {0}
EndsWithin most (Err NoCall) = Unit {0}
EndsWithin most (Err NoTicket) = Unit {0}

-- a call is spent only if the sequence has come to the limit
abbrev pub IsSpentAtLimit : (limit : ℕ) → Result RawAnswer RunError → Type 0
IsSpentAtLimit limit (Ok a) = Unit {0}
IsSpentAtLimit limit (Err (Stopped asked)) = Unit {0}
IsSpentAtLimit limit (Err (Spent seq)) = seq ≡ limit
IsSpentAtLimit limit (Err InCall) = Unit {0}
IsSpentAtLimit limit (Err NoCall) = Unit {0}
IsSpentAtLimit limit (Err NoTicket) = Unit {0}

-- A count of steps has risen by no more than the stop of a call, if the call has one.
abbrev pub RisesWithin : (stop : Option ℕ) → (before now : ℕ) → Type 0
RisesWithin None before now = Unit {0}
RisesWithin (Some more) before now = now ≤ before + more

-- A call makes no more steps than its brake has left, and is stopped only after these, if the brake
-- reports its steps left.
abbrev pub KeepsToStepsLeft : (left : Option (Option ℕ)) → (before now : ℕ)
    → Result RawAnswer RunError → Type 0
KeepsToStepsLeft left before now r = (stop : Option ℕ) → left ≡ Some stop
    → KeepsToStop before stop now r

-- A count of steps has risen by no more than the brake had left, if the brake reports its steps
-- left.
abbrev pub RisesByBrake : (left : Option (Option ℕ)) → (before now : ℕ) → Type 0
RisesByBrake left before now = (stop : Option ℕ) → left ≡ Some stop → RisesWithin stop before now

-- A call is not stopped if its brake has denied no step.
abbrev pub EndsUnlessDenied : (before now : ℕ) → Result RawAnswer RunError → Type 0
EndsUnlessDenied before now r = (HasRisen before now → ⊥) → IsNeverStopped r
