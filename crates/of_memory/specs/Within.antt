-- How many steps a call of a handle makes, and when it is stopped.
use Rattle.std.specs.Prelude.{ℕ, Option, Result}
use Rattle.of_plan.specs.declared.answer.Answer.{Answer}
use Rattle.of_cells.specs.declared.error.RunError.{RunError}
use Rattle.of_cells.specs.Within as generic
use Rattle.of_memory.specs.Called.{without_reply}

-- the call is not stopped
abbrev pub IsNeverStopped : Result Answer RunError → Type 0
IsNeverStopped result = generic.IsNeverStopped (without_reply result)

-- A call that had made `before` steps may make `more` steps, and has made `now` in all. If it is
-- answered, it has made at most `before + more`. It is stopped only after it has made all `more`
-- steps, when it asks for one more.
abbrev pub KeepsWithin : (before more now : ℕ) → Result Answer RunError → Type 0
KeepsWithin before more now result = generic.KeepsWithin before more now (without_reply result)

-- A call that had made `before` steps makes at most as many steps more as its stop allows, and it
-- is stopped only after it has made them all. Without a stop it is never stopped.
abbrev pub KeepsToStop : (before : ℕ) → (stop : Option ℕ) → (now : ℕ) → Result Answer RunError
    → Type 0
KeepsToStop before stop now result = generic.KeepsToStop before stop now (without_reply result)

-- The steps of an answer are at most `most`, and a stopped call has asked at most `most` times.
abbrev pub EndsWithin : (most : ℕ) → Result Answer RunError → Type 0
EndsWithin most result = generic.EndsWithin most (without_reply result)
