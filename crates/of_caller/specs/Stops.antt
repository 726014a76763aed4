-- What is known of the callers of a run whose brakes report how many steps they have left.
use Rattle.std.specs.Prelude.{◌≡◌, ℕ, ◌+◌, ◌-◌, ◌≤◌, ◌<◌, List, [], ◌∷◌, Option, Some, None}
use Rattle.of_eval.specs.Record.{end_state_of}
use Rattle.of_plan.specs.declared.answer.Answer.{Answer}
use Rattle.of_plan.specs.declared.answer.Ending.{Ending}
use Rattle.of_plan.specs.declared.answer.Ending.TheVariants.{Done, Stopped, Spent}
use Rattle.of_plan.specs.Plan.{Plan, stop_of}
use Rattle.of_plan.specs.Report.{EndState, stopped}
use Rattle.of_plan.specs.Ended.{Ended, answers_of, ending_of}

-- the sum of the steps that the answers name
abbrev pub answer_steps : List Answer → ℕ
answer_steps [] = 0
answer_steps (a ∷ others) = a.steps + answer_steps others

-- how many steps a stopped caller's open call has made: one less than its brake was asked; 0 if the
-- caller isn't stopped
abbrev pub open_call_steps : Ending → ℕ
open_call_steps Done = 0
open_call_steps (Stopped asked) = asked - 1
open_call_steps (Spent seq) = 0

-- A caller that has made this many steps keeps to its stop: it has made at most `stop` steps, and
-- exactly `stop` if it was stopped. A caller without a stop isn't stopped.
abbrev pub KeepsStop : (stop : Option ℕ) → (steps : ℕ) → EndState → Type 0
KeepsStop None steps state = state ≡ stopped → ⊥
KeepsStop (Some most) steps state = (steps ≤ most) × (state ≡ stopped → steps ≡ most)

-- a caller with these answers and this ending keeps to its stop: the steps of its answers and of
-- its open call are together at most `stop`, and exactly `stop` if the caller was stopped
abbrev pub KeepToStop : (stop : Option ℕ) → List Answer → Ending → Type 0
KeepToStop stop answers ending =
    KeepsStop stop (answer_steps answers + open_call_steps ending) (end_state_of ending)

-- if a caller's brake reports its steps left, the caller keeps to its stop
abbrev pub KeepToToldStop : (left : Option (Option ℕ)) → (stop : Option ℕ) → List Answer → Ending
    → Type 0
KeepToToldStop None stop answers ending = Unit {0}
KeepToToldStop (Some steps) stop answers ending = KeepToStop stop answers ending

-- a caller of a run keeps to the plan's stop, if its brake reports its steps left
abbrev pub CallerKeepsStop : Plan → Ended → (caller : ℕ) → (left : Option (Option ℕ)) → Type 0
CallerKeepsStop p e c left = KeepToToldStop left (stop_of p c) (answers_of e c) (ending_of e c)

-- The list has the brakes of caller c and of the callers after it. Each of these callers that is in
-- the plan, and whose brake reports its steps left, keeps to its stop in the plan.
abbrev pub KeepStops : {A : Type 0} → (A → Option (Option ℕ)) → Plan → Ended → (c : ℕ) → List A
    → Type 0
KeepStops left p e c [] = Unit {0}
KeepStops left p e c (b ∷ bs) =
    (c < p.callers → CallerKeepsStop p e c (left b)) × KeepStops left p e (c + 1) bs
