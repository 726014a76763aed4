-- How far a caller of a team has come with its scripts. A lane is a caller of a team with its
-- brake, its answers and its ending.
use Rattle.std.specs.Prelude.{◌≡◌, ℕ, ◌+◌, ◌-◌, ◌≤◌, ◌<◌, List, [], ◌∷◌, ◌++◌, length, vec_capacity, Option, Some, None}
use Rattle.of_eval.specs.declared.scripts.Scripts.{Scripts}
use Rattle.of_eval.specs.Scripts.{scripts_meaning}
use Rattle.of_eval.specs.Record.{end_state_of}
use Rattle.of_eval.specs.Shapes.{IsHeldBy}
use Rattle.of_script.specs.declared.instr.Reply.{Reply}
use Rattle.of_plan.specs.declared.answer.Answer.{Answer}
use Rattle.of_plan.specs.declared.answer.Ending.{Ending}
use Rattle.of_plan.specs.Plan.{Plan, IsPlan, scripts_of}
use Rattle.of_core.specs.declared.place.Outcome.{Outcome}
use Rattle.of_core.specs.declared.place.Outcome.TheVariants.{Answered, Spent, Lost}
use Rattle.of_core.specs.Turn.{IsIdle}
use Rattle.of_row.specs.Views.{KnownCaller}
use Rattle.of_row.specs.Runs.{HasNoLoss}
use Rattle.of_row.specs.Rows.{IsRowMember}
use Rattle.of_row.specs.declared.row.Row.{Row}
use Rattle.of_caller.specs.declared.caller.Caller.{Caller}
use Rattle.of_caller.specs.declared.team_caller.TeamCaller.{TeamCaller}
use Rattle.of_caller.specs.Brakes.{TakesSteps}
use Rattle.of_caller.specs.PlanRows.{IsRowOf, HasStart}
use Rattle.of_caller.specs.Callers.{IsCaller, caller_call, member_of, sight_of}
use Rattle.of_caller.specs.Stops.{KeepsStop, KeepToStop, answer_steps, open_call_steps}
use Rattle.of_caller.specs.Teams.{AreAnswered, KeepsCaller}

-- the plan is in range, the row is one for it, and the row has started at a start of the plan
pub record IsPlanRow (p : Plan) (r : Row Scripts) : Type 0 where
  pub plan : IsPlan p
  pub row : IsRowOf p r
  pub start : HasStart p r

-- the outcome is an answer, and its raw reply holds a reply of a script
abbrev pub IsHeldAnswer : Outcome → Type 0
IsHeldAnswer (Answered k announced raw steps) = (r : Reply) × IsHeldBy raw r
IsHeldAnswer (Spent k) = ⊥
IsHeldAnswer (Lost k) = ⊥

-- ys is xs with one more item at the end, of which P holds
pub record Appends {A : Type 0} (P : A → Type 0) (xs ys : List A) : Type 0 where
  pub item : A
  pub is : ys ≡ xs ++ item ∷ []
  pub holds : P item

-- the kept caller has no open call, and its machine was never replaced; its first i scripts after
-- the first `behind` have these answers
pub record HasAnsweredScripts (p : Plan) (behind c : ℕ) (x : KnownCaller) (answers : List Answer)
    (i : ℕ) : Type 0 where
  pub idle : IsIdle x.machine
  pub answered : AreAnswered p behind c x.ended answers
  pub count : length answers ≡ i
  pub unlost : HasNoLoss x

-- The caller, number c of the row, is between two calls, and has begun `behind` and i calls. Its
-- member keeps this caller alone, with its machine. Its first i scripts after the first `behind`
-- have these answers, and its machine was never replaced.
pub record CallerHasAnswered (p : Plan) (behind c : ℕ) (r : Row Scripts) (caller : Caller Scripts)
    (answers : List Answer) (i : ℕ) : Type 0 where
  pub is_caller : IsCaller scripts_meaning r caller
  pub number : (caller_call caller).caller ≡ c
  pub made : (caller_call caller).made ≡ behind + i
  pub kept : KnownCaller
  pub kept_is : (sight_of caller).kept ≡ kept ∷ []
  pub shown : kept.machine ≡ caller_call caller
  pub going : HasAnsweredScripts p behind c kept answers i

-- The caller, number c of this row, has ended. Its member is of the row and keeps this caller
-- alone. What it keeps agrees with these answers and this ending (`KeepsCaller`).
pub record CallerHasEnded (p : Plan) (behind c : ℕ) (r : Row Scripts) (caller : Caller Scripts)
    (answers : List Answer) (ending : Ending) : Type 0 where
  pub seat : IsRowMember r (member_of caller)
  pub kept : KnownCaller
  pub kept_is : (sight_of caller).kept ≡ kept ∷ []
  pub number : kept.machine.caller ≡ c
  pub keeps : KeepsCaller p behind c answers ending kept

-- The answers `all` name n steps more in sum than the answers `these`. If the brake reports its
-- steps left, it has n steps less left than before.
abbrev pub TakesStepsOfAnswers : (before after : Option (Option ℕ)) → (these all : List Answer)
    → Type 0
TakesStepsOfAnswers before after xs ys =
    (n : ℕ) × (answer_steps ys ≡ answer_steps xs + n) × TakesSteps before after n

-- The answers `all` name n steps more in sum than the answers `these`. If the brake reports that
-- `left` steps are left, a caller that has made these n steps and those of its open call keeps to
-- the stop `left`.
abbrev pub KeepsToBrake : (left : Option (Option ℕ)) → (these all : List Answer) → Ending → Type 0
KeepsToBrake None xs ys ending = Unit {0}
KeepsToBrake (Some stop) xs ys ending =
    (n : ℕ) × (answer_steps ys ≡ answer_steps xs + n)
    × KeepsStop stop (n + open_call_steps ending) (end_state_of ending)

-- if the brake reports that `left` steps are left, a caller with these answers and this ending
-- keeps to the stop `left`: the steps of its answers and of its open call count
abbrev pub KeepsLeft : (left : Option (Option ℕ)) → List Answer → Ending → Type 0
KeepsLeft None answers ending = Unit {0}
KeepsLeft (Some stop) answers ending = KeepToStop stop answers ending

module _ {X : Type 0} {Y : X → Type 0} where
  -- the lane has a caller of the plan, and room for an answer to each script not done at the start
  pub record IsLane (p : Plan) (a : TeamCaller X Y) : Type 0 where
    pub number : a.number < p.callers
    pub first : a.first ≤ length (scripts_of p a.number)
    pub room : length (scripts_of p a.number) - a.first ≤ vec_capacity a.answers

  -- the lane's caller is between two calls; of its scripts that weren't done before the row's
  -- start, the first i are answered
  pub record LaneAt (p : Plan) (r : Row Scripts) (a : TeamCaller X Y) (i : ℕ) : Type 0 where
    pub lane : IsLane p a
    pub caller : CallerHasAnswered p a.first a.number r a.caller a.answers.items i

  -- the lane's caller has made no call yet
  pub record IsReady (p : Plan) (r : Row Scripts) (a : TeamCaller X Y) : Type 0 where
    pub at_first : LaneAt p r a 0
    pub none : a.answers.items ≡ []

  -- the lane's caller has ended with this ending
  abbrev pub LaneEnds : Plan → Row Scripts → TeamCaller X Y → Ending → Type 0
  LaneEnds p r a ending = CallerHasEnded p a.first a.number r a.caller a.answers.items ending

  -- lane b has the number and the first script of lane a, and its caller has ended with the answers
  -- and the ending that b has
  pub record HasRun (p : Plan) (r : Row Scripts) (a b : TeamCaller X Y) : Type 0 where
    pub number : b.number ≡ a.number
    pub first : b.first ≡ a.first
    pub ends : LaneEnds p r b b.ending
