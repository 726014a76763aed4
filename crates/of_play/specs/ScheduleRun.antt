-- The state of the code that plays a plan, between two events.
use Rattle.std.specs.Prelude.{◌≡◌, ◌≢◌, ℕ, ◌≤◌, ◌<◌, List, [], ◌++◌, length, map, take, slice_index_or}
use Rattle.of_eval.specs.Scripts.{scripts_meaning}
use Rattle.of_plan.specs.declared.answer.Answer.{Answer}
use Rattle.of_plan.specs.declared.answer.Ending.{Ending}
use Rattle.of_plan.specs.Plan.{Plan, IsPlan, scripts_of}
use Rattle.of_plan.specs.Ended.{Ended}
use Rattle.of_core.specs.declared.bank.Turn.{Turn}
use Rattle.of_core.specs.declared.bank.Turn.TheVariants.{Idle, Open, Ended as EndedTurn}
use Rattle.of_core.specs.declared.place.Outcome.{Outcome}
use Rattle.of_core.specs.declared.place.Outcome.TheVariants.{Lost}
use Rattle.of_core.specs.Machine.{CallState}
use Rattle.of_core.specs.Moment.{bank_setup}
use Rattle.of_core.specs.Events.{Event, machine_in, IsSchedule}
use Rattle.of_core.specs.Calls.{operations_begun, outcomes, outcome_of_turn}
use Rattle.of_caller.specs.Tables.{plan_setup, opening_for, operation_of}
use Rattle.of_caller.specs.Ends.{OutcomeHoldsReply, AreAnswers, ending_at}
use Rattle.of_caller.specs.Left.{IsLeftBy, moment_after}
use Rattle.of_play.specs.Play.{events_from, next_begin, turns_by}
use Rattle.of_play.specs.declared.schedule_run.ScheduleRun.{ScheduleRun}

-- the state in which these events leave a caller's machine
abbrev pub machine_left : Plan → List Event → ℕ → CallState
machine_left p es c = machine_in (moment_after p es) c

-- the events may happen one after the other, and each caller begins its first scripts in order, as
-- many as its machine counts
pub record EventsMayFollow (p : Plan) (es : List Event) : Type 0 where
  pub schedule : IsSchedule (plan_setup p) (opening_for p) es
  pub made : (c : ℕ) → c < p.callers → (machine_left p es c).made ≤ length (scripts_of p c)
  pub begun : (c : ℕ) → c < p.callers
      → operations_begun es c ≡ map operation_of (take (machine_left p es c).made (scripts_of p c))

-- the answers that the code has noted of a caller
abbrev pub answers_in : ScheduleRun → ℕ → List Answer
answers_in s c = slice_index_or (map (λ v. v.items) s.answers.items) c []

-- the events may happen one after the other (`EventsMayFollow`), the code's table is the plan's
-- table as these events leave it, and the code has noted all answers
pub record StandsAfter (p : Plan) (es : List Event) (s : ScheduleRun) : Type 0 where
  pub follows : EventsMayFollow p es
  pub callers : s.bank.callers ≡ p.callers
  pub table : bank_setup scripts_meaning s.bank ≡ plan_setup p
  pub words : s.bank.words ≡ (moment_after p es).words
  pub machines : s.bank.machines ≡ (moment_after p es).machines
  pub answers : length s.answers.items ≡ p.callers
  pub told : (c : ℕ) → c < p.callers
      → AreAnswers (outcomes (plan_setup p) (opening_for p) es c) (answers_in s c)

-- the plan is in range, the code's table is the plan's table as some events leave it, and the code
-- has noted all answers
pub record IsPlaying (p : Plan) (s : ScheduleRun) : Type 0 where
  pub plan : IsPlan p
  pub events : List Event
  pub stands : StandsAfter p events s

-- the code has gone on by these turns and evictions, with the begins of calls between them
abbrev pub MakesMoves : Plan → List Event → (before now : ScheduleRun) → Type 0
MakesMoves p moves before now =
    (es : List Event) → StandsAfter p es before
    → StandsAfter p (es ++ events_from p (moment_after p es) moves) now

-- the code has made `made` turns of the caller, one after the other, and at most `most`
pub record MakesTurnsInRow (p : Plan) (c most made : ℕ) (before now : ScheduleRun) : Type 0 where
  pub few : made ≤ most
  pub moves : MakesMoves p (turns_by c made) before now

-- the code has begun the caller's next call, if the caller begins one in this state
abbrev pub BeginsNext : Plan → ℕ → (before now : ScheduleRun) → Type 0
BeginsNext p c before now =
    (es : List Event) → StandsAfter p es before
    → StandsAfter p (es ++ next_begin p c (machine_left p es c)) now

-- the call isn't lost, since a play replaces no machine; if it was answered, its raw reply (its
-- reply cells) holds some reply of a script
abbrev pub IsPlayedOutcome : Outcome → Type 0
IsPlayedOutcome (Lost s) = ⊥
IsPlayedOutcome o = OutcomeHoldsReply o

-- if the turn has ended a call, the call isn't lost, and an answered call's raw reply holds a reply
abbrev pub IsReplied : Turn → Type 0
IsReplied Idle = Unit {0}
IsReplied Open = Unit {0}
IsReplied (EndedTurn o) = IsPlayedOutcome o

-- if the turn of caller `c` has ended a call, the code has added the call's answer, if it has one,
-- to the caller's answers; nothing else has changed
pub record NotesTurn (c : ℕ) (turn : Turn) (before now : ScheduleRun) : Type 0 where
  pub bank : now.bank ≡ before.bank
  pub answers : length now.answers.items ≡ length before.answers.items
  pub others : (i : ℕ) → i ≢ c → answers_in now i ≡ answers_in before i
  pub told : (os : List Outcome) → AreAnswers os (answers_in before c)
      → AreAnswers (os ++ outcome_of_turn turn) (answers_in now c)

-- the code has noted how the caller's call has ended
abbrev pub NotesEnd : ℕ → Outcome → (before now : ScheduleRun) → Type 0
NotesEnd c outcome before now = NotesTurn c (EndedTurn outcome) before now

-- `ending` is how the caller ends, if the run ends in this state
abbrev pub CallerEndsAs : Plan → ℕ → ScheduleRun → Ending → Type 0
CallerEndsAs p c s ending =
    (es : List Event) → StandsAfter p es s
    → ending ≡ ending_at (machine_left p es c) (length (scripts_of p c)) (length (answers_in s c))

-- `left` is what the run leaves, if the run ends in this state
abbrev pub RunLeaves : Plan → ScheduleRun → Ended → Type 0
RunLeaves p s left = (es : List Event) → StandsAfter p es s → IsLeftBy p es left
