-- What is known of a run from its report, whatever the command: its record is lawful, and some more
-- facts that hold of every run.
use Rattle.std.specs.Prelude.{ℕ, ◌+◌, ◌≤◌, ◌<◌, List, [], ◌∷◌, length, drop, All, IsTrue}
use Rattle.of_plan.specs.declared.answer.Answer.{Answer}
use Rattle.of_plan.specs.Plan.{Plan}
use Rattle.of_plan.specs.Ended.{Ended, answers_of}
use Rattle.of_plan.specs.Report.{Report, Start, entries_of, finished_of}
use Rattle.of_plan.specs.Allowance.{least_steps}
use Rattle.of_eval.specs.Record.{IsLawfulRecord, answer_entry}

-- each answered call made at least the steps that such a call must make; the first answer is to the
-- script with index x
abbrev pub MakeLeastSteps : Plan → (caller index : ℕ) → List Answer → Type 0
MakeLeastSteps p c x [] = Unit {0}
MakeLeastSteps p c x (a ∷ others) =
    (least_steps p (answer_entry c x a) ≤ a.steps) × MakeLeastSteps p c (x + 1) others

-- r is the report of the run's record, the record is lawful, and the facts below hold
pub record ReportsRun (p : Plan) (s : Start) (e : Ended) (r : Report) : Type 0 where
  pub lawful : IsLawfulRecord p s e r
  -- the report's sequence is at most the plan's limit
  pub within_limit : r.seq ≤ p.limit
  -- an entry that a caller has besides its answers is of an announced call
  pub announced : (c : ℕ) → c < p.callers
      → All (λ f. IsTrue f.announced) (drop (length (answers_of e c)) (entries_of r c))
  -- each answered call made at least the steps that it must make
  pub least : (c : ℕ) → c < p.callers → MakeLeastSteps p c (finished_of s c) (answers_of e c)
