-- The report of a run whose brakes report their steps left: for each caller the report agrees with
-- the caller's stop in the plan.
use Rattle.std.specs.Prelude.{ℕ, ◌+◌, ◌<◌, List, [], ◌∷◌, Option, Some, None}
use Rattle.of_plan.specs.Plan.{Plan, stop_of}
use Rattle.of_plan.specs.Report.{Report}
use Rattle.of_plan.specs.Allowance.{KeepsAllowance}

-- if the brake of this caller reports its steps left, the stop that the plan gives the caller is a
-- possible allowance of steps for the caller in the report (`KeepsAllowance`)
abbrev pub KeepsStopAsAllowance : (left : Option (Option ℕ)) → Plan → Report → (caller : ℕ) → Type 0
KeepsStopAsAllowance None p r c = Unit {0}
KeepsStopAsAllowance (Some steps) p r c = KeepsAllowance p r c (stop_of p c)

-- The list has the brakes of caller c and of the callers after it. Of each of these callers that is
-- in the plan, and whose brake reports its steps left, the plan's stop is a possible allowance of
-- steps in the report.
abbrev pub KeepAllowances : {A : Type 0} → (A → Option (Option ℕ)) → Plan → Report → (c : ℕ)
    → List A → Type 0
KeepAllowances left p r c [] = Unit {0}
KeepAllowances left p r c (b ∷ bs) =
    (c < p.callers → KeepsStopAsAllowance (left b) p r c) × KeepAllowances left p r (c + 1) bs
