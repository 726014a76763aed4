-- A row that a plan's callers can share.
use Rattle.std.specs.Prelude.{◌≡◌, ℕ, ◌≤◌, ◌<◌, length}
use Rattle.of_eval.specs.declared.scripts.Scripts.{Scripts}
use Rattle.of_eval.specs.Record.{plan_data_cells}
use Rattle.of_eval.specs.Scripts.{scripts_meaning}
use Rattle.of_plan.specs.Plan.{Plan, scripts_of}
use Rattle.of_plan.specs.Report.{Start, finished_of}
use Rattle.of_core.specs.TableMoment.{TableStart}
use Rattle.of_row.specs.declared.row.Row.{Row}
use Rattle.of_row.specs.Rows.{key_of, row_start}
use Rattle.of_caller.specs.Starts.{StartsAtPlan}

-- the row is made for the plan: its numbers of callers and data cells and its limit are the plan's,
-- and its work has the plan's numbers of callers and blocks
pub record IsRowOf (p : Plan) (r : Row Scripts) : Type 0 where
  pub callers : (key_of r).callers ≡ p.callers
  pub cells : (key_of r).cells ≡ plan_data_cells p
  pub limit : (key_of r).limit ≡ p.limit
  pub work_callers : (key_of r).work.callers ≡ p.callers
  pub work_blocks : (key_of r).work.blocks ≡ p.blocks

-- the start of the row
abbrev pub start_of_row : Row Scripts → TableStart
start_of_row r = row_start scripts_meaning r

-- each caller has at least as many scripts as are done at the start
abbrev pub HasScripts : Plan → Start → Type 0
HasScripts p s = (c : ℕ) → c < p.callers → finished_of s c ≤ length (scripts_of p c)

-- the row has started at a start of the plan, at which no caller has more scripts done than it has
-- scripts in the plan
abbrev pub HasStart : Plan → Row Scripts → Type 0
HasStart p r = (s : Start) × StartsAtPlan p s (start_of_row r) × HasScripts p s
