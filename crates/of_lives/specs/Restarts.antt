-- A life leaves a start for the next life: from the durable words of its run, recovery makes a row.
-- A table may start from this row, at the start that the life leaves.
use Rattle.std.specs.Prelude.{List, ℕ, ◌<◌}
use Rattle.of_recover.specs.Recovered.{recovered_words}
use Rattle.of_eval.specs.Record.{plan_data_cells, IsLawfulRecord}
use Rattle.of_plan.specs.Plan.{Plan}
use Rattle.of_plan.specs.Report.{Start, Report, entries_of, finished_of}
use Rattle.of_plan.specs.Ended.{Ended}
use Rattle.of_core.specs.TableMoment.{Moment, TableStart}
use Rattle.of_core.specs.Starts.{start_from_durable, IsDurable, IsStartRow}
use Rattle.of_caller.specs.Tables.{plan_setup, IsLawfulFor}
use Rattle.of_caller.specs.Starts.{start_number, StartsAtPlan}
use Rattle.of_caller.specs.Restarts.{HoldsLastAnnounced}
use Rattle.of_caller.specs.Runs.{IsRunOfPlan}
use Rattle.of_lives.specs.Lives.{start_behind}

-- the start of a plan's table from this durable row
abbrev pub start_from_row : Plan → List ℕ → TableStart
start_from_row p row = start_from_durable p.callers (plan_data_cells p) row

-- a life with this report, from the start `s`, has left this durable row
pub record LeavesRow (p : Plan) (s : Start) (r : Report) (found : List ℕ) : Type 0 where
  -- a table may start from the row, at the start that the life leaves
  pub row : IsStartRow (plan_setup p) (IsLawfulFor p) found
  pub start : StartsAtPlan p (start_behind s (record { plan = p; report = r }))
      (start_from_row p found)
  -- each caller's own cells hold its last announced call, with the reply that the report has
  pub last_calls : (c : ℕ) → c < p.callers
      → HoldsLastAnnounced (start_number (start_from_row p found)) c (finished_of s c)
      (entries_of r c)

-- any run of a plan leaves durable words from which recovery makes a row, and the next life may
-- start from this row (`LeavesRow`)
abbrev pub LivesRestart : Type 0
LivesRestart =
    (p : Plan) (s : Start) (B : TableStart) (w : Moment) (e : Ended) → IsRunOfPlan p s B w e
    → (r : Report) → IsLawfulRecord p s e r → (row : List ℕ) → IsDurable (plan_setup p) e.words row
    → LeavesRow p s r (recovered_words p.callers (plan_data_cells p) row)
