-- When a table starts at a start of a plan: the table has the start's sequence, its cells stand for
-- the start's store, and its ticket cells say how many scripts of each caller are done.
use Rattle.std.specs.Prelude.{◌≡◌, ℕ, ◌<◌, length, map}
use Rattle.of_cell.specs.Words.{payload_of}
use Rattle.of_mem.specs.Places.{ticket_cell_at}
use Rattle.of_mem.specs.ProgramWork.{memory_of}
use Rattle.of_script.specs.declared.instr.TheConstants.{MOST_INSTRS}
use Rattle.of_eval.specs.Lawful.{DataCellsStandFor}
use Rattle.of_eval.specs.Record.{plan_data_cells}
use Rattle.of_plan.specs.Plan.{Plan}
use Rattle.of_plan.specs.Report.{Start, empty_start, finished_of}
use Rattle.of_core.specs.TableMoment.{TableStart}
use Rattle.of_core.specs.Events.{zero_start}
use Rattle.of_caller.specs.Tables.{plan_setup}

-- the number in a data cell of a table's start
abbrev pub start_number : TableStart → ℕ → ℕ
start_number B a = memory_of (map payload_of B.cells) a

-- The table starts at this start of the plan: it has the start's sequence, as many data cells as
-- the plan, and cells that stand for the start's store. The start says for each caller how many of
-- its scripts are done, and the caller's ticket cell holds this number.
pub record StartsAtPlan (p : Plan) (s : Start) (B : TableStart) : Type 0 where
  pub seq : B.seq ≡ s.seq
  pub size : length B.cells ≡ plan_data_cells p
  pub stands : DataCellsStandFor p.callers MOST_INSTRS p.blocks (start_number B) s.store
  pub each_caller : length s.finished ≡ p.callers
  pub tickets : (c : ℕ) → c < p.callers
      → start_number B (ticket_cell_at MOST_INSTRS c) ≡ finished_of s c

-- a table of zeros starts at the plan's empty start
abbrev pub ZerosAreEmpty : Plan → Type 0
ZerosAreEmpty p = StartsAtPlan p (empty_start p) (zero_start (plan_setup p))
