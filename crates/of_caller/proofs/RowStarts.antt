-- A row of a plan: its setup is the plan's, and it starts where the plan does.
use Rattle.std.proofs.Common.{◌≡◌, ℕ, ◌<◌, List, sym, ap, subst, ◌∙◌, arith}
use Rattle.of_mem.specs.Meaning.{Meaning}
use Rattle.of_mem.specs.Places.{base_of}
use Rattle.of_mem.specs.ProgramWork.{memory_of}
use Rattle.of_mem.proofs.Lists.{zero_at}
use Rattle.of_script.specs.declared.instr.TheConstants.{MOST_INSTRS}
use Rattle.of_eval.specs.declared.scripts.Scripts.{Scripts}
use Rattle.of_eval.specs.Record.{plan_data_cells}
use Rattle.of_eval.specs.Scripts.{LawfulCells, StandsForSome, scripts_meaning}
use Rattle.of_plan.specs.Plan.{Plan}
use Rattle.of_plan.specs.Report.{Start, empty_start, finished_of}
use Rattle.of_core.specs.Table.{Setup, setup_of}
use Rattle.of_core.specs.TableMoment.{TableStart}
use Rattle.of_core.specs.Events.{zero_start}
use Rattle.of_row.specs.Views.{View}
use Rattle.of_row.specs.Rule.{ViewMeetsRule}
use Rattle.of_row.specs.Rows.{key_of, setup_at}
use Rattle.of_row.specs.declared.row.Row.{Row}
use Rattle.of_caller.specs.Tables.{plan_setup, IsLawfulFor}
use Rattle.of_caller.specs.Starts.{StartsAtPlan, ZerosAreEmpty}
use Rattle.of_caller.specs.PlanRows.{IsRowOf, start_of_row, HasStart}
use Rattle.of_caller.specs.Seating.{done_at}
use Rattle.of_caller.proofs.Schedules.{ticket_is}

-- the cells of so many callers and blocks that stand for some store
abbrev LawfulAt : (callers blocks : ℕ) → List ℕ → Type 0
LawfulAt c b xs = StandsForSome (base_of c MOST_INSTRS) b (memory_of xs)

module _ (p : Plan) (r : Row Scripts) (row : IsRowOf p r) where
  -- the setup of the row is the plan's
  pub same_setup : setup_at scripts_meaning r ≡ plan_setup p
  same_setup =
      let meaning : scripts_meaning (key_of r).work ≡ (plan_setup p).meaning =
      ap (λ (n : ℕ). (plan_setup (record p { callers = n; blocks = (key_of r).work.blocks })).meaning) row.work_callers
      ∙ ap (λ (n : ℕ). (plan_setup (record p { blocks = n })).meaning) row.work_blocks in
      ap (λ (M : Meaning). setup_of (key_of r).callers (key_of r).cells (key_of r).limit M) meaning
      ∙ ap (λ (n : ℕ). setup_of n (key_of r).cells (key_of r).limit (plan_setup p).meaning) row.callers
      ∙ ap (λ (n : ℕ). setup_of p.callers n (key_of r).limit (plan_setup p).meaning) row.cells
      ∙ ap (λ (n : ℕ). setup_of p.callers (plan_data_cells p) n (plan_setup p).meaning) row.limit

  -- so what meets the row's rule meets that of the plan's table
  pub meets_for : (B : TableStart) (ws : List ℕ) (v : View) → ViewMeetsRule (setup_at scripts_meaning r) (LawfulCells (key_of r).work) B ws v → ViewMeetsRule (plan_setup p) (IsLawfulFor p) B ws v
  meets_for B ws v m =
      subst (λ (n : ℕ). ViewMeetsRule (plan_setup p) (LawfulAt p.callers n) B ws v) row.work_blocks
      (subst (λ (n : ℕ). ViewMeetsRule (plan_setup p) (LawfulAt n (key_of r).work.blocks) B ws v) row.work_callers
      (subst (λ (S : Setup). ViewMeetsRule S (LawfulCells (key_of r).work) B ws v) same_setup m))

  -- the scripts of a caller that are done are those that the row has behind it
  pub done_is : (s : Start) → StartsAtPlan p s (start_of_row r) → (c : ℕ) → c < p.callers → done_at r c ≡ finished_of s c
  done_is s starts c lt = ticket_is p s (start_of_row r) starts c lt

-- a row of zeros has the plan's start
pub zeros_are : (p : Plan) (r : Row Scripts) → IsRowOf p r → start_of_row r ≡ zero_start (setup_at scripts_meaning r) → start_of_row r ≡ zero_start (plan_setup p)
zeros_are p r row zero_row = zero_row ∙ ap zero_start (same_setup p r row)

pub zero_rows_start : (p : Plan) (r : Row Scripts) → ZerosAreEmpty p → start_of_row r ≡ zero_start (plan_setup p) → HasStart p r
zero_rows_start p r empty zero_row = (
  empty_start p,
  subst (StartsAtPlan p (empty_start p)) (sym zero_row) empty,
  λ c lt. omega (arith, zero_at p.callers c),
)
