-- Plans: for each caller its scripts and its stop, and the schedule.
use Rattle.of_plan.specs.declared.plan.TheConstants.{MOST_PLAN_CALLERS, MOST_PLAN_BLOCKS, LATEST_STOP, MOST_SCRIPTS, MOST_TURNS}
use Rattle.of_cell.specs.declared.word.TheConstants.{GREATEST_LIMIT}
use Rattle.std.specs.Prelude.{◌≡◌, ℕ, ◌≤◌, ◌<◌, List, [], length, sum_by, slice_index_or, IfSome, Option, None}
use Rattle.std.specs.List.{AllByRecursion}
use Rattle.of_cell.specs.Cells.{durable_cells, step_bound}
use Rattle.of_mem.specs.Places.{base_of, cells_at}
use Rattle.of_script.specs.declared.instr.Instr.{Instr}
use Rattle.of_script.specs.declared.instr.TheConstants.{MOST_INSTRS}
use Rattle.of_script.specs.Language.{IsScript}
use Rattle.of_plan.specs.declared.plan.Item.{Item}
use Rattle.of_plan.specs.declared.plan.Item.TheVariants.{Turns, Evict}

-- how many callers and blocks there are, the greatest sequence, each caller's scripts and stop, and
-- what happens step by step
pub record Plan : Type 0 where
  pub callers : ℕ
  pub blocks : ℕ
  pub limit : ℕ
  pub scripts : List (List (List Instr))
  pub stops : List (Option ℕ)
  pub schedule : List Item

-- the scripts of a caller
abbrev pub scripts_of : Plan → ℕ → List (List Instr)
scripts_of p c = slice_index_or p.scripts c []

-- after how many steps a caller stops, if it does
abbrev pub stop_of : Plan → ℕ → Option ℕ
stop_of p c = slice_index_or p.stops c None

-- how many data cells this many callers and blocks have: each caller's own, and after them the
-- store's
abbrev pub data_cells : (callers blocks : ℕ) → ℕ
data_cells callers blocks = cells_at (base_of callers MOST_INSTRS) blocks

-- how many cells of a plan's table have a durable word
abbrev pub durable_cells_of : Plan → ℕ
durable_cells_of p = durable_cells p.callers (data_cells p.callers p.blocks)

-- the most steps of a call of a plan
abbrev pub bound_of : Plan → ℕ
bound_of p = step_bound p.callers MOST_INSTRS (data_cells p.callers p.blocks)

-- how many turns an item is
abbrev pub turns_of : Item → ℕ
turns_of (Turns c x) = x
turns_of (Evict a) = 0

-- an item is at least one turn of a caller of the plan, or the eviction of a cell that has a
-- durable word
abbrev pub IsScheduleItem : Plan → Item → Type 0
IsScheduleItem p (Turns c x) = (c < p.callers) × (1 ≤ x)
IsScheduleItem p (Evict a) = a < durable_cells_of p

-- the numbers and lists of a plan are in range
pub record IsPlan (p : Plan) : Type 0 where
  pub some_callers : 1 ≤ p.callers
  pub few_callers : p.callers ≤ MOST_PLAN_CALLERS
  pub few_blocks : p.blocks ≤ MOST_PLAN_BLOCKS
  pub some_limit : 1 ≤ p.limit
  pub limit_range : p.limit ≤ GREATEST_LIMIT
  pub each_caller : length p.scripts ≡ p.callers
  pub each_script : AllByRecursion (AllByRecursion IsScript) p.scripts
  pub few_scripts : sum_by length p.scripts ≤ MOST_SCRIPTS
  pub each_stop : length p.stops ≡ p.callers
  pub stop_range : AllByRecursion (λ o. IfSome o (λ x. x ≤ LATEST_STOP)) p.stops
  pub each_item : AllByRecursion (IsScheduleItem p) p.schedule
  pub few_turns : sum_by turns_of p.schedule ≤ MOST_TURNS
