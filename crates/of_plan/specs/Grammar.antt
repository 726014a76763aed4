-- The grammar of plans: which texts are in it, the plan of each, and the bad line of every other
-- text.
use Rattle.of_plan.specs.declared.plan.TheConstants.{MOST_PLAN_CALLERS, MOST_PLAN_BLOCKS, LATEST_STOP, MOST_SCRIPTS, MOST_TURNS}
use Rattle.of_cell.specs.declared.word.TheConstants.{GREATEST_LIMIT}
use Rattle.std.specs.Prelude.{◌≡◌, ℕ, ◌≤◌, ◌<◌, List, [], ◌∷◌, ◌++◌, length, map, sum_by, filter_map, if◌then◌else◌, ◌==◌, Option, Some, None, IfSome}
use Rattle.std.specs.Option.{unwrap_or}
use Rattle.std.specs.List.{AllByRecursion, range_with_len}
use Rattle.of_cell.specs.Cells.{durable_cells}
use Rattle.of_script.specs.declared.instr.Instr.{Instr}
use Rattle.of_script.specs.Language.{IsScript}
use Rattle.of_plan.specs.declared.plan.Item.{Item}
use Rattle.of_plan.specs.declared.plan.Item.TheVariants.{Turns as TurnsItem, Evict as EvictItem}
use Rattle.of_plan.specs.declared.parser.line.BodyLine.{BodyLine}
use Rattle.of_plan.specs.declared.parser.line.BodyLine.TheVariants.{Script, Stop, Turns, Evict}
use Rattle.of_plan.specs.declared.parser.line.PlanLine.{PlanLine}
use Rattle.of_plan.specs.declared.parser.line.PlanLine.TheVariants.{Title, Callers, Blocks, Limit, Body, End}
use Rattle.of_plan.specs.Lines.{text_lines, unskipped_words, line_words}
use Rattle.of_plan.specs.Plan.{Plan, data_cells, turns_of}

-- what the first lines say; the line of the limit may be absent
pub record Heading : Type 0 where
  pub callers : ℕ
  pub blocks : ℕ
  pub limit : Option ℕ

-- the line of the limit, if there is one
abbrev pub limit_lines : Option ℕ → List PlanLine
limit_lines None = []
limit_lines (Some x) = Limit x ∷ []

-- the first lines of a plan's text
abbrev pub heading_lines : Heading → List PlanLine
heading_lines h = Title ∷ Callers h.callers ∷ Blocks h.blocks ∷ limit_lines h.limit

-- the lines that aren't skipped: a heading, the entries, and the end
abbrev pub plan_lines : Heading → List BodyLine → List PlanLine
plan_lines h entries = heading_lines h ++ (map Body entries ++ End ∷ [])

-- the numbers of a heading are in range
pub record IsHeading (h : Heading) : Type 0 where
  pub some_callers : 1 ≤ h.callers
  pub few_callers : h.callers ≤ MOST_PLAN_CALLERS
  pub few_blocks : h.blocks ≤ MOST_PLAN_BLOCKS
  pub limit_range : IfSome h.limit (λ x. (1 ≤ x) × (x ≤ GREATEST_LIMIT))

-- An entry is in range. Its caller is one of the heading's. Its script is a script, its stop is at
-- most `LATEST_STOP`, it has at least one turn, and its cell has a durable word. The number of
-- turns has no upper bound here, because the bound is on all turns together.
abbrev pub IsEntryInRange : Heading → BodyLine → Type 0
IsEntryInRange h (Script c script) = (c < h.callers) × IsScript script
IsEntryInRange h (Stop c x) = (c < h.callers) × (x ≤ LATEST_STOP)
IsEntryInRange h (Turns c x) = (c < h.callers) × (1 ≤ x)
IsEntryInRange h (Evict a) = a < durable_cells h.callers (data_cells h.callers h.blocks)

-- the script in the entry, if the entry is a script of this caller; otherwise none
abbrev pub script_in_entry : ℕ → BodyLine → Option (List Instr)
script_in_entry c (Script d script) = if d == c then Some script else None
script_in_entry c _ = None

-- the number of steps in the entry, if the entry is a stop of this caller; otherwise None
abbrev pub stop_at : ℕ → BodyLine → Option ℕ
stop_at c (Stop d x) = if d == c then Some x else None
stop_at c _ = None

-- the item of the schedule in the entry, if the entry is turns or an eviction; otherwise None
abbrev pub item_of : BodyLine → Option Item
item_of (Turns c x) = Some (TurnsItem c x)
item_of (Evict a) = Some (EvictItem a)
item_of _ = None

-- 1 for a script entry, and 0 for any other; a sum of these counts the scripts
abbrev pub is_script : BodyLine → ℕ
is_script (Script c script) = 1
is_script _ = 0

-- each entry is in range, and the entries together are: at most 20,000 scripts, at most 10,000,000
-- turns in all, and at most one stop of each caller
pub record AreEntries (h : Heading) (entries : List BodyLine) : Type 0 where
  pub in_range : AllByRecursion (IsEntryInRange h) entries
  pub few_scripts : sum_by is_script entries ≤ MOST_SCRIPTS
  pub few_turns : sum_by turns_of (filter_map item_of entries) ≤ MOST_TURNS
  pub one_stop : (c : ℕ) → length (filter_map (stop_at c) entries) ≤ 1

-- the first number of a list, if there is one
abbrev pub head_of : List ℕ → Option ℕ
head_of [] = None
head_of (x ∷ xs) = Some x

-- the scripts of a caller, in the order of the entries
abbrev pub scripts_in : List BodyLine → ℕ → List (List Instr)
scripts_in entries c = filter_map (script_in_entry c) entries

-- the stop of a caller, if one of the entries is a stop of this caller
abbrev pub stop_in : List BodyLine → ℕ → Option ℕ
stop_in entries c = head_of (filter_map (stop_at c) entries)

-- the plan of a heading and entries: each caller's scripts and stop, and the items, in the order of
-- the entries
abbrev pub plan_of : Heading → List BodyLine → Plan
plan_of h entries = record {
  callers = h.callers;
  blocks = h.blocks;
  limit = unwrap_or h.limit GREATEST_LIMIT;
  scripts = map (scripts_in entries) (range_with_len 0 h.callers);
  stops = map (stop_in entries) (range_with_len 0 h.callers);
  schedule = filter_map item_of entries;
}

-- the text is in the grammar, and has this plan
pub record SpellsPlan (text : List ℕ) (plan : Plan) : Type 0 where
  pub heading : Heading
  pub entries : List BodyLine
  pub heading_fits : IsHeading heading
  pub entries_fit : AreEntries heading entries
  pub each : unskipped_words (text_lines text) ≡ map line_words (plan_lines heading entries)
  pub is : plan ≡ plan_of heading entries

-- the text is in the grammar
abbrev pub IsPlanText : List ℕ → Type 0
IsPlanText text = (plan : Plan) × SpellsPlan text plan
