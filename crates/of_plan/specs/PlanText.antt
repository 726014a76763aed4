-- The one printed text of a plan.
use Rattle.std.specs.Prelude.{ℕ, ◌+◌, List, [], ◌∷◌, ◌++◌, map, flat_map, codes, decimal, Option, Some, None, String}
use Rattle.of_script.specs.declared.instr.Instr.{Instr}
use Rattle.of_script.specs.Text.{script_text}
use Rattle.of_script.specs.Appending.{AppendsText}
use Rattle.of_plan.specs.declared.plan.Item.{Item}
use Rattle.of_plan.specs.declared.plan.Item.TheVariants.{Turns as TurnsItem, Evict as EvictItem}
use Rattle.of_plan.specs.declared.parser.line.BodyLine.{BodyLine}
use Rattle.of_plan.specs.declared.parser.line.BodyLine.TheVariants.{Script, Stop, Turns, Evict}
use Rattle.of_plan.specs.declared.parser.line.PlanLine.{PlanLine}
use Rattle.of_plan.specs.declared.parser.line.PlanLine.TheVariants.{Title, Callers, Blocks, Limit, Body, End}
use Rattle.of_plan.specs.Plan.{Plan}
use Rattle.of_plan.specs.Grammar.{Heading, heading_lines, plan_lines}

-- the text of a line without its newline, with one space between words
abbrev pub line_body : PlanLine → List ℕ
line_body Title = codes "onefile plan 1"
line_body (Callers n) = codes "callers " ++ decimal n
line_body (Blocks n) = codes "blocks " ++ decimal n
line_body (Limit x) = codes "limit " ++ decimal x
line_body (Body (Script c script)) =
    (codes "script " ++ decimal c ++ codes " ") ++ script_text script
line_body (Body (Stop c x)) = codes "stop " ++ decimal c ++ codes " " ++ decimal x
line_body (Body (Turns c x)) = codes "turns " ++ decimal c ++ codes " " ++ decimal x
line_body (Body (Evict a)) = codes "evict " ++ decimal a
line_body End = codes "end"

-- the text of a line with its newline
abbrev pub line_text : PlanLine → List ℕ
line_text l = line_body l ++ codes "\n"

-- the text of the lines of these entries
abbrev pub entries_text : List BodyLine → List ℕ
entries_text entries = flat_map line_text (map Body entries)

-- `new` is `old` with the lines of these entries after it
abbrev pub AppendsEntries : {Z : Type 0} → (old new : String Z) → List BodyLine → Type 0
AppendsEntries old new entries = AppendsText old new (entries_text entries)

-- the entries of one caller's scripts
abbrev pub caller_entries : ℕ → List (List Instr) → List BodyLine
caller_entries c scripts = map (Script c) scripts

-- the entries of the scripts of caller `c` and of all callers after it
abbrev pub script_entries : ℕ → List (List (List Instr)) → List BodyLine
script_entries c [] = []
script_entries c (scripts ∷ others) = caller_entries c scripts ++ script_entries (c + 1) others

-- the entries of the stops of caller `c` and of all callers after it
abbrev pub stop_entries : ℕ → List (Option ℕ) → List BodyLine
stop_entries c [] = []
stop_entries c (None ∷ others) = stop_entries (c + 1) others
stop_entries c (Some x ∷ others) = Stop c x ∷ stop_entries (c + 1) others

-- the entry of a plan's text for an item of the schedule
abbrev pub item_entry : Item → BodyLine
item_entry (TurnsItem c x) = Turns c x
item_entry (EvictItem a) = Evict a

-- the heading that is printed of a plan; it always has the line of the limit
abbrev pub printed_heading : Plan → Heading
printed_heading p = record { callers = p.callers; blocks = p.blocks; limit = Some p.limit }

-- the text of the lines before the entries
abbrev pub heading_text : Plan → List ℕ
heading_text p = flat_map line_text (heading_lines (printed_heading p))

-- the entries that are printed of a plan: all scripts, caller by caller, then the stops, and then
-- the schedule
abbrev pub printed_entries : Plan → List BodyLine
printed_entries p =
    script_entries 0 p.scripts ++ (stop_entries 0 p.stops ++ map item_entry p.schedule)

-- the text that is printed of a plan: its lines one after the other
abbrev pub plan_text : Plan → List ℕ
plan_text p = flat_map line_text (plan_lines (printed_heading p) (printed_entries p))
