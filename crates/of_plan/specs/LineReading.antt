-- How the code reads a line: the ranges of its numbers, and what its words say.
use Rattle.of_plan.specs.declared.plan.TheConstants.{MOST_PLAN_CALLERS, MOST_PLAN_BLOCKS, LATEST_STOP, MOST_TURNS}
use Rattle.of_cell.specs.declared.word.TheConstants.{GREATEST_LIMIT}
use Rattle.of_plan.specs.declared.parser.line.TheConstants.{GREATEST_CELL}
use Rattle.std.specs.Prelude.{ℕ, ◌-◌, ◌≤◌, ◌&&◌, List, [], ◌∷◌, if◌then◌else◌, codes, Option, None}
use Rattle.std.specs.Str.{bytes_eq}
use Rattle.of_script.specs.Language.{IsScript}
use Rattle.of_script.specs.Reading.{at_end_of_words}
use Rattle.of_plan.specs.declared.parser.line.BodyLine.TheVariants.{Script, Stop, Turns, Evict}
use Rattle.of_plan.specs.declared.parser.line.ScriptlessLine.{ScriptlessLine}
use Rattle.of_plan.specs.declared.parser.line.ScriptlessLine.TheVariants.{Title as ScriptlessTitle, Callers as ScriptlessCallers, Blocks as ScriptlessBlocks, Limit as ScriptlessLimit, Stop as ScriptlessStop, Turns as ScriptlessTurns, Evict as ScriptlessEvict, End as ScriptlessEnd}
use Rattle.of_plan.specs.declared.parser.line.PlanLine.{PlanLine}
use Rattle.of_plan.specs.declared.parser.line.PlanLine.TheVariants.{Title, Callers, Blocks, Limit, Body, End}
use Rattle.of_plan.specs.Lines.{line_words}
use Rattle.of_plan.specs.Reader.{Language}

-- the numbers of a line are in the ranges that hold whatever lines come before it
abbrev pub IsLineInRange : PlanLine → Type 0
IsLineInRange Title = Unit {0}
IsLineInRange (Callers n) = n ≤ MOST_PLAN_CALLERS
IsLineInRange (Blocks n) = n ≤ MOST_PLAN_BLOCKS
IsLineInRange (Limit x) = x ≤ GREATEST_LIMIT
IsLineInRange (Body (Script c script)) = (c ≤ MOST_PLAN_CALLERS - 1) × IsScript script
IsLineInRange (Body (Stop c x)) = (c ≤ MOST_PLAN_CALLERS - 1) × (x ≤ LATEST_STOP)
IsLineInRange (Body (Turns c x)) = (c ≤ MOST_PLAN_CALLERS - 1) × (x ≤ MOST_TURNS)
IsLineInRange (Body (Evict a)) = a ≤ GREATEST_CELL
IsLineInRange End = Unit {0}

-- the lines of plans, the words of each, and the ranges of its numbers
abbrev pub plan_language : Language
plan_language = record { Line = PlanLine; words_of = line_words; InRange = IsLineInRange }

-- the line of a plan in the form that contracts see, for a line without a script as the code has it
abbrev pub line_of_scriptless : ScriptlessLine → PlanLine
line_of_scriptless ScriptlessTitle = Title
line_of_scriptless (ScriptlessCallers n) = Callers n
line_of_scriptless (ScriptlessBlocks n) = Blocks n
line_of_scriptless (ScriptlessLimit x) = Limit x
line_of_scriptless (ScriptlessStop c x) = Body (Stop c x)
line_of_scriptless (ScriptlessTurns c x) = Body (Turns c x)
line_of_scriptless (ScriptlessEvict a) = Body (Evict a)
line_of_scriptless ScriptlessEnd = End

-- the title, if these are its words after `onefile`
abbrev pub title_line : List (List ℕ) → Option PlanLine
title_line [] = None
title_line (w ∷ []) = None
title_line (w ∷ v ∷ ws) =
    if bytes_eq w (codes "plan") && bytes_eq v (codes "1") then at_end_of_words Title ws else None
