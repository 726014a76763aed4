-- How the code checks a line: whether it may come next, and the reason why not.
use Rattle.std.specs.Prelude.{ℕ, ◌+◌, Bool, true, false, nat_le, nat_lt, ◌==◌, is_some, slice_index_or, if◌then◌else◌, Option, Some, None}
use Rattle.of_cell.specs.Cells.{durable_cells}
use Rattle.of_plan.specs.declared.plan.TheConstants.{MOST_TURNS}
use Rattle.of_plan.specs.declared.parser.line.LineForm.{LineForm}
use Rattle.of_plan.specs.declared.parser.line.LineForm.TheVariants.{Callers as FCallers, Blocks as FBlocks, Limit as FLimit, Stop as FStop, Turns as FTurns, Evict as FEvict, End as FEnd}
use Rattle.of_plan.specs.declared.parser.state.Stage.{Stage}
use Rattle.of_plan.specs.declared.parser.state.Stage.TheVariants.{Start, Named, Counted, Sized, Body as InBody, Ended}
use Rattle.of_plan.specs.declared.reason.Reason.{Reason}
use Rattle.of_plan.specs.declared.reason.Reason.TheVariants.{Flawed, TitleExpected, CallersExpected, BlocksExpected, AfterEnd, NoCaller, NoCell, TooManyTurns, StopTwice}
use Rattle.of_plan.specs.declared.flaw.Flaw.TheVariants.{Zero as IsZero}
use Rattle.of_plan.specs.declared.parser.line.TheConstants.{GREATEST_CELL}
use Rattle.of_plan.specs.LineTable.{line_first_most}
use Rattle.of_plan.specs.Plan.{data_cells}
use Rattle.of_plan.specs.Reading.{Reading}

-- the heading is over, and the end has not come
abbrev pub is_below_heading : Stage → Bool
is_below_heading Sized = true
is_below_heading InBody = true
is_below_heading _ = false

-- a line of this form may come next
abbrev pub may_come : Stage → LineForm → Bool
may_come Named FCallers = true
may_come Counted FBlocks = true
may_come Sized FLimit = true
may_come stage FStop = is_below_heading stage
may_come stage FTurns = is_below_heading stage
may_come stage FEvict = is_below_heading stage
may_come stage FEnd = is_below_heading stage
may_come _ _ = false

-- the reason why a line may not come next at this stage: which line of the heading is missing, or
-- that the end has come; otherwise the reason `below`
abbrev pub place_reason : Stage → (below : Reason) → Reason
place_reason Start below = TitleExpected
place_reason Named below = CallersExpected
place_reason Counted below = BlocksExpected
place_reason Sized below = below
place_reason InBody below = below
place_reason Ended below = AfterEnd

-- the greatest number that the code reads as the first number of a line of this form; the number
-- may still be refused afterwards
abbrev pub first_read : LineForm → ℕ
first_read FStop = GREATEST_CELL
first_read FTurns = GREATEST_CELL
first_read form = line_first_most form

-- why this number may not be the first of a line of this form; None if it may
abbrev pub first_fault : Reading → LineForm → (first : ℕ) → Option Reason
first_fault p FCallers n = if n == 0 then Some (Flawed IsZero) else None
first_fault p FBlocks n = None
first_fault p FLimit x = if x == 0 then Some (Flawed IsZero) else None
first_fault p FStop c =
    if nat_le p.callers c then Some (NoCaller c p.callers)
    else if is_some (slice_index_or p.stops c None) then Some (StopTwice c) else None
first_fault p FTurns c = if nat_le p.callers c then Some (NoCaller c p.callers) else None
first_fault p FEvict a =
    let cells = durable_cells p.callers (data_cells p.callers p.blocks) in
    if nat_le cells a then Some (NoCell a cells) else None
first_fault p FEnd x = None

-- why this number may not be the second of a line of this form; None if it may
abbrev pub second_fault : Reading → LineForm → (second : ℕ) → Option Reason
second_fault p FTurns x =
    if x == 0 then Some (Flawed IsZero)
    else if nat_lt MOST_TURNS (p.turns + x) then Some TooManyTurns else None
second_fault p _ x = None
