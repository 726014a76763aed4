-- What the calls that take a line or an entry promise: whether they have taken it, and what the
-- reading is then.
use Rattle.std.specs.Prelude.{◌≡◌, Bool, None, if◌then◌else◌}
use Rattle.of_plan.specs.declared.parser.line.BodyLine.{BodyLine}
use Rattle.of_plan.specs.declared.parser.line.PlanLine.{PlanLine}
use Rattle.of_plan.specs.declared.parser.line.PlanLine.TheVariants.{Body}
use Rattle.of_plan.specs.declared.parser.state.Reading.{Reading}
use Rattle.of_plan.specs.Reading.{reading_value, with_entry, after_line, TakesEntry, TakesLine}

-- if `taken` is true, the entry was taken, and the reading after it is `new`; if `taken` is false,
-- the entry may not come next after the reading `old`
abbrev pub HasTakenEntry : (old : Reading) → BodyLine → (new : Reading) → (taken : Bool) → Type 0
HasTakenEntry old e new taken = TakesEntry (reading_value old) e taken (reading_value new)

-- If `may` is true, an entry may come next exactly if the reading `new` can take it; if `may` is
-- false, no entry may come next.
abbrev pub MayTakeEntries : (old new : Reading) → (may : Bool) → Type 0
MayTakeEntries old new may =
    (e : BodyLine) → after_line (reading_value old) (Body e)
    ≡ (if may then with_entry (reading_value new) e else None)

-- if `taken` is true, the line was taken, and the reading after it is `new`; if `taken` is false,
-- the line may not come next after the reading `old`
abbrev pub HasTakenLine : (old : Reading) → PlanLine → (new : Reading) → (taken : Bool) → Type 0
HasTakenLine old l new taken = TakesLine (reading_value old) l taken (reading_value new)
