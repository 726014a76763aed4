use Rattle.std.proofs.Common.{◌≡◌, ◌++◌, drop, map, string_bytes}
use Rattle.of_plan.specs.PlanText.{entries_text, item_entry}
use Rattle.of_plan.proofs.printing.put_schedule.Given as goal

-- what is written, and the text of what is left
abbrev pub invariant-loop-item : goal.invariant-loop-item
invariant-loop-item l = string_bytes l.out ++ entries_text (map item_entry (drop l.item-index l.schedule)) ≡ string_bytes l.initial.out ++ entries_text (map item_entry l.schedule)
