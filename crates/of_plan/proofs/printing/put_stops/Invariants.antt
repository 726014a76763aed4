use Rattle.std.proofs.Common.{◌≡◌, ◌++◌, drop, string_bytes}
use Rattle.of_plan.specs.PlanText.{entries_text, stop_entries}
use Rattle.of_plan.proofs.printing.put_stops.Given as goal

abbrev pub invariant-loop-caller : goal.invariant-loop-caller
invariant-loop-caller l = string_bytes l.out ++ entries_text (stop_entries l.caller (drop l.caller l.plan.stops)) ≡ string_bytes l.initial.out ++ entries_text (stop_entries 0 l.plan.stops)
