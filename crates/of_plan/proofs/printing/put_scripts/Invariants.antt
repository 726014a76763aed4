use Rattle.std.proofs.Common.{◌≡◌, ◌++◌, drop, string_bytes}
use Rattle.of_plan.specs.PlanText.{entries_text, script_entries}
use Rattle.of_plan.proofs.printing.put_scripts.Given as goal

abbrev pub invariant-loop-caller : goal.invariant-loop-caller
invariant-loop-caller l = string_bytes l.out ++ entries_text (script_entries l.caller (drop l.caller l.plan.scripts)) ≡ string_bytes l.initial.out ++ entries_text (script_entries 0 l.plan.scripts)
