use Rattle.std.proofs.Common.{◌≡◌, ◌++◌, drop, string_bytes}
use Rattle.of_plan.specs.PlanText.{entries_text, caller_entries}
use Rattle.of_plan.proofs.printing.put_caller.Given as goal

abbrev pub invariant-loop-script : goal.invariant-loop-script
invariant-loop-script l = string_bytes l.out ++ entries_text (caller_entries l.caller (drop l.script-index l.scripts)) ≡ string_bytes l.initial.out ++ entries_text (caller_entries l.caller l.scripts)
