use Rattle.std.proofs.Common.{◌≡◌, ℕ, ◌<◌}
use Rattle.of_plan.specs.Report.{Start}
use Rattle.of_report.specs.Report.{report_value}
use Rattle.of_check.specs.Ends.{HoldsLastCall}
use Rattle.of_check.proofs.ends.wrong_call.Given as goal

-- the cells of the callers so far are right
abbrev pub invariant-loop-caller : goal.invariant-loop-caller
invariant-loop-caller l = (s : Start) → s.finished ≡ l.done → (c : ℕ) → c < l.caller → HoldsLastCall s (report_value l.report) l.image c
