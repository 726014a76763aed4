use Rattle.std.proofs.Common.{ℕ, ◌<◌, ◌≤◌, length}
use Rattle.of_plan.specs.Plan.{scripts_of}
use Rattle.of_plan.specs.Report.{finished_of}
use Rattle.of_report.specs.Image.{start_of_image}
use Rattle.of_lives.proofs.start.has_scripts.Given as goal

-- those so far have their scripts
abbrev pub invariant-loop-caller : goal.invariant-loop-caller
invariant-loop-caller l = (c : ℕ) → c < l.caller → finished_of (start_of_image l.image) c ≤ length (scripts_of l.plan c)
