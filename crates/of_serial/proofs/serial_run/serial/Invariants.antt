use Rattle.std.proofs.Common.{◌≡◌, ◌≤◌}
use Rattle.of_serial.specs.SerialRun.{HasComeTo, course_after}
use Rattle.of_serial.proofs.Courses.{run_below, lines_below}
use Rattle.of_serial.proofs.serial_run.serial.Given as goal

-- the calls of the callers so far have run, up to the limit, and each caller has its line
abbrev pub invariant-loop-caller : goal.invariant-loop-caller
invariant-loop-caller l = record {
  within : l.run.seq ≤ l.plan.limit;
  runs : HasComeTo l.run (course_after l.plan (run_below l.plan l.caller));
  lines : l.callers.items ≡ lines_below l.plan l.caller;
}
