use Rattle.std.proofs.Common.{◌≡◌, ◌+◌, ◌++◌, List, map}
use Rattle.std.specs.List.{range_with_len}
use Rattle.of_plan.specs.Serial.{CallId}
use Rattle.of_serial.specs.SerialRun.{HasComeTo, course_after}
use Rattle.of_serial.proofs.serial_run.SerialRun.run_caller.Given as goal

-- the first calls of the caller have run
abbrev pub invariant-loop-index : goal.invariant-loop-index
invariant-loop-index l = record {
  seq : l.self.seq ≡ l.fn.self.seq + l.index;
  runs : (calls : List CallId) → HasComeTo l.fn.self (course_after l.plan calls) → HasComeTo l.self (course_after l.plan (calls ++ map (λ i. (l.caller, i)) (range_with_len 0 l.index)));
}
