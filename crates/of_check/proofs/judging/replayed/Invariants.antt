use Rattle.std.proofs.Common.{take}
use Rattle.of_check.specs.Starts.{start_of}
use Rattle.of_check.specs.Replay.{HasRunCalls}
use Rattle.of_check.proofs.judging.replayed.Given as goal

-- these calls have run
abbrev pub invariant-loop-count : goal.invariant-loop-count
invariant-loop-count l = HasRunCalls l.plan (start_of l.fn.start) (take l.count l.calls) l.replay
