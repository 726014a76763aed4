use Rattle.std.proofs.Common.{arith}
use Rattle.of_check.proofs.Bounds.{few_scripts}
use Rattle.of_check.proofs.replay.Replay.run_call.Goals as goal

pub overflow_add-call : goal.overflow_add-call
overflow_add-call c = omega (arith, c.requires.follows.turn, c.requires.follows.script, few_scripts c.args.plan.now c.in_range.ensures c.args.call.caller c.requires.follows.caller)
