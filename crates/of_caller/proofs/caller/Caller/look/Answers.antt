use Rattle.of_caller.proofs.Phases.{err_then}
use Rattle.of_caller.proofs.caller.Caller.look.Goals as goal

pub returns-clause-denied : goal.returns-clause-denied
returns-clause-denied g c = err_then c.turn-2.result _ _ c.turn-2.ensures.denied (λ q c0 b0 s0 h. q c0 b0 s0 (c.in_ok-turn.ensures.goes c0 b0 s0 h))
