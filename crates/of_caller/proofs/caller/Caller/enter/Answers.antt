use Rattle.of_caller.proofs.Phases.{ok_then, err_then}
use Rattle.of_caller.proofs.caller.Caller.enter.Goals as goal

pub returns-clause-goes : goal.returns-clause-goes
returns-clause-goes g c = ok_then c.turn-2.result _ _ c.turn-2.ensures.goes (λ q c0 b0 s0 h. q c0 b0 s0 (c.in_ok-turn.ensures.goes c0 b0 s0 h))

pub returns-clause-denied : goal.returns-clause-denied
returns-clause-denied g c = err_then c.turn-2.result _ _ c.turn-2.ensures.denied (λ q c0 b0 s0 h. q c0 b0 s0 (c.in_ok-turn.ensures.goes c0 b0 s0 h))
