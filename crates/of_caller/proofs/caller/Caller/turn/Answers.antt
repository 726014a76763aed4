use Rattle.of_caller.proofs.Phases.{err_then}
use Rattle.of_caller.proofs.caller.Caller.turn.Goals as goal

pub returns-in-Some-clause-denied : goal.returns-in-Some-clause-denied
returns-in-Some-clause-denied g c = err_then c.run_owed.result _ _ c.run_owed.ensures.denied (λ q c0 b0 s0 h. q c0 b0 s0 ((rw c.in-Some.is at c.in_ok-turn_owing.ensures.goes) c0 b0 s0 h))
