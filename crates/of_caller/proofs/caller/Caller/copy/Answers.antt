use Rattle.std.proofs.Common.{arith}
use Rattle.of_caller.proofs.Phases.{on_err, ok_then, err_then}
use Rattle.of_caller.proofs.caller.Caller.copy.Goals as goal

pub returns-in_err-turn-2-clause-denied : goal.returns-in_err-turn-2-clause-denied
returns-in_err-turn-2-clause-denied g c = on_err c.from_residual-in_err-turn-2.result _ (λ c0 b0 s0 h. c.in_err-turn-2.ensures.denied c0 b0 s0 (c.loop-at.invariant.goes c0 b0 s0 h))

pub returns-in_default-place : goal.returns-in_default-place
returns-in_default-place g c = record { caller = c.loop-at.invariant.caller; goes = λ c0 b0 s0 h. c.loop-at.invariant.goes c0 b0 s0 h; denied = tt; falls = omega (arith, c.loop-at.invariant.falls) }

pub returns : goal.returns
returns g c = record { caller = c.turn-2.ensures.caller; goes = ok_then c.turn-2.result _ _ c.turn-2.ensures.goes (λ q c0 b0 s0 h. q c0 b0 s0 (c.loop-at.invariant.goes c0 b0 s0 h)); denied = err_then c.turn-2.result _ _ c.turn-2.ensures.denied (λ q c0 b0 s0 h. q c0 b0 s0 (c.loop-at.invariant.goes c0 b0 s0 h)); falls = ok_then c.turn-2.result _ _ c.turn-2.ensures.falls (λ q. omega (arith, q, c.loop-at.invariant.falls)) }
