use Rattle.std.proofs.Common.{rules}
use Rattle.of_caller.proofs.Phases.{on_err}
use Rattle.of_caller.proofs.caller.Caller.scan.Goals as goal

pub returns-in_err-look-clause-denied : goal.returns-in_err-look-clause-denied
returns-in_err-look-clause-denied g c = on_err c.from_residual.result _ (λ c0 b0 s0 h. c.in_err-look.ensures.denied c0 b0 s0 (c.loop-self.invariant.goes c0 b0 s0 h))

pub returns-in_err-turn : goal.returns-in_err-turn
returns-in_err-turn g c = record { caller = c.in_err-turn.ensures.caller; goes = search rules; denied = on_err c.from_residual-in_err-turn.result _ (λ c0 b0 s0 h. c.in_err-turn.ensures.denied c0 b0 s0 (c.loop-at.invariant.goes c0 b0 s0 h)); falls = search rules }

pub returns-in_err-turn-2 : goal.returns-in_err-turn-2
returns-in_err-turn-2 g c = record { caller = c.in_err-turn-2.ensures.caller; goes = search rules; denied = on_err c.from_residual-in_err-turn-2.result _ (λ c0 b0 s0 h. c.in_err-turn-2.ensures.denied c0 b0 s0 (c.loop-addr.invariant.goes c0 b0 s0 h)); falls = search rules }

pub returns-in_err-look-2 : goal.returns-in_err-look-2
returns-in_err-look-2 g c = record { caller = c.in_err-look-2.ensures.caller; goes = search rules; denied = on_err c.from_residual-in_err-look-2.result _ (λ c0 b0 s0 h. c.in_err-look-2.ensures.denied c0 b0 s0 (c.loop-self-2.invariant.goes c0 b0 s0 h)); falls = search rules }
