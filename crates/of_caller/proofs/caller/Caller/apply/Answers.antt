use Rattle.std.proofs.Common.{arith, rules}
use Rattle.of_caller.proofs.Phases.{on_err, ok_then, err_then}
use Rattle.of_caller.proofs.caller.Caller.apply.Goals as goal

pub returns-in_err-turn : goal.returns-in_err-turn
returns-in_err-turn g c = record { caller = c.in_err-turn.ensures.caller; goes = search rules; denied = on_err c.from_residual-in_err-turn.result _ (λ c0 b0 s0 h. c.in_err-turn.ensures.denied c0 b0 s0 (c.in_ok-apply_log.ensures.goes c0 b0 s0 h)); falls = search rules }

pub returns-in_default-place : goal.returns-in_default-place
returns-in_default-place g c = record { caller = c.in_ok-turn.ensures.caller; goes = λ c0 b0 s0 h. c.in_ok-turn.ensures.goes c0 b0 s0 (c.in_ok-apply_log.ensures.goes c0 b0 s0 h); denied = tt; falls = omega (arith, c.in_ok-apply_log.ensures.falls, c.in_ok-turn.ensures.falls) }

pub returns : goal.returns
returns g c = record { caller = c.turn-2.ensures.caller; goes = ok_then c.turn-2.result _ _ c.turn-2.ensures.goes (λ q c0 b0 s0 h. q c0 b0 s0 (c.in_ok-turn.ensures.goes c0 b0 s0 (c.in_ok-apply_log.ensures.goes c0 b0 s0 h))); denied = err_then c.turn-2.result _ _ c.turn-2.ensures.denied (λ q c0 b0 s0 h. q c0 b0 s0 (c.in_ok-turn.ensures.goes c0 b0 s0 (c.in_ok-apply_log.ensures.goes c0 b0 s0 h))); falls = ok_then c.turn-2.result _ _ c.turn-2.ensures.falls (λ q. omega (arith, q, c.in_ok-apply_log.ensures.falls, c.in_ok-turn.ensures.falls)) }
