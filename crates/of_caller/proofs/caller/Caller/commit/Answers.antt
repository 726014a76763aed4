use Rattle.std.proofs.Common.{arith, rules}
use Rattle.of_caller.proofs.Phases.{on_err, ok_then, err_then}
use Rattle.of_caller.proofs.caller.Caller.commit.Goals as goal

pub returns-in_err-store_log : goal.returns-in_err-store_log
returns-in_err-store_log g c = record { caller = c.in_err-store_log.ensures.caller; goes = search rules; denied = on_err c.from_residual-in_err-store_log.result _ (λ c0 b0 s0 h. c.in_err-store_log.ensures.denied c0 b0 s0 (c.in_ok-turn.ensures.goes c0 b0 s0 h)); falls = search rules }

pub returns-in_default-place : goal.returns-in_default-place
returns-in_default-place g c = record { caller = c.in_ok-store_log.ensures.caller; goes = λ c0 b0 s0 h. c.in_ok-store_log.ensures.goes c0 b0 s0 (c.in_ok-turn.ensures.goes c0 b0 s0 h); denied = tt; falls = omega (arith, c.in_ok-turn.ensures.falls, c.in_ok-store_log.ensures.falls) }

pub returns-in_err-turn-2 : goal.returns-in_err-turn-2
returns-in_err-turn-2 g c = record { caller = c.in_err-turn-2.ensures.caller; goes = search rules; denied = on_err c.from_residual-in_err-turn-2.result _ (λ c0 b0 s0 h. c.in_err-turn-2.ensures.denied c0 b0 s0 (c.in_ok-store_log.ensures.goes c0 b0 s0 (c.in_ok-turn.ensures.goes c0 b0 s0 h))); falls = search rules }

pub returns-in_default-place-2 : goal.returns-in_default-place-2
returns-in_default-place-2 g c = record { caller = c.in_ok-turn-2.ensures.caller; goes = λ c0 b0 s0 h. c.in_ok-turn-2.ensures.goes c0 b0 s0 (c.in_ok-store_log.ensures.goes c0 b0 s0 (c.in_ok-turn.ensures.goes c0 b0 s0 h)); denied = tt; falls = omega (arith, c.in_ok-turn.ensures.falls, c.in_ok-store_log.ensures.falls, c.in_ok-turn-2.ensures.falls) }

pub returns-in_err-turn-3 : goal.returns-in_err-turn-3
returns-in_err-turn-3 g c = record { caller = c.in_err-turn-3.ensures.caller; goes = search rules; denied = on_err c.from_residual-in_err-turn-3.result _ (λ c0 b0 s0 h. c.in_err-turn-3.ensures.denied c0 b0 s0 (c.in_ok-turn-2.ensures.goes c0 b0 s0 (c.in_ok-store_log.ensures.goes c0 b0 s0 (c.in_ok-turn.ensures.goes c0 b0 s0 h)))); falls = search rules }

pub returns-in_default-place-3 : goal.returns-in_default-place-3
returns-in_default-place-3 g c = record { caller = c.in_ok-turn-3.ensures.caller; goes = λ c0 b0 s0 h. c.in_ok-turn-3.ensures.goes c0 b0 s0 (c.in_ok-turn-2.ensures.goes c0 b0 s0 (c.in_ok-store_log.ensures.goes c0 b0 s0 (c.in_ok-turn.ensures.goes c0 b0 s0 h))); denied = tt; falls = omega (arith, c.in_ok-turn.ensures.falls, c.in_ok-store_log.ensures.falls, c.in_ok-turn-2.ensures.falls, c.in_ok-turn-3.ensures.falls) }

pub returns-in_err-turn-4 : goal.returns-in_err-turn-4
returns-in_err-turn-4 g c = record { caller = c.in_err-turn-4.ensures.caller; goes = search rules; denied = on_err c.from_residual-in_err-turn-4.result _ (λ c0 b0 s0 h. c.in_err-turn-4.ensures.denied c0 b0 s0 (c.in_ok-turn-3.ensures.goes c0 b0 s0 (c.in_ok-turn-2.ensures.goes c0 b0 s0 (c.in_ok-store_log.ensures.goes c0 b0 s0 (c.in_ok-turn.ensures.goes c0 b0 s0 h))))); falls = search rules }

pub returns-in_default-place-5 : goal.returns-in_default-place-5
returns-in_default-place-5 g c = record { caller = c.in_ok-turn-4.ensures.caller; goes = λ c0 b0 s0 h. c.in_ok-turn-4.ensures.goes c0 b0 s0 (c.in_ok-turn-3.ensures.goes c0 b0 s0 (c.in_ok-turn-2.ensures.goes c0 b0 s0 (c.in_ok-store_log.ensures.goes c0 b0 s0 (c.in_ok-turn.ensures.goes c0 b0 s0 h)))); denied = tt; falls = omega (arith, c.in_ok-turn.ensures.falls, c.in_ok-store_log.ensures.falls, c.in_ok-turn-2.ensures.falls, c.in_ok-turn-3.ensures.falls, c.in_ok-turn-4.ensures.falls) }

pub returns : goal.returns
returns g c = record { caller = c.turn-5.ensures.caller; goes = ok_then c.turn-5.result _ _ c.turn-5.ensures.goes (λ q c0 b0 s0 h. q c0 b0 s0 (c.in_ok-turn-4.ensures.goes c0 b0 s0 (c.in_ok-turn-3.ensures.goes c0 b0 s0 (c.in_ok-turn-2.ensures.goes c0 b0 s0 (c.in_ok-store_log.ensures.goes c0 b0 s0 (c.in_ok-turn.ensures.goes c0 b0 s0 h)))))); denied = err_then c.turn-5.result _ _ c.turn-5.ensures.denied (λ q c0 b0 s0 h. q c0 b0 s0 (c.in_ok-turn-4.ensures.goes c0 b0 s0 (c.in_ok-turn-3.ensures.goes c0 b0 s0 (c.in_ok-turn-2.ensures.goes c0 b0 s0 (c.in_ok-store_log.ensures.goes c0 b0 s0 (c.in_ok-turn.ensures.goes c0 b0 s0 h)))))); falls = ok_then c.turn-5.result _ _ c.turn-5.ensures.falls (λ q. omega (arith, q, c.in_ok-turn.ensures.falls, c.in_ok-store_log.ensures.falls, c.in_ok-turn-2.ensures.falls, c.in_ok-turn-3.ensures.falls, c.in_ok-turn-4.ensures.falls)) }
