use Rattle.std.proofs.Common.{arith, rules}
use Rattle.of_caller.proofs.Phases.{on_err, ok_then, err_then}
use Rattle.of_caller.proofs.caller.Caller.go_far.Goals as goal

pub returns-in_err-announce : goal.returns-in_err-announce
returns-in_err-announce g c = record { caller = c.in_err-announce.ensures.caller; goes = search rules; denied = on_err c.from_residual-in_err-announce.result _ (λ c0 b0 s0 h. c.in_err-announce.ensures.denied c0 b0 s0 (c.in_ok-turn.ensures.goes c0 b0 s0 h)); falls = search rules }

pub returns-in_err-enter : goal.returns-in_err-enter
returns-in_err-enter g c = record { caller = c.in_err-enter.ensures.caller; goes = search rules; denied = on_err c.from_residual-in_err-enter.result _ (λ c0 b0 s0 h. c.in_err-enter.ensures.denied c0 b0 s0 (c.in_ok-announce.ensures.goes c0 b0 s0 (c.in_ok-turn.ensures.goes c0 b0 s0 h))); falls = search rules }

pub returns-in_err-scan : goal.returns-in_err-scan
returns-in_err-scan g c = record { caller = c.in_err-scan.ensures.caller; goes = search rules; denied = on_err c.from_residual-in_err-scan.result _ (λ c0 b0 s0 h. c.in_err-scan.ensures.denied c0 b0 s0 (c.in_ok-enter.ensures.goes c0 b0 s0 (c.in_ok-announce.ensures.goes c0 b0 s0 (c.in_ok-turn.ensures.goes c0 b0 s0 h)))); falls = search rules }

pub returns-in_err-commit : goal.returns-in_err-commit
returns-in_err-commit g c = record { caller = c.in_err-commit.ensures.caller; goes = search rules; denied = on_err c.from_residual-in_err-commit.result _ (λ c0 b0 s0 h. c.in_err-commit.ensures.denied c0 b0 s0 (c.in_ok-scan.ensures.goes c0 b0 s0 (c.in_ok-enter.ensures.goes c0 b0 s0 (c.in_ok-announce.ensures.goes c0 b0 s0 (c.in_ok-turn.ensures.goes c0 b0 s0 h))))); falls = search rules }

pub returns : goal.returns
returns g c = record { caller = c.apply.ensures.caller; goes = ok_then c.apply.result _ _ c.apply.ensures.goes (λ q c0 b0 s0 h. q c0 b0 s0 (c.in_ok-commit.ensures.goes c0 b0 s0 (c.in_ok-scan.ensures.goes c0 b0 s0 (c.in_ok-enter.ensures.goes c0 b0 s0 (c.in_ok-announce.ensures.goes c0 b0 s0 (c.in_ok-turn.ensures.goes c0 b0 s0 h)))))); denied = err_then c.apply.result _ _ c.apply.ensures.denied (λ q c0 b0 s0 h. q c0 b0 s0 (c.in_ok-commit.ensures.goes c0 b0 s0 (c.in_ok-scan.ensures.goes c0 b0 s0 (c.in_ok-enter.ensures.goes c0 b0 s0 (c.in_ok-announce.ensures.goes c0 b0 s0 (c.in_ok-turn.ensures.goes c0 b0 s0 h)))))); falls = ok_then c.apply.result _ _ c.apply.ensures.falls (λ q. omega (arith, q, c.in_ok-turn.ensures.falls, c.in_ok-announce.ensures.falls, c.in_ok-enter.ensures.falls, c.in_ok-scan.ensures.falls, c.in_ok-commit.ensures.falls)) }
