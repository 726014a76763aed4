use Rattle.std.proofs.Common.{List, ℕ, refl, subst, arith}
use Rattle.of_check.specs.Causes.{DifferFirst, Same, Differs}
use Rattle.of_check.proofs.Differences.{same_above}
use Rattle.of_check.proofs.judging.first_of.Goals as goal

pub returns-then-line-above : goal.returns-then-line-above
returns-then-line-above c =
    Differs c.in-Some.line (omega (arith, c.if-line-above.true)) (subst (λ (t : List ℕ). DifferFirst c.args.text.now t c.in-Some.line) c.as_slice.ensures.value c.in-Some.ensures) refl

pub returns-in-Some : goal.returns-in-Some
returns-in-Some c =
    let first = subst (λ (t : List ℕ). DifferFirst c.args.text.now t c.in-Some.line) c.as_slice.ensures.value c.in-Some.ensures in
    Same (same_above c.args.text.now c.args.wanted.items c.args.above c.in-Some.line (omega (arith, c.if-line-above.false)) first.same) refl
