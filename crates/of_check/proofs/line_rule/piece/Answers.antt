use Rattle.std.proofs.Common.{arith, ◌∙◌}
use Rattle.of_plan.proofs.LinesAt.{after_next, count_at_last}
use Rattle.of_check.specs.LineRules.{line_pieces}
use Rattle.of_check.proofs.line_rule.piece.Goals as goal

pub returns-in-None : goal.returns-in-None
returns-in-None c =
    let last = count_at_last (line_pieces c.args.line.now) c.loop-at.at c.cut.result.0.now (c.loop-at.invariant.left ∙ rw c.in-None.is at c.cut.ensures.parts) in
    omega (arith, last, c.loop-at.invariant.below, c.if-at-before.false)

pub loop-at-preserved : goal.loop-at-preserved
loop-at-preserved c =
    let parts = rw c.in-Some.is at c.cut.ensures.parts in
    record {
      left = after_next (line_pieces c.args.line.now) c.loop-at.at c.cut.result.0.now (line_pieces c.in-Some.more.now) (c.loop-at.invariant.left ∙ parts);
      count = omega (arith, c.loop-at.invariant.count, rw c.in-Some.is at c.cut.ensures.shorter);
      below = omega (arith, c.loop-at.invariant.below, c.if-at-before.false);
    }
