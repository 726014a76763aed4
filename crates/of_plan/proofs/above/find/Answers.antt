use Rattle.std.proofs.Common.{sym, ◌∙◌, arith}
use Rattle.of_plan.specs.Lines.{text_lines}
use Rattle.of_plan.proofs.LinesAt.{after_next, nothing_says, none_more}
use Rattle.of_plan.proofs.above.find.Goals as goal

pub returns-in-None : goal.returns-in-None
returns-in-None c = λ k lt.
    let left = c.loop-at.invariant.left ∙ rw c.in-None.is at c.cut.ensures.parts in
    nothing_says c.args.wanted (text_lines c.args.text.now) c.loop-at.at k c.cut.result.0.now left c.loop-at.invariant.none (sym c.said.ensures ∙ c.in_default.is)

pub loop-at-preserved : goal.loop-at-preserved
loop-at-preserved c =
    let left = c.loop-at.invariant.left ∙ rw c.in-Some-after.is at c.cut.ensures.parts in
    record {
      left = after_next (text_lines c.args.text.now) c.loop-at.at c.cut.result.0.now (text_lines c.in-Some-after.more.now) left;
      count = omega (arith, c.loop-at.invariant.count, rw c.in-Some-after.is at c.cut.ensures.shorter);
      none = none_more c.args.wanted (text_lines c.args.text.now) c.loop-at.at c.cut.result.0.now (text_lines c.in-Some-after.more.now) left c.loop-at.invariant.none (sym c.said.ensures ∙ c.in_default.is);
    }
