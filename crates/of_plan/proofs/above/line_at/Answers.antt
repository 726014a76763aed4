use Rattle.std.proofs.Common.{not, sym, ap, ◌∙◌, arith}
use Rattle.of_plan.specs.Lines.{text_lines}
use Rattle.of_plan.proofs.LinesAt.{after_next, past_last, count_at_last, last_left}
use Rattle.of_plan.proofs.above.line_at.Goals as goal

pub returns-then-at-above-clause-last : goal.returns-then-at-above-clause-last
returns-then-at-above-clause-last c = λ last.
    let left = last_left c.cut.result.1 (text_lines c.loop-at.rest.now) c.cut.result.0.now c.cut.ensures.parts (c.is_none.ensures ∙ ap not last) in
    rw (sym c.if-at-above.true) (count_at_last (text_lines c.args.text.now) c.loop-at.at c.cut.result.0.now (c.loop-at.invariant.left ∙ left))

pub returns-in-None-clause-line : goal.returns-in-None-clause-line
returns-in-None-clause-line c =
    c.as_slice.ensures
    ∙ sym (past_last (text_lines c.args.text.now) c.loop-at.at c.args.above c.cut.result.0.now (c.loop-at.invariant.left ∙ rw c.in-None.is at c.cut.ensures.parts) (omega (arith, c.loop-at.invariant.below, c.if-at-above.false)))

pub loop-at-preserved : goal.loop-at-preserved
loop-at-preserved c =
    let parts = rw c.in-Some.is at c.cut.ensures.parts in
    record {
      left = after_next (text_lines c.args.text.now) c.loop-at.at c.cut.result.0.now (text_lines c.in-Some.more.now) (c.loop-at.invariant.left ∙ parts);
      count = omega (arith, c.loop-at.invariant.count, rw c.in-Some.is at c.cut.ensures.shorter);
      below = omega (arith, c.loop-at.invariant.below, c.if-at-above.false);
    }
