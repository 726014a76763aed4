use Rattle.std.proofs.Common.{sym, ◌∙◌, arith}
use Rattle.of_plan.proofs.InputParts.{behind_one_more, parts_at, one_part}
use Rattle.of_plan.proofs.split_input.parts.Goals as goal

pub returns-in_default : goal.returns-in_default
returns-in_default c =
    one_part c.args.text.now c.loop-more.rest.now c.cut.result.0.now c.split_at.result.0.now c.split_at.result.1.now c.loop-more.invariant.behind
    (rw c.in_default.is at c.cut.ensures.parts) c.split_at.ensures.front c.split_at.ensures.back

pub returns-then-is_end : goal.returns-then-is_end
returns-then-is_end c =
    parts_at c.args.text.now c.loop-more.rest.now c.cut.result.0.now c.in-Some.more.now c.split_at-then-is_end.result.0.now c.split_at-then-is_end.result.1.now c.loop-more.invariant.behind
    (rw c.in-Some.is at c.cut.ensures.parts) (c.is_end.ensures.0 c.if-is_end.true) c.split_at-then-is_end.ensures.front c.split_at-then-is_end.ensures.back

pub loop-more-preserved : goal.loop-more-preserved
loop-more-preserved c = record {
  behind = behind_one_more c.args.text.now c.loop-more.rest.now c.cut.result.0.now c.in-Some.more.now c.loop-more.invariant.behind (rw c.in-Some.is at c.cut.ensures.parts) (λ end. absurd (let e = sym (c.is_end.ensures.1 end) ∙ c.if-is_end.false in cc));
  within = omega (arith, c.loop-more.invariant.within, rw c.in-Some.is at c.cut.ensures.shorter);
}
