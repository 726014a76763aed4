use Rattle.std.proofs.Common.{List, ℕ, ◌∷◌, [], sym, ap, ◌∙◌, arith}
use Rattle.of_plan.specs.Lines.{text_lines}
use Rattle.of_plan.proofs.BadLine.{cut_first}
use Rattle.of_plan.proofs.LinesAt.{after_next}
use Rattle.of_check.proofs.Verdicts.{differs, same_bytes}
use Rattle.of_check.proofs.Differences.{differ_here, one_ends, other_ends, same_more, unequal}
use Rattle.of_check.proofs.judging.first_difference.Goals as goal

pub returns-then-ne : goal.returns-then-ne
returns-then-ne c =
    let left = cut_first c.cut.result.1 (text_lines c.loop-more.left.now) c.cut.result.0.now c.cut.ensures.parts in
    let right = cut_first c.cut-in-loop-more.result.1 (text_lines c.loop-more.right.now) c.cut-in-loop-more.result.0.now c.cut-in-loop-more.ensures.parts in
    differ_here c.args.one.now c.args.other.now c.loop-more.above c.cut.result.0.now c.cut-in-loop-more.result.0.now left.0 right.0 c.loop-more.invariant.same (c.loop-more.invariant.first ∙ left.1) (c.loop-more.invariant.second ∙ right.1)
    (differs c.cut.result.0.now c.cut-in-loop-more.result.0.now c.ne.result c.ne.ensures c.if-ne.true)

pub returns-in_default : goal.returns-in_default
returns-in_default c =
    let left = rw c.in_default.is at c.cut.ensures.parts in
    let right = cut_first c.cut-in-loop-more.result.1 (text_lines c.loop-more.right.now) c.cut-in-loop-more.result.0.now c.cut-in-loop-more.ensures.parts in
    let same = same_bytes c.cut.result.0.now c.cut-in-loop-more.result.0.now c.ne.result c.ne.ensures c.if-ne.false in
    one_ends c.args.one.now c.args.other.now c.loop-more.above c.cut.result.0.now right.0 c.loop-more.invariant.same (c.loop-more.invariant.first ∙ left) (c.loop-more.invariant.second ∙ right.1 ∙ ap (λ (l : List ℕ). l ∷ right.0) (sym same))
    (unequal c.args.one.now c.args.other.now c.eq.result c.eq.ensures c.if-eq.false)

pub returns-in_default-others : goal.returns-in_default-others
returns-in_default-others c =
    let left = rw c.in-Some.is at c.cut.ensures.parts in
    let right = rw c.in_default-others.is at c.cut-in-loop-more.ensures.parts in
    let same = same_bytes c.cut.result.0.now c.cut-in-loop-more.result.0.now c.ne.result c.ne.ensures c.if-ne.false in
    other_ends c.args.one.now c.args.other.now c.loop-more.above c.cut.result.0.now (text_lines c.in-Some.more.now) c.loop-more.invariant.same (c.loop-more.invariant.first ∙ left) (c.loop-more.invariant.second ∙ right ∙ ap (λ (l : List ℕ). l ∷ []) (sym same))
    (unequal c.args.one.now c.args.other.now c.eq.result c.eq.ensures c.if-eq.false)

pub loop-more-preserved : goal.loop-more-preserved
loop-more-preserved c =
    let left = rw c.in-Some.is at c.cut.ensures.parts in
    let right = rw c.in-Some-others.is at c.cut-in-loop-more.ensures.parts in
    let same = same_bytes c.cut.result.0.now c.cut-in-loop-more.result.0.now c.ne.result c.ne.ensures c.if-ne.false in
    record {
      same = same_more (text_lines c.args.one.now) (text_lines c.args.other.now) c.loop-more.above c.cut.result.0.now (text_lines c.in-Some.more.now) (text_lines c.in-Some-others.others.now) c.loop-more.invariant.same (c.loop-more.invariant.first ∙ left) (c.loop-more.invariant.second ∙ right ∙ ap (λ (l : List ℕ). l ∷ text_lines c.in-Some-others.others.now) (sym same));
      first = after_next (text_lines c.args.one.now) c.loop-more.above c.cut.result.0.now (text_lines c.in-Some.more.now) (c.loop-more.invariant.first ∙ left);
      second = after_next (text_lines c.args.other.now) c.loop-more.above c.cut-in-loop-more.result.0.now (text_lines c.in-Some-others.others.now) (c.loop-more.invariant.second ∙ right);
      count = omega (arith, c.loop-more.invariant.count, rw c.in-Some.is at c.cut.ensures.shorter);
    }
