use Rattle.std.proofs.Common.{List, ℕ, ◌∷◌, [], sym, ap, ◌∙◌, arith}
use Rattle.of_plan.proofs.LinesAt.{after_next, count_at_last}
use Rattle.of_check.specs.LineRules.{line_pieces}
use Rattle.of_check.proofs.Pieces.{first_piece, shared_so_far, share_more, shares_to}
use Rattle.of_check.proofs.Verdicts.{same_bytes, differs}
use Rattle.of_check.proofs.Differences.{same_more}
use Rattle.of_check.proofs.line_rule.same_pieces.Goals as goal

pub returns-then-ne : goal.returns-then-ne
returns-then-ne c =
    let left = first_piece c.cut.result.1 (line_pieces c.loop-more.left.now) c.cut.result.0.now c.cut.ensures.parts in
    let right = first_piece c.cut-in-loop-more.result.1 (line_pieces c.loop-more.right.now) c.cut-in-loop-more.result.0.now c.cut-in-loop-more.ensures.parts in
    let here = c.loop-more.invariant.first ∙ left.1 in
    let there = c.loop-more.invariant.second ∙ right.1 in
    record {
      same = shared_so_far c.args.one.now c.args.other.now c.loop-more.count _ _ left.0 right.0 c.loop-more.invariant.same here there;
      most = shares_to c.args.one.now c.args.other.now c.loop-more.count _ _ left.0 right.0 here there (differs c.cut.result.0.now c.cut-in-loop-more.result.0.now c.ne.result c.ne.ensures c.if-ne.true);
    }

pub returns-in_default : goal.returns-in_default
returns-in_default c =
    let right = first_piece c.cut-in-loop-more.result.1 (line_pieces c.loop-more.right.now) c.cut-in-loop-more.result.0.now c.cut-in-loop-more.ensures.parts in
    let is = same_bytes c.cut.result.0.now c.cut-in-loop-more.result.0.now c.ne.result c.ne.ensures c.if-ne.false in
    let here = c.loop-more.invariant.first ∙ rw c.in_default.is at c.cut.ensures.parts in
    record {
      same = share_more c.args.one.now c.args.other.now c.loop-more.count c.cut.result.0.now [] right.0 c.loop-more.invariant.same here (c.loop-more.invariant.second ∙ right.1 ∙ ap (λ (l : List ℕ). l ∷ right.0) (sym is));
      most = λ count shares. omega (arith, shares.first, count_at_last (line_pieces c.args.one.now) c.loop-more.count c.cut.result.0.now here);
    }

pub returns-in_default-others : goal.returns-in_default-others
returns-in_default-others c =
    let left = first_piece c.cut.result.1 (line_pieces c.loop-more.left.now) c.cut.result.0.now c.cut.ensures.parts in
    let is = same_bytes c.cut.result.0.now c.cut-in-loop-more.result.0.now c.ne.result c.ne.ensures c.if-ne.false in
    let there = c.loop-more.invariant.second ∙ rw c.in_default-others.is at c.cut-in-loop-more.ensures.parts in
    record {
      same = share_more c.args.one.now c.args.other.now c.loop-more.count c.cut.result.0.now left.0 [] c.loop-more.invariant.same (c.loop-more.invariant.first ∙ left.1) (there ∙ ap (λ (l : List ℕ). l ∷ []) (sym is));
      most = λ count shares. omega (arith, shares.second, count_at_last (line_pieces c.args.other.now) c.loop-more.count c.cut-in-loop-more.result.0.now there);
    }

pub loop-more-preserved : goal.loop-more-preserved
loop-more-preserved c =
    let left = rw c.in-Some.is at c.cut.ensures.parts in
    let right = rw c.in-Some-others.is at c.cut-in-loop-more.ensures.parts in
    let is = same_bytes c.cut.result.0.now c.cut-in-loop-more.result.0.now c.ne.result c.ne.ensures c.if-ne.false in
    record {
      same = same_more (line_pieces c.args.one.now) (line_pieces c.args.other.now) c.loop-more.count c.cut.result.0.now (line_pieces c.in-Some.more.now) (line_pieces c.in-Some-others.others.now) c.loop-more.invariant.same (c.loop-more.invariant.first ∙ left) (c.loop-more.invariant.second ∙ right ∙ ap (λ (l : List ℕ). l ∷ line_pieces c.in-Some-others.others.now) (sym is));
      first = after_next (line_pieces c.args.one.now) c.loop-more.count c.cut.result.0.now (line_pieces c.in-Some.more.now) (c.loop-more.invariant.first ∙ left);
      second = after_next (line_pieces c.args.other.now) c.loop-more.count c.cut-in-loop-more.result.0.now (line_pieces c.in-Some-others.others.now) (c.loop-more.invariant.second ∙ right);
      count = omega (arith, c.loop-more.invariant.count, rw c.in-Some.is at c.cut.ensures.shorter);
    }
