use Rattle.std.proofs.Common.{◌∙◌, refl, sym, None, arith}
use mathlib.Core.Bool.{true≢false}
use Rattle.std.proofs.lemmas.List.{get_or_default}
use Rattle.of_cells.proofs.Seats.{here_more, one_there, none_there}
use Rattle.of_cells.proofs.seating.all_here.Goals as goal

pub loop-i-preserved : goal.loop-i-preserved
loop-i-preserved g c =
    let cs = c.args.callers.now in
    let i = c.loop-i.i in
    let one = one_there c.index-callers-i.result c.is_none.result c.is_none.ensures c.if-is_none.false in
    here_more cs i c.loop-i.invariant (one.0, get_or_default cs i None c.index-callers-i.result c.loop-i-test.true ∙ sym c.index-callers-i.is ∙ one.1)

pub returns-then-is_none : goal.returns-then-is_none
returns-then-is_none g c =
    let cs = c.args.callers.now in
    let i = c.loop-i.i in
    let there = get_or_default cs i None c.index-callers-i.result c.loop-i-test.true ∙ sym c.index-callers-i.is in (
      (λ t. absurd (true≢false (sym t))),
      (λ all.
          let one = all i c.loop-i-test.true in
          absurd (none_there c.index-callers-i.result c.is_none.result c.is_none.ensures c.if-is_none.true (one.0, sym there ∙ one.1))),
    )

pub returns : goal.returns
returns g c = ((λ t n lt. c.loop-i.invariant n (omega (arith, lt, c.loop-i-test.false))), (λ all. refl))
