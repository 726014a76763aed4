use Rattle.std.proofs.Common.{refl, sym, Ok, Some}
use Rattle.std.proofs.lemmas.Result.{err_from_is_err_and}
use Rattle.of_mem.specs.Calls.{HasStore}
use Rattle.of_mem.specs.Programs.{then_do}
use Rattle.of_mem.proofs.OnDemand.{lacks_first}
use Rattle.of_order.specs.OrderPrograms.{drop_below}
use Rattle.of_eval.specs.ScriptPrograms.{answers_number}
use Rattle.of_eval.proofs.Asking.{may_first, answers_on, may_ordered, ordered_on}
use Rattle.of_eval.proofs.step.drop_below.Goals as goal

pub drop_below-requires : goal.drop_below-requires
drop_below-requires g c =
    may_first (drop_below c.args.plot.now c.args.key) answers_number (HasStore c.args.plot.now) _
    (may_ordered c.args.plot.now.blocks (sym c.if-is_large.ensures) (then_do (drop_below c.args.plot.now c.args.key) answers_number) (HasStore c.args.plot.now) _ c.requires.may)

pub returns-in_err-dropped : goal.returns-in_err-dropped
returns-in_err-dropped g c =
    let p = err_from_is_err_and c.from_residual.result c.from_residual.ensures.1 in
    rw (p.1, p.2) (ordered_on c.args.plot.now.blocks (sym c.if-is_large.ensures) (then_do (drop_below c.args.plot.now c.args.key) answers_number) _ _ _
    (lacks_first (drop_below c.args.plot.now c.args.key) answers_number _ (g.C.Cells.run c.drop_below.new.cells) c.in_err-dropped.field-0.0 c.in_err-dropped.ensures.runs))

pub returns : goal.returns
returns g c =
    ordered_on c.args.plot.now.blocks (sym c.if-is_large.ensures) (then_do (drop_below c.args.plot.now c.args.key) answers_number) _ _ _
    (answers_on (drop_below c.args.plot.now c.args.key) answers_number _ (g.C.Cells.run c.drop_below.new.cells) c.in_ok-dropped.dropped (Ok (Some c.in_ok-dropped.dropped)) c.in_ok-dropped.ensures.runs refl)
