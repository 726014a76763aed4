use Rattle.std.proofs.Common.{refl, sym, Ok}
use Rattle.std.proofs.lemmas.Result.{err_from_is_err_and}
use Rattle.of_mem.specs.Calls.{HasStore}
use Rattle.of_mem.specs.Programs.{then_do}
use Rattle.of_mem.proofs.OnDemand.{lacks_first}
use Rattle.of_order.specs.OrderPrograms.{first_program}
use Rattle.of_eval.specs.ScriptPrograms.{answer_program}
use Rattle.of_eval.proofs.Asking.{may_first, answers_on, may_ordered, ordered_on}
use Rattle.of_eval.proofs.step.first.Goals as goal

pub first-requires : goal.first-requires
first-requires g c =
    may_first (first_program c.args.plot.now) answer_program (HasStore c.args.plot.now) _
    (may_ordered c.args.plot.now.blocks (sym c.if-is_large.ensures) (then_do (first_program c.args.plot.now) answer_program) (HasStore c.args.plot.now) _ c.requires.may)

pub returns-in_err-key-clause-runs : goal.returns-in_err-key-clause-runs
returns-in_err-key-clause-runs g c =
    let p = err_from_is_err_and c.from_residual.result c.from_residual.ensures.1 in
    rw (p.1, p.2) (ordered_on c.args.plot.now.blocks (sym c.if-is_large.ensures) (then_do (first_program c.args.plot.now) answer_program) _ _ _
    (lacks_first (first_program c.args.plot.now) answer_program _ (g.C.Cells.run c.first.new.cells) c.in_err-key.field-0.0 c.in_err-key.ensures.runs))

pub returns-clause-runs : goal.returns-clause-runs
returns-clause-runs g c =
    ordered_on c.args.plot.now.blocks (sym c.if-is_large.ensures) (then_do (first_program c.args.plot.now) answer_program) _ _ _
    (answers_on (first_program c.args.plot.now) answer_program _ (g.C.Cells.run c.first.new.cells) c.in_ok-key.key (Ok c.in_ok-key.key) c.in_ok-key.ensures.runs refl)
