use Rattle.std.proofs.Common.{refl, Ok}
use Rattle.std.proofs.lemmas.Result.{err_from_is_err_and}
use Rattle.of_mem.specs.Calls.{HasStore}
use Rattle.of_mem.proofs.OnDemand.{lacks_first}
use Rattle.of_map.specs.MapPrograms.{del}
use Rattle.of_eval.specs.ScriptPrograms.{answer_program}
use Rattle.of_eval.proofs.Asking.{may_first, answers_on}
use Rattle.of_eval.proofs.step.del.Goals as goal

pub del-requires : goal.del-requires
del-requires g c = may_first (del c.args.plot.now c.args.key) answer_program (HasStore c.args.plot.now) _ c.requires.may

pub returns-in_err-value : goal.returns-in_err-value
returns-in_err-value g c =
    let p = err_from_is_err_and c.from_residual.result c.from_residual.ensures.1 in
    rw (p.1, p.2) (lacks_first (del c.args.plot.now c.args.key) answer_program _ (g.C.Cells.run c.del.new.cells) c.in_err-value.field-0.0 c.in_err-value.ensures.runs)

pub returns : goal.returns
returns g c = answers_on (del c.args.plot.now c.args.key) answer_program _ (g.C.Cells.run c.del.new.cells) c.in_ok-value.value (Ok c.in_ok-value.value) c.in_ok-value.ensures.runs refl
