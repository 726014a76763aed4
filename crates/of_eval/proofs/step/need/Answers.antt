use Rattle.std.proofs.lemmas.Result.{err_from_is_err_and}
use Rattle.of_mem.specs.Calls.{HasStore}
use Rattle.of_mem.proofs.OnDemand.{lacks_first}
use Rattle.of_map.specs.MapPrograms.{get}
use Rattle.of_eval.specs.ScriptPrograms.{need_answers}
use Rattle.of_eval.proofs.Asking.{may_first, answers_on}
use Rattle.of_eval.proofs.step.need.Goals as goal

pub get-requires : goal.get-requires
get-requires g c = may_first (get c.args.plot.now c.args.key) (need_answers c.args.value) (HasStore c.args.plot.now) _ c.requires.may

pub returns-in_err-found-clause-runs : goal.returns-in_err-found-clause-runs
returns-in_err-found-clause-runs g c =
    let p = err_from_is_err_and c.from_residual.result c.from_residual.ensures.1 in
    rw (p.1, p.2) (lacks_first (get c.args.plot.now c.args.key) (need_answers c.args.value) _ (g.C.Cells.run c.get.new.cells) c.in_err-found.field-0.0 c.in_err-found.ensures.runs)

pub returns-clause-runs : goal.returns-clause-runs
returns-clause-runs g c = answers_on (get c.args.plot.now c.args.key) (need_answers c.args.value) _ (g.C.Cells.run c.get.new.cells) c.in_ok-found.found c.compare.result c.in_ok-found.ensures.runs c.compare.ensures
