use Rattle.std.proofs.Common.{ap, Some, None, Ok, Err}
use Rattle.std.proofs.lemmas.Result.{err_from_is_err_and}
use Rattle.of_mem.specs.Calls.{HasStore}
use Rattle.of_mem.proofs.OnDemand.{lacks_first}
use Rattle.of_map.specs.MapPrograms.{put_in_map}
use Rattle.of_script.specs.declared.instr.Cause.TheVariants.{NoRoom}
use Rattle.of_eval.specs.ScriptPrograms.{put_answers}
use Rattle.of_eval.proofs.Asking.{may_first, answers_on}
use Rattle.of_eval.proofs.step.put.Goals as goal

pub put-requires-clause-may : goal.put-requires-clause-may
put-requires-clause-may g c = may_first (put_in_map c.args.plot.now c.args.key c.args.value) put_answers (HasStore c.args.plot.now) _ c.requires.may

pub returns-in_err-put : goal.returns-in_err-put
returns-in_err-put g c =
    let p = err_from_is_err_and c.from_residual.result c.from_residual.ensures.1 in
    rw (p.1, p.2) (lacks_first (put_in_map c.args.plot.now c.args.key c.args.value) put_answers _ (g.C.Cells.run c.put.new.cells) c.in_err-put.field-0.0 c.in_err-put.ensures.runs)

pub returns-in-Full : goal.returns-in-Full
returns-in-Full g c = answers_on (put_in_map c.args.plot.now c.args.key c.args.value) put_answers _ (g.C.Cells.run c.put.new.cells) _ (Err NoRoom) c.in_ok-put.ensures.runs (ap put_answers c.in-Full.is)

pub returns-in-New : goal.returns-in-New
returns-in-New g c = answers_on (put_in_map c.args.plot.now c.args.key c.args.value) put_answers _ (g.C.Cells.run c.put.new.cells) _ (Ok None) c.in_ok-put.ensures.runs (ap put_answers c.in-New.is)

pub returns-in-Over : goal.returns-in-Over
returns-in-Over g c = answers_on (put_in_map c.args.plot.now c.args.key c.args.value) put_answers _ (g.C.Cells.run c.put.new.cells) _ (Ok (Some c.in-Over.before)) c.in_ok-put.ensures.runs (ap put_answers c.in-Over.is)
