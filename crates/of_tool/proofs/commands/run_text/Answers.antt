use Rattle.std.proofs.Common.{refl}
use Rattle.std.proofs.lemmas.Result.{err_from_is_err_and}
use Rattle.of_report.specs.Report.{report_value}
use Rattle.of_tool.specs.Inputs.{PlanAlone}
use Rattle.of_tool.proofs.Refused.{refuse, no_plan}
use Rattle.of_tool.proofs.commands.run_text.Goals as goal

pub returns-in_err-plan : goal.returns-in_err-plan
returns-in_err-plan g c = λ source input.
    let p = err_from_is_err_and c.from_residual.result c.from_residual.ensures.1 in
    rw (p.1, p.2) (refuse _ source PlanAlone refl (no_plan source c.args.input.now (input _ refl)) c.in_err-plan.field-0.0 c.in_err-plan.ensures)

pub returns : goal.returns
returns g c = λ source input. record {
  plan = c.in_ok-plan.plan;
  read = (c.args.input.now, input _ refl, c.in_ok-plan.ensures);
  report = report_value c.in_ok-report.report;
  run = c.in_ok-report.ensures;
  text_is = c.in_ok-text.ensures;
}
