use Rattle.std.proofs.lemmas.Result.{err_from_is_err_and}
use Rattle.of_tool.specs.Inputs.{PlanAlone}
use Rattle.of_tool.proofs.Refused.{refuse, no_plan}
use Rattle.of_tool.proofs.commands.plan_text.Goals as goal

pub returns-in_err-plan : goal.returns-in_err-plan
returns-in_err-plan c = λ source input.
    let p = err_from_is_err_and c.from_residual.result c.from_residual.ensures.1 in
    rw (p.1, p.2) (refuse c.args.command source PlanAlone c.requires.plan (no_plan source c.args.input.now (input PlanAlone c.requires.plan)) c.in_err-plan.field-0.0 c.in_err-plan.ensures)

pub returns : goal.returns
returns c = λ source input. c.in_ok-of_plan.ensures source (c.args.input.now, input PlanAlone c.requires.plan, c.in_ok-plan.ensures)
