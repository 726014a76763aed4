use Rattle.std.proofs.Common.{refl}
use Rattle.std.proofs.lemmas.Result.{err_from_is_err_and}
use Rattle.of_tool.specs.Inputs.{PlanAndReport}
use Rattle.of_tool.proofs.Refused.{refuse, no_first}
use Rattle.of_tool.proofs.commands.check_text.Goals as goal

pub returns-in_err-plan : goal.returns-in_err-plan
returns-in_err-plan c = λ source input.
    let p = err_from_is_err_and c.from_residual.result c.from_residual.ensures.1 in
    rw (p.1, p.2) (refuse _ source PlanAndReport refl (no_first source c.args.input.now (input _ refl) c.parts.result.0.now c.parts.result.1.now c.parts.ensures) c.in_err-plan.field-0.0 c.in_err-plan.ensures)

pub returns-in-Legal : goal.returns-in-Legal
returns-in-Legal c = λ source input. record {
  legal = record {
    plan = c.in_ok-plan.plan;
    report = c.parts.result.1.now;
    read = record { bytes = c.args.input.now; first = c.parts.result.0.now; read = input _ refl; parts = c.parts.ensures; spelled = c.in_ok-plan.ensures };
    legal = rw c.in-Legal.is at c.in_ok-judge.ensures;
  };
  text_is = c.in_ok-from_slice-in-Legal.ensures.items;
}

pub returns : goal.returns
returns c = λ source input. record {
  input = PlanAndReport;
  reads = refl;
  cause = record {
    plan = c.in_ok-plan.plan;
    report = c.parts.result.1.now;
    read = record { bytes = c.args.input.now; first = c.parts.result.0.now; read = input _ refl; parts = c.parts.ensures; spelled = c.in_ok-plan.ensures };
    illegal = (rw c.in-Illegal.is at c.in_ok-judge.ensures).1;
  };
}
