use Rattle.std.proofs.Common.{refl}
use Rattle.std.proofs.lemmas.Result.{err_from_is_err_and}
use Rattle.of_tool.specs.Inputs.{ImageAndPlan}
use Rattle.of_tool.proofs.Refused.{refuse, no_life}
use Rattle.of_tool.proofs.continue_life.continue_text.Goals as goal

pub run_life-requires-clause-fits : goal.run_life-requires-clause-fits
run_life-requires-clause-fits g c = λ κs within. c.in_ok-image.ensures.read.fits

pub returns-in_err-image : goal.returns-in_err-image
returns-in_err-image g c = λ source input.
    let p = err_from_is_err_and c.from_residual.result c.from_residual.ensures.1 in
    rw (p.1, p.2) (refuse _ source ImageAndPlan refl (no_life source c.args.input.now (input _ refl) c.parts.result.0.now c.parts.result.1.now c.parts.ensures) c.in_err-image.field-0.0 c.in_err-image.ensures.read)

pub returns : goal.returns
returns g c = λ source input.
    let are = c.in_ok-image.ensures.read.are in
    record {
      image = c.in_ok-image.image;
      plan = c.in_ok-image.plan;
      read = record { bytes = c.args.input.now; first = c.parts.result.0.now; second = c.parts.result.1.now; read = input _ refl; parts = c.parts.ensures; is = are.reads; spelled = are.spelled };
      writes = c.in_ok-text.ensures;
    }
