use Rattle.std.proofs.lemmas.Result.{err_from_is_err_and}
use Rattle.of_tool.proofs.Refused.{life_no_plan, life_no_image}
use Rattle.of_tool.proofs.input.life_in.Goals as goal

pub returns-in_err-plan-clause-read : goal.returns-in_err-plan-clause-read
returns-in_err-plan-clause-read c =
    let p = err_from_is_err_and c.from_residual.result c.from_residual.ensures.1 in
    rw (p.1, p.2) (life_no_plan c.args.first.now c.args.second.now c.in_err-plan.field-0.0 c.in_err-plan.ensures)

pub returns-in_err-image-clause-read : goal.returns-in_err-image-clause-read
returns-in_err-image-clause-read c =
    let p = err_from_is_err_and c.from_residual-in_err-image.result c.from_residual-in_err-image.ensures.1 in
    rw (p.1, p.2) (life_no_image c.args.first.now c.args.second.now c.in_ok-plan.plan c.in_ok-plan.ensures c.in_err-image.field-0.0 c.in_err-image.ensures.read)

pub returns-then-not-fits-clause-read : goal.returns-then-not-fits-clause-read
returns-then-not-fits-clause-read c = (
  c.in_ok-image.image,
  c.in_ok-plan.plan,
  record { reads = c.in_ok-image.ensures.read; spelled = c.in_ok-plan.ensures },
  λ fits. (let yes = c.fits.ensures.1 fits in let no = c.if-not-fits.true in absurd cc),
)

pub returns-clause-read : goal.returns-clause-read
returns-clause-read c = record {
  are = record { reads = c.in_ok-image.ensures.read; spelled = c.in_ok-plan.ensures };
  fits = c.fits.ensures.0 (let no = c.if-not-fits.false in cc);
}
