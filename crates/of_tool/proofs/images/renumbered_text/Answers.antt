use Rattle.std.proofs.Common.{refl}
use Rattle.std.proofs.lemmas.Result.{err_from_is_err_and}
use Rattle.of_image.specs.declared.version.Version.TheVariants.{Two}
use Rattle.of_tool.specs.Inputs.{ImageAlone}
use Rattle.of_tool.proofs.Refused.{refuse, no_image}
use Rattle.of_tool.proofs.images.renumbered_text.Goals as goal

pub returns-in_err-image_in : goal.returns-in_err-image_in
returns-in_err-image_in c = λ source input.
    let p = err_from_is_err_and c.from_residual.result c.from_residual.ensures.1 in
    rw (p.1, p.2) (refuse _ source (ImageAlone Two) refl (no_image source c.args.input.now Two (input _ refl)) c.in_err-image_in.field-0.0 c.in_err-image_in.ensures.read)

pub returns : goal.returns
returns c = λ source input. record { image = c.in_ok-image_in.field-0; read = record { bytes = c.args.input.now; read = input _ refl; is = c.in_ok-image_in.ensures.read }; renumbers = c.in_ok-renumbered_print.ensures }
