use Rattle.std.proofs.Common.{refl}
use Rattle.of_image.specs.declared.version.Version.TheVariants.{One}
use Rattle.of_tool.specs.Inputs.{ImageAlone}
use Rattle.of_tool.proofs.Refused.{refuse, no_image}
use Rattle.of_tool.proofs.images.migrated_text.Goals as goal

pub returns-in-Ok : goal.returns-in-Ok
returns-in-Ok c = λ source input. record { bytes = c.args.input.now; read = input _ refl; is = c.in-Ok.ensures.ok }

pub returns-in-Err : goal.returns-in-Err
returns-in-Err c = λ source input. refuse _ source (ImageAlone One) refl (no_image source c.args.input.now One (input _ refl)) c.image_failure.result c.image_failure.ensures
