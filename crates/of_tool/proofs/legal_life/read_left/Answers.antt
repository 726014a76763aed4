use Rattle.std.proofs.Common.{sym, subst, ◌∙◌}
use Rattle.of_image.specs.declared.version.Version.TheVariants.{Two}
use Rattle.of_image.specs.ImageText.{IsImageText}
use Rattle.of_image.specs.Parsed.{ImageIsRefused}
use Rattle.of_plan.specs.BadLine.{HasBadLine}
use Rattle.of_check.proofs.Verdicts.{differs, same_bytes}
use Rattle.of_tool.proofs.Lives.{otherwise}
use Rattle.of_tool.proofs.legal_life.read_left.Goals as goal

pub returns-then-ne-clause-read : goal.returns-then-ne-clause-read
returns-then-ne-clause-read c =
    let again = c.in-Ok-image_again.again in
    (c.in-Ok.image, c.in-Ok.ensures.ok, otherwise c.args.text.now again.items c.in-Ok-image_again.ensures.ok (λ same. differs c.as_slice.result.now c.args.text.now c.ne.result c.ne.ensures c.if-ne.true (c.as_slice.ensures.value ∙ same)))

pub returns-clause-read : goal.returns-clause-read
returns-clause-read c =
    let prints = c.in-Ok-image_again.ensures.ok in
    let same = same_bytes c.as_slice.result.now c.args.text.now c.ne.result c.ne.ensures c.if-ne.false in
    record {
      printed = record { row = prints.row; spelled = prints.spelled; is = sym same ∙ c.as_slice.ensures.value ∙ prints.is };
      reads = c.in-Ok.ensures.ok;
    }

pub returns-in-Err-Bad-clause-read : goal.returns-in-Err-Bad-clause-read
returns-in-Err-Bad-clause-read c =
    let refused = subst (ImageIsRefused Two c.args.text.now) c.in-Err-Bad.field-0-is c.in-Err-Bad.ensures.err in
    subst (HasBadLine (IsImageText Two) c.args.text.now) (sym c.in-Err-Bad.line-is) refused
