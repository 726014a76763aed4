use Rattle.std.proofs.Common.{length, ap, arith}
use Rattle.std.proofs.lemmas.Result.{err_from_is_err_and}
use Rattle.of_image.specs.declared.version.Version.TheVariants.{Two}
use Rattle.of_image.specs.Grammar.{plan_grammar}
use Rattle.of_image.proofs.ImageFacts.{no_image}
use Rattle.of_image.proofs.ImageProgress.{row_short}
use Rattle.of_image.proofs.again.image_again.Goals as goal

pub print_row-requires : goal.print_row-requires
print_row-requires c = omega (arith, row_short (plan_grammar Two) _ c.in_ok-reading.ensures.ok.row, ap length c.deref.ensures.value)

pub returns-in_err-reading-clause-err : goal.returns-in_err-reading-clause-err
returns-in_err-reading-clause-err c =
    let q = err_from_is_err_and c.from_residual.result c.from_residual.ensures.1 in
    rw (q.1, q.2) (no_image (plan_grammar Two) c.args.text.now c.in_err-reading.field-0.0 c.in_err-reading.ensures.err)
