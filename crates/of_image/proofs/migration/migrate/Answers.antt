use Rattle.std.proofs.Common.{Ok, Err}
use Rattle.std.proofs.lemmas.Result.{err_from_is_err_and}
use Rattle.of_image.specs.Parsed.{refusal_err}
use Rattle.of_image.specs.declared.version.Version.TheVariants.{One}
use Rattle.of_image.specs.Grammar.{plan_grammar}
use Rattle.of_image.proofs.ImageFacts.{read_is_image, image_refused}
use Rattle.of_image.proofs.MovedRows.{migrates, only_migrated}
use Rattle.of_image.proofs.migration.migrate.Goals as goal

pub moved_text-requires : goal.moved_text-requires
moved_text-requires c = read_is_image (plan_grammar One) c.args.text.now c.in_ok-image.image c.in_ok-image.ensures.ok

pub returns-in_err-image-clause-err : goal.returns-in_err-image-clause-err
returns-in_err-image-clause-err c =
    let q = err_from_is_err_and c.from_residual.result c.from_residual.ensures.1 in
    rw (q.1, q.2) (image_refused (plan_grammar One) c.args.text.now c.in_err-image.field-0.0 c.in_err-image.ensures.bad)

pub returns-in_err-image-clause-only : goal.returns-in_err-image-clause-only
returns-in_err-image-clause-only c image read =
    let q = err_from_is_err_and c.from_residual.result c.from_residual.ensures.1 in
    rw (q.1, q.2) (only_migrated c.args.text.now (Err (refusal_err c.in_err-image.field-0.0)) tt (image_refused (plan_grammar One) c.args.text.now c.in_err-image.field-0.0 c.in_err-image.ensures.bad) image read)

pub returns-clause-ok : goal.returns-clause-ok
returns-clause-ok c = migrates c.args.text.now c.in_ok-moved_text.field-0.items c.in_ok-image.image c.in_ok-image.ensures.ok c.in_ok-moved_text.ensures

pub returns-clause-only : goal.returns-clause-only
returns-clause-only c image read =
    only_migrated c.args.text.now (Ok c.in_ok-moved_text.field-0)
    (migrates c.args.text.now c.in_ok-moved_text.field-0.items c.in_ok-image.image c.in_ok-image.ensures.ok c.in_ok-moved_text.ensures) tt image read
