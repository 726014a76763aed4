use Rattle.std.proofs.Common.{ap, ◌∙◌}
use Rattle.std.proofs.lemmas.Result.{err_from_is_err_and}
use Rattle.of_image.specs.Parsed.{refusal_err}
use Rattle.of_image.specs.Grammar.{grammar_within}
use Rattle.of_image.proofs.ImageFacts.{read_is_image, image_refused}
use Rattle.of_image.proofs.parse.image_parse_within.Goals as goal

pub returns-in_err-read_in-clause-err : goal.returns-in_err-read_in-clause-err
returns-in_err-read_in-clause-err c =
    let q = err_from_is_err_and c.from_residual.result c.from_residual.ensures.1 in
    rw (q.1, q.2) (image_refused (grammar_within c.args.limits) c.args.text.now c.in_err-read_in.field-0.0 c.in_err-read_in.ensures.bad)

pub returns-in_err-read_in-clause-only : goal.returns-in_err-read_in-clause-only
returns-in_err-read_in-clause-only c image h =
    let q = err_from_is_err_and c.from_residual.result c.from_residual.ensures.1 in
    rw q.1 (q.2 ∙ ap refusal_err (c.in_err-read_in.ensures.only image h))

pub returns-clause-image : goal.returns-clause-image
returns-clause-image c = read_is_image (grammar_within c.args.limits) c.args.text.now c.in_ok-read_in.field-0 c.in_ok-read_in.ensures.ok

pub returns-clause-only : goal.returns-clause-only
returns-clause-only c image h = c.in_ok-read_in.ensures.only image h
