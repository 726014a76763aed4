use Rattle.std.proofs.Common.{rules}
use Rattle.of_script.proofs.Words.{ends_behind}
use Rattle.of_image.specs.declared.line.ImageLine.TheVariants.{End}
use Rattle.of_image.specs.ImageReading.{row_reading_value}
use Rattle.of_image.proofs.Feeding.{thrown, too_many}
use Rattle.of_image.proofs.reading.Reading.feed_body.Goals as goal

pub feed_cell-requires-clause-rest : goal.feed_cell-requires-clause-rest
feed_cell-requires-clause-rest c = ends_behind _ _ _ c.in-Some.ensures.parts

pub returns-in_err-expect_end : goal.returns-in_err-expect_end
returns-in_err-expect_end c =
    thrown c.from_residual.result _ _ _ c.from_residual.ensures.1
    (too_many c.args.grammar (row_reading_value c.args.self.now) c.args.line.now c.in-Some.rest.now _ End c.requires.kept tt (search rules) (ends_behind _ _ _ c.in-Some.ensures.parts) c.in_err-expect_end.ensures.ends c.in_err-expect_end.ensures.piece c.in_err-expect_end.ensures.reason)
