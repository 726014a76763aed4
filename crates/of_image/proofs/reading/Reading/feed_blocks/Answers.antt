use Rattle.std.proofs.Common.{rules}
use Rattle.of_script.specs.Text.{text_words}
use Rattle.of_image.specs.ImageReading.{row_reading_value}
use Rattle.of_image.proofs.Feeding.{blocks_taken}
use Rattle.of_image.proofs.reading.Reading.feed_blocks.Goals as goal

pub returns : goal.returns
returns c = blocks_taken c.args.grammar (row_reading_value c.args.self.now) _ (text_words c.args.line.now) c.in-Ok.count c.requires.stage c.requires.kept c.in-Ok.ensures.0 c.in-Ok.ensures.1 (search rules)
