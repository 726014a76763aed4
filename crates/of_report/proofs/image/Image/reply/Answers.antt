use Rattle.std.proofs.Common.{◌∙◌}
use Rattle.of_report.proofs.Cells.{image_reply}
use Rattle.of_report.proofs.image.Image.reply.Goals as goal

pub returns : goal.returns
returns c = c.reply.ensures ∙ image_reply c.args.self.now c.data_words.result.now c.data_words.ensures c.args.caller c.requires.caller
