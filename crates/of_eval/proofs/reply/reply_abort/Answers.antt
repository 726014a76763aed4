use Rattle.of_eval.proofs.Unpacked.{told_is}
use Rattle.of_eval.proofs.reply.reply_abort.Goals as goal

pub returns : goal.returns
returns c r h = told_is c.args.raw.now r h c.if-raw.false c.told_abort.result c.told_abort.ensures
