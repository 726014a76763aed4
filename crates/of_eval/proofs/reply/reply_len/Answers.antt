use Rattle.of_eval.proofs.Unpacked.{len_is}
use Rattle.of_eval.proofs.reply.reply_len.Goals as goal

pub returns-clause-held : goal.returns-clause-held
returns-clause-held c = len_is c.args.raw.now
