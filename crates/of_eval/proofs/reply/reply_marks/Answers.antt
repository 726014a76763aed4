use Rattle.std.proofs.Common.{arith}
use Rattle.of_eval.proofs.Unpacked.{values_are}
use Rattle.of_eval.proofs.reply.reply_marks.Goals as goal

pub returns-clause-held : goal.returns-clause-held
returns-clause-held c r h = values_are c.args.raw.now r h (omega arith)
