use Rattle.std.proofs.Common.{arith}
use Rattle.of_eval.proofs.Unpacked.{len_in}
use Rattle.of_eval.proofs.reply.reply_of.Goals as goal

pub returns-then-len-eq0-clause-only : goal.returns-then-len-eq0-clause-only
returns-then-len-eq0-clause-only c = λ r h. absurd (let k = len_in c.args.raw.now r h in omega (arith, k.0, c.if-len-eq0.true))

pub returns-then-len-clause-only : goal.returns-then-len-clause-only
returns-then-len-clause-only c = λ r h. absurd (let k = len_in c.args.raw.now r h in omega (arith, k.1, c.if-len.true))
