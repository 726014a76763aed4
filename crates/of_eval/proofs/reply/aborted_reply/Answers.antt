use Rattle.std.proofs.Common.{arith, sym, ◌∙◌}
use Rattle.of_eval.proofs.Unpacked.{len_is, abort_of, none_marked, aborted_is}
use Rattle.of_eval.proofs.reply.aborted_reply.Goals as goal

pub returns-in_err-abort-clause-only : goal.returns-in_err-abort-clause-only
returns-in_err-abort-clause-only c = λ r h. absurd (let a = abort_of c.args.raw.now r h c.requires.shape in c.in_err-abort.ensures a.0.cause (sym a.2.code))

pub returns-then-reply_marks-ne0-clause-only : goal.returns-then-reply_marks-ne0-clause-only
returns-then-reply_marks-ne0-clause-only c = λ r h. absurd (c.if-reply_marks-ne0.true (c.reply_marks.ensures.value ∙ none_marked c.args.raw.now r h c.requires.shape))

pub returns-then-place-len-clause-only : goal.returns-then-place-len-clause-only
returns-then-place-len-clause-only c = λ r h. absurd (let a = abort_of c.args.raw.now r h c.requires.shape in omega (arith, c.if-place-len.true, c.in_ok-abort.ensures.0, a.2.place, a.3, c.requires.len, len_is c.args.raw.now r h))

pub returns-clause-only : goal.returns-clause-only
returns-clause-only c = λ r h. aborted_is c.args.raw.now r h c.requires.shape c.args.len c.in_ok-abort.abort c.requires.len c.in_ok-abort.ensures
