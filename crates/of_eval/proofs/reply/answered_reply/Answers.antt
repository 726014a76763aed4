use Rattle.std.proofs.Common.{◌≡◌, ◌<◌, ◌%◌, ◌^◌, arith, sym, subst, ap, ◌∙◌}
use Rattle.std.specs.List.{All}
use Rattle.of_store.specs.Replies.{IsSmall}
use Rattle.of_eval.specs.Reading.{marked_in}
use Rattle.of_eval.proofs.Masks.{bit_is}
use Rattle.of_eval.proofs.Unpacked.{len_is, marks_below, small_values, answered_is, answered_holds}
use Rattle.of_eval.proofs.reply.answered_reply.Goals as goal

pub returns-then-marks-len-clause-only : goal.returns-then-marks-len-clause-only
returns-then-marks-len-clause-only c = λ r h. absurd (let l : c.args.len ≡ r.len = c.requires.len ∙ len_is c.args.raw.now r h in let b = bit_is c.args.len c.requires.few in let k : c.args.raw.now.shape % 2 ^ 16 < 2 ^ c.args.len = rw l (marks_below c.args.raw.now r h) in omega (arith, b, k, c.if-marks-len.true))

pub returns-in_err-values-clause-only : goal.returns-in_err-values-clause-only
returns-in_err-values-clause-only c = λ r h. absurd (c.in_err-values.ensures (subst (All IsSmall) (sym (c.reply_marks-marks.ensures.held r h)) (small_values c.args.raw.now r h)))

pub returns-clause-some : goal.returns-clause-some
returns-clause-some c = answered_holds c.args.raw.now c.args.len c.in_ok-values.values c.told-raw c.requires.some c.requires.few c.requires.len c.requires.shape (c.in_ok-values.ensures.0 ∙ ap (λ m. marked_in m c.args.raw.now.values) c.reply_marks-marks.ensures.value) (let b = bit_is c.args.len c.requires.few in omega (arith, b, c.if-marks-len.false)) c.in_ok-values.ensures.1

pub returns-clause-only : goal.returns-clause-only
returns-clause-only c = λ r h. answered_is c.args.raw.now r h c.told-raw c.requires.shape c.args.len c.requires.len c.in_ok-values.values (c.in_ok-values.ensures.0 ∙ ap (λ m. marked_in m c.args.raw.now.values) c.reply_marks-marks.ensures.value)
