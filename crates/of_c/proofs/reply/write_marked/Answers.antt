use Rattle.std.proofs.Common.{◌<◌, ℕ, length, get_or, length-set, ◌∙◌, ap, arith}
use Rattle.of_eval.specs.Reading.{marked_in}
use Rattle.of_c.specs.Replies.{given_flag, given_number}
use Rattle.of_c.proofs.Marked.{shows_more, value_is, left_is, flag_is}
use Rattle.of_c.proofs.reply.write_marked.Goals as goal

pub loop-place-preserved : goal.loop-place-preserved
loop-place-preserved c =
    let h = c.loop-place.invariant in
    let n : ℕ = c.loop-place.place in
    let rest : ℕ = c.loop-place.rest in
    let here : n < length c.args.cells.now = omega (arith, c.loop-place-test.true, c.told-cells) in
    let value = value_is c.args.marks c.args.cells.now rest n here h.left in
    record {
      given = shows_more given_flag n (marked_in c.args.marks c.args.cells.now) c.loop-place.given _ (omega (arith, c.loop-place-test.true, h.width.0)) (λ d. flag_is rest (get_or c.args.cells.now n 0) ∙ ap given_flag (value d)) h.given;
      numbers = shows_more given_number n (marked_in c.args.marks c.args.cells.now) c.loop-place.numbers _ (omega (arith, c.loop-place-test.true, h.width.1)) (λ d. c.marked_number.ensures ∙ ap given_number (value d)) h.numbers;
      width = (length-set c.loop-place.given n _ ∙ h.width.0, length-set c.loop-place.numbers n _ ∙ h.width.1);
      left = left_is c.args.marks c.args.cells.now rest n here h.left;
    }
