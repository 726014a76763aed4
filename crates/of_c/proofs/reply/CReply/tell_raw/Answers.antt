use Rattle.std.proofs.Common.{ℕ, List, Option, refl, sym, ◌∙◌, ap, subst}
use Rattle.of_script.specs.declared.instr.Abort.{Abort}
use Rattle.of_c.specs.Replies.{ShowsAbort, ShowsEach, given_flag, given_number, flag_number}
use Rattle.of_c.proofs.Marked.{shows_flag}
use Rattle.of_c.proofs.reply.CReply.tell_raw.Goals as goal

pub returns : goal.returns
returns c a told =
    let are = c.reply_marks.ensures.held a.reply told.reply in
    record {
      reply = record {
        len = c.reply_len-self.ensures.held a.reply told.reply;
        given = subst (λ (vs : List (Option ℕ)). ShowsEach given_flag vs c.write_marked.new.given) are c.write_marked.ensures.given;
        values = subst (λ (vs : List (Option ℕ)). ShowsEach given_number vs c.write_marked.new.numbers) are c.write_marked.ensures.numbers;
        abort = subst (λ (o : Option Abort). ShowsAbort o c.numbers_of_abort-place.result.0 c.numbers_of_abort-place.result.1) (c.reply_abort.ensures a.reply told.reply) c.numbers_of_abort-place.ensures;
      };
      seq = sym told.seq;
      announced = c.from-self.ensures ∙ shows_flag c.args.answer.now.announced ∙ ap flag_number (sym told.announced);
      ticket = refl;
      steps = sym told.steps;
    }
