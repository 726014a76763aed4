use Rattle.std.proofs.Common.{◌++◌, ◌∙◌, ◌≡◌, sym}
use Rattle.std.specs.Prelude.{codes, string_bytes}
use Rattle.std.proofs.lemmas.List.{append_assoc}
use Rattle.std.proofs.lemmas.Result.{on_ok_weaker}
use Rattle.of_store.specs.Replies.{reply_value_of}
use Rattle.of_report.specs.ReportText.{reply_text}
use Rattle.of_play.specs.TraceParts.{shown_reply}
use Rattle.of_play.proofs.TraceLaws.{reply_read}
use Rattle.of_play.proofs.trace_parts.put_held.Goals as goal

pub returns : goal.returns
returns c =
    let read : reply_value_of c.in-Some.reply ≡ shown_reply c.args.raw.now = sym (reply_read c.args.raw.now c.in-Some.reply c.requires.width c.in-Some.ensures.some) in
    on_ok_weaker c.put_reply.result
    (λ e. e ∙ (λ i. c.in_ok-push_str.ensures.bytes i ++ reply_text (read i)) ∙ append_assoc (string_bytes c.args.out.now) (codes "; reply") (reply_text (shown_reply c.args.raw.now)))
    c.put_reply.ensures
