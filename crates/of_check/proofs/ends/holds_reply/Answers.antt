use Rattle.std.proofs.Common.{◌≡◌, Some, None, sym, ap, ◌∙◌, subst}
use Rattle.of_mem.specs.declared.work.RawReply.{RawReply}
use Rattle.of_store.specs.Replies.{reply_value_of}
use Rattle.of_eval.specs.Shapes.{IsHeldBy}
use Rattle.of_check.proofs.ends.holds_reply.Goals as goal

pub returns-in-Some : goal.returns-in-Some
returns-in-Some c = (
  λ so. record { reply = c.in-Some.held; held = subst (λ (raw : RawReply). IsHeldBy raw c.in-Some.held) c.reply.ensures c.in-Some.ensures.some; is = c.same_reply.ensures.0 so },
  λ h. c.same_reply.ensures.1 (
      let read = c.reply_of.ensures.only h.reply (subst (λ (raw : RawReply). IsHeldBy raw h.reply) (sym c.reply.ensures) h.held) in
      let both : Some c.in-Some.held ≡ Some h.reply = sym c.in-Some.is ∙ read in
      let same : c.in-Some.held ≡ h.reply = cc in
      ap reply_value_of same ∙ h.is),
)

pub returns-in-None : goal.returns-in-None
returns-in-None c = (
  λ so. absurd (cc (so)),
  λ h. absurd (
      let read = c.reply_of.ensures.only h.reply (subst (λ (raw : RawReply). IsHeldBy raw h.reply) (sym c.reply.ensures) h.held) in
      let both : None ≡ Some h.reply = sym c.in-None.is ∙ read in
      cc),
)
