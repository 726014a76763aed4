use Rattle.std.proofs.Common.{◌≡◌, true≢false, Some, arith, refl, sym, ap, subst, ◌∙◌}
use Rattle.of_mem.specs.declared.work.RawReply.{RawReply}
use Rattle.of_store.specs.Replies.{reply_value_of}
use Rattle.of_eval.specs.Shapes.{IsHeldBy}
use Rattle.of_memory.proofs.Saving.{reply_is}
use Rattle.of_memory.proofs.saved.Saved.last_reply.Goals as goal

pub unreachable-requires : goal.unreachable-requires
unreachable-requires c =
    let d = c.args.self.now in
    let e = c.in_ok-ticket.ensures in
    let is = reply_is d c.args.number c.in_ok-ticket.raw e.reply in
    let own = (c.requires.saved.replies c.args.number (omega (arith, c.requires.number, c.requires.saved.saved.callers))).some (λ none. true≢false (e.none.1 none)) in
    c.in_default.not-Some own.reply (c.reply_of.ensures.only own.reply (subst (λ (raw : RawReply). IsHeldBy raw own.reply) (sym is) own.held))

pub returns-clause-reply : goal.returns-clause-reply
returns-clause-reply c =
    let is = reply_is c.args.self.now c.args.number c.in_ok-ticket.raw c.in_ok-ticket.ensures.reply in
    (c.in-Some.reply, subst (λ (raw : RawReply). IsHeldBy raw c.in-Some.reply) is c.in-Some.ensures.some, refl)

pub returns-clause-only : goal.returns-clause-only
returns-clause-only c r held =
    let is = reply_is c.args.self.now c.args.number c.in_ok-ticket.raw c.in_ok-ticket.ensures.reply in
    let read = c.reply_of.ensures.only held.0 (subst (λ (raw : RawReply). IsHeldBy raw held.0) (sym is) held.1) in
    let same : Some c.in-Some.reply ≡ Some held.0 = sym c.in-Some.is ∙ read in
    let one : c.in-Some.reply ≡ held.0 = cc in
    ap reply_value_of one ∙ held.2
