use Rattle.std.proofs.Common.{◌≡◌, Some, sym, ◌∙◌, subst, arith}
use Rattle.of_mem.specs.declared.work.RawReply.{RawReply}
use Rattle.of_mem.specs.Places.{ticket_cell_at}
use Rattle.of_script.specs.declared.instr.TheConstants.{MOST_INSTRS}
use Rattle.of_eval.specs.Shapes.{IsHeldBy}
use Rattle.of_lives.proofs.ImageStarts.{number_there}
use Rattle.of_lives.proofs.start.last_reply.Goals as goal

pub unreachable-requires : goal.unreachable-requires
unreachable-requires c =
    let i = c.args.image.now in
    let ticket = number_there i.row c.requires.image.row.size (ticket_cell_at MOST_INSTRS c.args.caller) (omega (arith, c.requires.caller)) in
    let own = (c.requires.image.lawful.stands.own c.args.caller c.requires.caller).some (λ none. c.if-ticket-eq0.false (c.ticket-ticket.ensures ∙ sym ticket ∙ none)) in
    c.in_default.not-Some own.reply (c.reply_of.ensures.only own.reply (subst (λ (raw : RawReply). IsHeldBy raw own.reply) (sym c.reply.ensures) own.held))

pub returns-clause-reply : goal.returns-clause-reply
returns-clause-reply c = subst (λ (raw : RawReply). IsHeldBy raw c.in-Some.reply) c.reply.ensures c.in-Some.ensures.some

pub returns-clause-only : goal.returns-clause-only
returns-clause-only c r held =
    let read = c.reply_of.ensures.only r (subst (λ (raw : RawReply). IsHeldBy raw r) (sym c.reply.ensures) held) in
    let same : Some c.in-Some.reply ≡ Some r = sym c.in-Some.is ∙ read in
    cc
