use Rattle.std.proofs.Common.{◌≡◌, ℕ, Option, Some, None, refl, sym, ap, subst, ◌∙◌}
use Rattle.of_mem.specs.declared.work.RawReply.{RawReply}
use Rattle.of_store.specs.Replies.{reply_value_of}
use Rattle.of_eval.specs.Scripts.{scripts_meaning, LawfulCells}
use Rattle.of_eval.specs.Shapes.{IsHeldBy}
use Rattle.of_eval.specs.declared.scripts.Scripts.{Scripts}
use Rattle.of_cells.specs.declared.memory.CellMemory.{CellMemory}
use Rattle.of_cells.specs.Looking.{WasSoMeanwhile}
use Rattle.of_cells.specs.Looking as generic
use Rattle.of_memory.specs.Asking.{ShowLastCall}
use Rattle.of_memory.proofs.Asked.{raw_is, so_too, asked_sound}
use Rattle.of_memory.proofs.Holding.{took_none}
use Rattle.of_memory.proofs.memory.Memory.last_reply_of.Goals as goal

-- what was found of the number, if this is what was found
found : (n : ℕ) (m k : CellMemory Scripts) (o p : Option (ℕ × RawReply)) → o ≡ p → WasSoMeanwhile scripts_meaning LawfulCells (generic.ShowLastCall n o) m k → WasSoMeanwhile scripts_meaning LawfulCells (generic.ShowLastCall n p) m k
found n m k o p e f = subst (λ (z : Option (ℕ × RawReply)). WasSoMeanwhile scripts_meaning LawfulCells (generic.ShowLastCall n z) m k) e f

pub returns-in_err-ticket-clause-memory : goal.returns-in_err-ticket-clause-memory
returns-in_err-ticket-clause-memory c = took_none c.args.self.now _ c.requires.memory c.last_reply_of.ensures.memory c.last_reply_of.ensures.still c.last_reply_of.ensures.none

pub returns-in_default-clause-memory : goal.returns-in_default-clause-memory
returns-in_default-clause-memory c = took_none c.args.self.now _ c.requires.memory c.last_reply_of.ensures.memory c.last_reply_of.ensures.still c.last_reply_of.ensures.none

pub returns-in_default-clause-last : goal.returns-in_default-clause-last
returns-in_default-clause-last c = found c.args.number c.args.self.now.cells c.last_reply_of.new.self c.in_ok-ticket.field-0 None c.in_default.is c.in_ok-ticket.ensures.last

pub unreachable-requires : goal.unreachable-requires
unreachable-requires c =
    let m = c.args.self.now in
    let k = c.last_reply_of.new.self in
    let o : Option (ℕ × RawReply) = Some (c.in-Some.ticket, c.in-Some.raw) in
    let f = found c.args.number m.cells k c.in_ok-ticket.field-0 o c.in-Some.is c.in_ok-ticket.ensures.last in
    let is = raw_is _ c.args.number c.in-Some.ticket c.in-Some.raw f.found.1 in
    let own = (asked_sound m c.requires.memory k (generic.ShowLastCall c.args.number o) f c.args.number c.requires.number).some (λ none. f.found.0 (sym f.found.1.ticket_is ∙ none)) in
    c.in_default-reply_of.not-Some own.reply (c.reply_of.ensures.only own.reply (subst (λ (raw : RawReply). IsHeldBy raw own.reply) (sym is) own.held))

pub returns-clause-memory : goal.returns-clause-memory
returns-clause-memory c = took_none c.args.self.now _ c.requires.memory c.last_reply_of.ensures.memory c.last_reply_of.ensures.still c.last_reply_of.ensures.none

pub returns-clause-last : goal.returns-clause-last
returns-clause-last c =
    let m = c.args.self.now in
    let k = c.last_reply_of.new.self in
    let n : ℕ = c.args.number in
    let o : Option (ℕ × RawReply) = Some (c.in-Some.ticket, c.in-Some.raw) in
    so_too (generic.ShowLastCall n o) (ShowLastCall n (Some (c.in-Some.ticket, c.in-Some-reply_of.reply))) m.cells k
    (found n m.cells k c.in_ok-ticket.field-0 o c.in-Some.is c.in_ok-ticket.ensures.last)
    (λ cells h.
    let is = raw_is cells n c.in-Some.ticket c.in-Some.raw h.1 in
    record {
      some = h.0;
      ticket_is = h.1.ticket_is;
      held = (c.in-Some-reply_of.reply, subst (λ (raw : RawReply). IsHeldBy raw c.in-Some-reply_of.reply) is c.in-Some-reply_of.ensures.some, refl);
      only = λ r held.
          let read = c.reply_of.ensures.only held.0 (subst (λ (raw : RawReply). IsHeldBy raw held.0) (sym is) held.1) in
          let same : Some c.in-Some-reply_of.reply ≡ Some held.0 = sym c.in-Some-reply_of.is ∙ read in
          let one : c.in-Some-reply_of.reply ≡ held.0 = cc in
          ap reply_value_of one ∙ held.2;
    })
