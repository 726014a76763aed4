use Rattle.std.proofs.Common.{refl, sym, ap, subst, ◌∙◌, length, Some}
use Rattle.std.proofs.lemmas.List.{length-set}
use Rattle.of_caller.specs.Callers.{IsCaller}
use Rattle.of_cells.specs.Serving.{Serves, ServeAll, IsKnowledge}
use Rattle.of_cells.specs.Memories.{HasMadeOf, row_of}
use Rattle.of_cells.proofs.Seats.{serve_some, serves_same}
use Rattle.of_cells.proofs.Holding.{others_set, opens_set, orders_set, low_number, made_here, open_here, same_ended, open_still}
use Rattle.of_cells.proofs.memory.CellMemory.take_in.Goals as goal

pub exchange-requires-clause-caller : goal.exchange-requires-clause-caller
exchange-requires-clause-caller g c = subst (λ r. IsCaller g.W.Work.meaning r c.args.caller) (sym c.deref.ensures) c.requires.caller.caller

pub put_at-requires : goal.put_at-requires
put_at-requires g c = low_number g.W.Work.meaning c.args.self.now c.args.number c.args.caller c.requires.memory c.requires.caller

pub returns-clause-memory : goal.returns-clause-memory
returns-clause-memory g c =
    let m = c.args.self.now in
    let h = c.requires.memory in
    let cs = m.callers.items in
    let e = c.exchange.ensures in
    let k = c.exchange.new.caller in
    let lt = low_number g.W.Work.meaning m c.args.number c.args.caller h c.requires.caller in
    let serves : Serves g.W.Work.meaning (row_of m) c.args.number k =
    serves_same g.W.Work.meaning (row_of m) c.args.number c.args.caller k c.requires.caller (subst (λ r. IsCaller g.W.Work.meaning r k) c.deref.ensures e.caller) e.same in
    record {
      pass = h.pass;
      first = h.first;
      room = h.room;
      each = ap length c.put_at.ensures ∙ length-set cs c.args.number (Some k) ∙ h.each;
      serve = subst (ServeAll g.W.Work.meaning (row_of m)) (sym c.put_at.ensures) (serve_some g.W.Work.meaning (row_of m) cs c.args.number k lt h.serve serves);
      known = subst (λ r. IsKnowledge r c.exchange.new.known) c.deref.ensures e.known;
    }

pub returns-clause-made : goal.returns-clause-made
returns-clause-made g c =
    let m = c.args.self.now in
    let k = c.exchange.new.caller in
    subst (HasMadeOf _ c.args.number) (same_ended c.args.caller k c.exchange.ensures.same)
    (made_here _ m.callers.items c.args.number k c.put_at.ensures (low_number g.W.Work.meaning m c.args.number c.args.caller c.requires.memory c.requires.caller))

pub returns-clause-open_call : goal.returns-clause-open_call
returns-clause-open_call g c op is_open =
    let m = c.args.self.now in
    let k = c.exchange.new.caller in
    open_here _ m.callers.items c.args.number k c.put_at.ensures (low_number g.W.Work.meaning m c.args.number c.args.caller c.requires.memory c.requires.caller) op (open_still c.args.caller k op c.exchange.ensures.same is_open)

pub returns-clause-others : goal.returns-clause-others
returns-clause-others g c = others_set c.args.self.now _ c.args.number (Some c.exchange.new.caller) c.put_at.ensures

pub returns-clause-others_open : goal.returns-clause-others_open
returns-clause-others_open g c = opens_set c.args.self.now _ c.args.number (Some c.exchange.new.caller) c.put_at.ensures

pub returns-clause-others_order : goal.returns-clause-others_order
returns-clause-others_order g c = orders_set g.W.Work.meaning c.args.self.now _ c.args.number (Some c.exchange.new.caller) refl c.put_at.ensures

pub returns-clause-back : goal.returns-clause-back
returns-clause-back g c = record { caller = c.exchange.new.caller; same = c.exchange.ensures.same; now = c.put_at.ensures }
