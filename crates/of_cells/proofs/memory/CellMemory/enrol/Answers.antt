use Rattle.std.specs.Prelude.{[]}
use Rattle.std.proofs.Common.{refl, sym, ap, subst, ◌∙◌, length, set, None, arith, ◌<◌}
use Rattle.std.proofs.lemmas.List.{length-set, set-get_or}
use Rattle.of_caller.specs.Callers.{IsCaller}
use Rattle.of_cells.specs.Serving.{Serves, ServeAll, IsKnowledge, events_in, events_known_to}
use Rattle.of_cells.specs.Memories.{row_of, events_heard}
use Rattle.of_cells.proofs.Seats.{serve_none, serves_same}
use Rattle.of_cells.proofs.Holding.{others_set, opens_set, orders_set, same_open, made_same, same_ended, open_still}
use Rattle.of_cells.proofs.Times.{order_out, remembers, hears_memory, prefix_same}
use Rattle.of_cells.proofs.memory.CellMemory.enrol.Goals as goal

pub exchange-requires-clause-caller : goal.exchange-requires-clause-caller
exchange-requires-clause-caller g c =
    subst (λ r. IsCaller g.W.Work.meaning r c.in-Some.caller) (sym c.deref.ensures) (c.requires.serve c.args.number c.in-Some.caller (sym c.in-Some.ensures.caller)).caller

pub returns-in-Some-clause-memory : goal.returns-in-Some-clause-memory
returns-in-Some-clause-memory g c =
    let m = c.args.self.now in
    let h = c.requires in
    let cs = m.callers.items in
    let lt : c.args.number < length cs = omega (arith, c.if-number-callers.false, c.callers.ensures, h.each) in
    record {
      pass = h.pass;
      first = h.first;
      room = h.room;
      each = ap length c.take_at.ensures.items ∙ length-set cs c.args.number None ∙ h.each;
      serve = subst (ServeAll g.W.Work.meaning (row_of m)) (sym c.take_at.ensures.items) (serve_none g.W.Work.meaning (row_of m) cs c.args.number lt h.serve);
      known = subst (λ r. IsKnowledge r c.exchange.new.known) c.deref.ensures c.exchange.ensures.known;
    }

pub returns-in-Some-clause-handle : goal.returns-in-Some-clause-handle
returns-in-Some-clause-handle g c =
    let m = c.args.self.now in
    let k = c.exchange.new.caller in
    subst (λ r. Serves g.W.Work.meaning r c.args.number k) (sym c.in-Ok.ensures)
    (serves_same g.W.Work.meaning (row_of m) c.args.number c.in-Some.caller k (c.requires.serve c.args.number c.in-Some.caller (sym c.in-Some.ensures.caller))
    (subst (λ r. IsCaller g.W.Work.meaning r k) c.deref.ensures c.exchange.ensures.caller) c.exchange.ensures.same)

pub returns-in-Some-clause-made : goal.returns-in-Some-clause-made
returns-in-Some-clause-made g c es h = same_ended c.in-Some.caller c.exchange.new.caller c.exchange.ensures.same ∙ made_same c.args.self.now c.args.number c.in-Some.caller es (sym c.in-Some.ensures.caller) h

pub returns-in-Some-clause-open_call : goal.returns-in-Some-clause-open_call
returns-in-Some-clause-open_call g c op h = open_still c.in-Some.caller c.exchange.new.caller op c.exchange.ensures.same (same_open c.args.self.now c.args.number c.in-Some.caller op (sym c.in-Some.ensures.caller) h)

pub returns-in-Some-clause-others : goal.returns-in-Some-clause-others
returns-in-Some-clause-others g c = others_set c.args.self.now _ c.args.number None c.take_at.ensures.items

pub returns-in-Some-clause-others_open : goal.returns-in-Some-clause-others_open
returns-in-Some-clause-others_open g c = opens_set c.args.self.now _ c.args.number None c.take_at.ensures.items

pub returns-in-None-clause-memory : goal.returns-in-None-clause-memory
returns-in-None-clause-memory g c =
    let m = c.args.self.now in
    let h = c.requires in
    let cs = m.callers.items in
    let lt : c.args.number < length cs = omega (arith, c.if-number-callers.false, c.callers.ensures, h.each) in
    record {
      pass = h.pass;
      first = h.first;
      room = h.room;
      each = ap length c.take_at.ensures.items ∙ length-set cs c.args.number None ∙ h.each;
      serve = subst (ServeAll g.W.Work.meaning (row_of m)) (sym c.take_at.ensures.items) (serve_none g.W.Work.meaning (row_of m) cs c.args.number lt h.serve);
      known = h.known;
    }

pub returns-in-None-clause-others : goal.returns-in-None-clause-others
returns-in-None-clause-others g c = others_set c.args.self.now _ c.args.number None c.take_at.ensures.items

pub returns-in-None-clause-others_open : goal.returns-in-None-clause-others_open
returns-in-None-clause-others_open g c = opens_set c.args.self.now _ c.args.number None c.take_at.ensures.items

pub returns-in-Some-clause-taken : goal.returns-in-Some-clause-taken
returns-in-Some-clause-taken g c = record { caller = c.in-Some.caller; was = sym c.in-Some.ensures.caller; same = c.exchange.ensures.same; now = c.take_at.ensures.items }

pub returns-in-None-clause-refused : goal.returns-in-None-clause-refused
returns-in-None-clause-refused g c =
    let cs = c.args.self.now.callers.items in
    c.take_at.ensures.items ∙ ap (set cs c.args.number) (sym c.in-None.is ∙ c.take_at.ensures.caller) ∙ set-get_or cs c.args.number None

pub returns-in-Some-clause-others_order : goal.returns-in-Some-clause-others_order
returns-in-Some-clause-others_order g c = orders_set g.W.Work.meaning c.args.self.now _ c.args.number None refl c.take_at.ensures.items

pub returns-in-None-clause-others_order : goal.returns-in-None-clause-others_order
returns-in-None-clause-others_order g c = orders_set g.W.Work.meaning c.args.self.now _ c.args.number None refl c.take_at.ensures.items

pub returns-in-Some-clause-order : goal.returns-in-Some-clause-order
returns-in-Some-clause-order g c n x k y h =
    order_out g.W.Work.meaning c.args.self.now c.args.number c.in-Some.caller c.exchange.new.caller _ (sym c.in-Some.ensures.caller) c.exchange.ensures.same.past c.in-Ok.ensures n x k y h

pub returns-in-Some-clause-heard : goal.returns-in-Some-clause-heard
returns-in-Some-clause-heard g c =
    hears_memory g.W.Work.meaning c.args.self.now (record { front = []; row = c.in-Ok.row; number = c.args.number; seq = c.args.self.now.seq; caller = c.exchange.new.caller; behind = [] }) c.in-Ok.ensures c.exchange.ensures.heard

pub returns-in-Some-clause-remembers : goal.returns-in-Some-clause-remembers
returns-in-Some-clause-remembers g c =
    let m = c.args.self.now in
    let e = c.exchange.ensures in
    remembers g.W.Work.meaning m (record m { known = c.exchange.new.known; callers = c.take_at.new.callers }) refl
    (prefix_same (events_heard m) (events_known_to c.exchange.new.caller) (events_in c.exchange.new.known) e.heard (sym e.told))
