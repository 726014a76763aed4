use Rattle.std.proofs.Common.{ap, sym, ◌∙◌, Some, None, get_or}
use Rattle.std.proofs.lemmas.List.{get_or-set_same}
use Rattle.of_cells.proofs.Holding.{serves_there, low_handle}
use Rattle.of_cells.proofs.Times.{order_in, remembers, tells_memory}
use Rattle.of_cells.proofs.handle.CellHandle.leave.Goals as goal

pub take_in-requires-clause-caller : goal.take_in-requires-clause-caller
take_in-requires-clause-caller g c = serves_there g.W.Work.meaning c.args.memory.now c.args.self c.requires.from c.requires.handle

pub returns-clause-order : goal.returns-clause-order
returns-clause-order g c =
    let h = c.args.self in
    let m = c.args.memory.now in
    let put = c.take_in.ensures.back in
    order_in g.W.Work.meaning _ h put.caller
    (ap (λ cs. get_or cs h.number None) put.now ∙ get_or-set_same m.callers.items h.number (Some put.caller) None (low_handle g.W.Work.meaning m h c.requires.memory c.requires.handle c.requires.from))
    put.same.past (c.requires.from ∙ sym c.take_in.ensures.still)

pub returns-clause-heard : goal.returns-clause-heard
returns-clause-heard g c = tells_memory g.W.Work.meaning c.args.self _ c.requires.handle (c.requires.from ∙ sym c.take_in.ensures.still) c.take_in.ensures.known

pub returns-clause-remembers : goal.returns-clause-remembers
returns-clause-remembers g c = remembers g.W.Work.meaning c.args.memory.now c.take_in.new.self c.take_in.ensures.still c.take_in.ensures.remembers
