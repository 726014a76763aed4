use Rattle.std.proofs.Common.{refl, ap, subst}
use Rattle.of_caller.specs.Callers.{IsCaller}
use Rattle.of_cells.proofs.Seats.{serves_same}
use Rattle.of_cells.proofs.Times.{keeps_known, same_sight, tells_own, tells_heard}
use Rattle.of_cells.proofs.handle.CellHandle.tell.Goals as goal

pub returns-clause-handle : goal.returns-clause-handle
returns-clause-handle g c =
    let h = c.args.self.now in
    let e = c.tell.ensures in
    serves_same g.W.Work.meaning _ h.number h.caller c.tell.new.self c.requires
    (subst (λ r. IsCaller g.W.Work.meaning r c.tell.new.self) c.deref.ensures e.caller) (same_sight h.caller c.tell.new.self e.call e.sight)

pub returns-clause-calls : goal.returns-clause-calls
returns-clause-calls g c = let e = c.tell.ensures in same_sight c.args.self.now.caller c.tell.new.self e.call e.sight

pub returns-clause-knows : goal.returns-clause-knows
returns-clause-knows g c =
    let h = c.args.self.now in
    let e = c.tell.ensures in
    keeps_known g.W.Work.meaning h (record h { caller = c.tell.new.self }) refl (same_sight h.caller c.tell.new.self e.call e.sight).past

pub returns-clause-own : goal.returns-clause-own
returns-clause-own g c = tells_own g.W.Work.meaning c.args.self.now (record { pass = c.tell.result }) c.requires (ap (λ v. v.past) c.tell.ensures.tells)

pub returns-clause-heard : goal.returns-clause-heard
returns-clause-heard g c = tells_heard g.W.Work.meaning c.args.self.now (record { pass = c.tell.result }) (ap (λ v. v.past) c.tell.ensures.tells)
