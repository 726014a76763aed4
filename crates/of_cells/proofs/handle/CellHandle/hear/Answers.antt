use Rattle.std.proofs.Common.{refl, subst}
use Rattle.of_caller.specs.Callers.{IsCaller}
use Rattle.of_cells.proofs.Seats.{serves_same}
use Rattle.of_cells.proofs.Times.{keeps_known, hears_all}
use Rattle.of_cells.proofs.handle.CellHandle.hear.Goals as goal

pub returns-clause-handle : goal.returns-clause-handle
returns-clause-handle g c =
    let h = c.args.self.now in
    let e = c.hear.ensures in
    serves_same g.W.Work.meaning _ h.number h.caller c.hear.new.self c.requires.handle
    (subst (λ r. IsCaller g.W.Work.meaning r c.hear.new.self) c.deref.ensures e.caller) (record { call = e.call; kept = e.kept; past = e.heard.2 })

pub returns-clause-calls : goal.returns-clause-calls
returns-clause-calls g c = let e = c.hear.ensures in record { call = e.call; kept = e.kept; past = e.heard.2 }

pub returns-clause-knows : goal.returns-clause-knows
returns-clause-knows g c = let h = c.args.self.now in keeps_known g.W.Work.meaning h (record h { caller = c.hear.new.self }) refl c.hear.ensures.heard.2

pub returns-clause-heard : goal.returns-clause-heard
returns-clause-heard g c = let h = c.args.self.now in hears_all g.W.Work.meaning c.args.news (record h { caller = c.hear.new.self }) c.hear.ensures.heard.3
