use Rattle.std.proofs.Common.{refl, subst}
use Rattle.of_cells.specs.Serving.{KeepsServing, RisesByTouch, steps_made_by}
use Rattle.of_cells.proofs.Called.{was_made}
use Rattle.of_cells.proofs.Times.{keeps_known, begins_after}
use Rattle.of_cells.proofs.handle.CellHandle.begin.Goals as goal

pub returns-clause-handle : goal.returns-clause-handle
returns-clause-handle g c =
    subst (λ r. KeepsServing g.W.Work.meaning r c.args.self.now.caller c.call_with-result.new.caller) c.deref.ensures c.call_with-result.ensures.serves c.args.self.now.number c.requires.handle

pub returns-clause-unmade : goal.returns-clause-unmade
returns-clause-unmade g c = was_made c.args.self.now _ c.call_with-result.result c.call_with-result.ensures.tried

pub returns-clause-knows : goal.returns-clause-knows
returns-clause-knows g c = let h = c.args.self.now in keeps_known g.W.Work.meaning h (record h { seq = c.seq_after-self.result; caller = c.call_with-result.new.caller }) refl c.call_with-result.ensures.more

pub returns-clause-behind : goal.returns-clause-behind
returns-clause-behind g c =
    let h = c.args.self.now in
    begins_after g.W.Work.meaning c.call_with-result.result h (record h { seq = c.seq_after-self.result; caller = c.call_with-result.new.caller }) refl c.call_with-result.ensures.more c.requires.handle.number c.call_with-result.ensures.next

pub returns-clause-touched : goal.returns-clause-touched
returns-clause-touched g c =
    subst (λ r. RisesByTouch g.W.Work.meaning g.W.Work.lawful r c.args.op.now 0 (steps_made_by c.args.self.now.caller) (steps_made_by c.call_with-result.new.caller)) c.deref.ensures c.call_with-result.ensures.touched
