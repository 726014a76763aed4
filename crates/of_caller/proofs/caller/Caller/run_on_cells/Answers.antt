use Rattle.std.proofs.Common.{◌∙◌, ap, refl, true}
use Rattle.of_mem.specs.WriteSet.{WriteSet}
use Rattle.of_caller.specs.declared.caller.Caller.{Caller}
use Rattle.of_caller.specs.Going.{true_caller}
use Rattle.of_caller.proofs.Loadings.{caller_with, leads_from, denies_from}
use Rattle.of_caller.proofs.Phases.{ok_then, err_then}
use Rattle.of_caller.proofs.caller.Caller.run_on_cells.Goals as goal

pub run_afresh-requires-clause-caller : goal.run_afresh-requires-clause-caller
run_afresh-requires-clause-caller g c =
    let old = c.args.self.now in
    let now : Caller g.row.W.Denot = record { member = old.member; machine = old.machine; writes = c.clear.new.self } in
    caller_with g.W.Work.meaning g.W.Work.lawful g.B.Brake.denials g.B.Brake.left g.B.Brake.answers g.B.Brake.asks c.args.row.now (true_caller g.W.Work.meaning true old) (true_caller g.W.Work.meaning true now) refl refl (ap (λ (w : WriteSet). w.room) c.clear.ensures) c.requires.caller

pub run_afresh-requires-clause-fresh : goal.run_afresh-requires-clause-fresh
run_afresh-requires-clause-fresh g c = ap (λ (w : WriteSet). w.entries) c.clear.ensures

pub returns-clause-goes : goal.returns-clause-goes
returns-clause-goes g c =
    let old = c.args.self.now in
    let now : Caller g.row.W.Denot = record { member = old.member; machine = old.machine; writes = c.clear.new.self } in
    ok_then c.run_afresh.result _ _ c.run_afresh.ensures.goes
    (leads_from g.W.Work.meaning g.W.Work.lawful g.B.Brake.denials g.B.Brake.left g.B.Brake.answers g.B.Brake.asks c.args.row.now (true_caller g.W.Work.meaning true now) (true_caller g.W.Work.meaning true old) c.args.brake.now c.args.steps.now c.run_afresh.new.self c.run_afresh.new.brake c.run_afresh.new.steps refl refl)

pub returns-clause-denied : goal.returns-clause-denied
returns-clause-denied g c =
    let old = c.args.self.now in
    let now : Caller g.row.W.Denot = record { member = old.member; machine = old.machine; writes = c.clear.new.self } in
    err_then c.run_afresh.result _ _ c.run_afresh.ensures.denied
    (denies_from g.W.Work.meaning g.W.Work.lawful g.B.Brake.denials g.B.Brake.left g.B.Brake.answers g.B.Brake.asks c.args.row.now (true_caller g.W.Work.meaning true now) (true_caller g.W.Work.meaning true old) c.args.brake.now c.args.steps.now c.run_afresh.new.self c.run_afresh.new.brake c.run_afresh.new.steps refl refl)
