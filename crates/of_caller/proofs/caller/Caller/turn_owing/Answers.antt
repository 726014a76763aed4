use Rattle.std.proofs.Common.{subst, is_some}
use Rattle.of_core.specs.declared.place.Place.{Place}
use Rattle.of_core.specs.Machine.{IsOpen}
use Rattle.of_caller.specs.declared.caller.Caller.{Caller}
use Rattle.of_caller.specs.Going.{true_caller}
use Rattle.of_caller.proofs.Phases.{on_err, one_step, one_denied}
use Rattle.of_caller.proofs.caller.Caller.turn_owing.Goals as goal

pub returns-in_err-owed-clause-denied : goal.returns-in_err-owed-clause-denied
returns-in_err-owed-clause-denied g c =
    let t = c.in_err-owed.ensures in
    let now : Caller g.row.W.Denot = record { member = c.step_owing.new.member; machine = c.step_owing.new.machine; writes = c.args.self.now.writes } in
    let opened = subst (λ (p : Place). IsOpen p) c.requires.here c.requires.open in
    on_err c.from_residual.result _
    (one_denied g.W.Work.meaning g.W.Work.lawful g.B.Brake.denials g.B.Brake.left g.B.Brake.answers g.B.Brake.asks c.args.row.now c.args.self.now now c.args.brake.now c.step_owing.new.brake c.args.steps.now opened (λ i. record { member = t.stopped.0 i; machine = t.stopped.1 i; writes = c.args.self.now.writes }) t.denials t.cause t.left t.asks t.answers)

pub returns-clause-goes : goal.returns-clause-goes
returns-clause-goes g c =
    let t = c.in_ok-owed.ensures in
    let now : Caller g.row.W.Denot = record { member = c.step_owing.new.member; machine = c.step_owing.new.machine; writes = c.args.self.now.writes } in
    let opened = subst (λ (p : Place). IsOpen p) c.requires.here c.requires.open in
    one_step g.W.Work.meaning g.W.Work.lawful g.B.Brake.denials g.B.Brake.left g.B.Brake.answers g.B.Brake.asks c.args.row.now c.args.self.now (true_caller g.W.Work.meaning (is_some c.in_ok-owed.owed) now) c.args.brake.now c.step_owing.new.brake c.args.steps.now c.tick.new.self c.requires.caller opened t.step c.tick.ensures t.denials t.left t.asks t.answers
