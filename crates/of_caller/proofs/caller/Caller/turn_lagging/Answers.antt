use Rattle.std.proofs.Common.{refl}
use Rattle.of_core.specs.Lagging.{after_lagging}
use Rattle.of_caller.specs.declared.caller.Caller.{Caller}
use Rattle.of_caller.specs.Going.{with_machine, lagging_caller}
use Rattle.of_caller.proofs.Lagging.{went}
use Rattle.of_caller.proofs.caller.Caller.turn_lagging.Goals as goal

pub returns-in-Ok-clause-goes : goal.returns-in-Ok-clause-goes
returns-in-Ok-clause-goes g c =
    let t = c.in-Ok.ensures in
    let now : Caller g.row.W.Denot = record { member = c.step_lagging.new.member; machine = c.args.self.now.machine; writes = c.args.self.now.writes } in
    went g.W.Work.meaning g.W.Work.lawful g.B.Brake.denials g.B.Brake.left g.B.Brake.answers g.B.Brake.asks c.args.row.now (lagging_caller c.args.self.now c.args.place c.args.more) (with_machine now (after_lagging g.W.Work.meaning c.args.self.now.machine c.args.place c.args.more c.in-Ok.found)) c.args.brake.now c.step_lagging.new.brake c.args.steps.now c.tick.new.self
    c.requires.caller c.requires.lags.open_call t.row t.member refl t.step c.tick.ensures t.denials t.left t.asks t.answers
