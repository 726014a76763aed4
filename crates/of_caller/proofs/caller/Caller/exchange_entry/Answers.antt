use Rattle.std.proofs.Common.{◌+◌, ◌∙◌, arith}
use Rattle.of_core.specs.declared.place.Place.TheVariants.{ExchangeTarget, ReloadTarget, RaiseTarget}
use Rattle.of_core.proofs.Lagging.{entry_exchanged, entry_reloaded}
use Rattle.of_caller.specs.Going.{lagging_caller}
use Rattle.of_caller.proofs.Lagging.{led_to, then_to, entry_stands, on_to_denial}
use Rattle.of_caller.proofs.Phases.{on_err}
use Rattle.of_caller.proofs.caller.Caller.exchange_entry.Goals as goal

pub returns-in_err-held-clause-denied : goal.returns-in_err-held-clause-denied
returns-in_err-held-clause-denied g c =
    let self = c.args.self.now in
    let t = c.turn_lagging.new in
    let u = c.turn_lagging-2.new in
    let e = c.args.entry in
    let f = c.args.found in
    let k = c.args.more in
    let n = c.in_ok-turn_lagging.field-0 in
    let first = led_to g.W.Work.meaning g.W.Work.lawful g.B.Brake.denials g.B.Brake.left g.B.Brake.answers g.B.Brake.asks c.args.row.now self t.self (ExchangeTarget e f) (ReloadTarget e) k (k + 1) n c.args.brake.now t.brake c.args.steps.now t.steps c.in_ok-turn_lagging.ensures.machine (entry_exchanged g.W.Work.meaning self.machine k n e f) c.in_ok-turn_lagging.ensures.goes in
    on_err c.from_residual-in_err-held.result _
    (on_to_denial g.W.Work.meaning g.W.Work.lawful g.B.Brake.denials g.B.Brake.left g.B.Brake.answers g.B.Brake.asks c.args.row.now (lagging_caller self (ExchangeTarget e f) k) (lagging_caller t.self (ReloadTarget e) (k + 1)) u.self c.args.brake.now t.brake u.brake c.args.steps.now t.steps u.steps first c.in_err-held.ensures.denied)

pub returns-in_err-turn_lagging-2-clause-denied : goal.returns-in_err-turn_lagging-2-clause-denied
returns-in_err-turn_lagging-2-clause-denied g c =
    let self = c.args.self.now in
    let t = c.turn_lagging.new in
    let u = c.turn_lagging-2.new in
    let w = c.turn_lagging-3.new in
    let e = c.args.entry in
    let f = c.args.found in
    let k = c.args.more in
    let n = c.in_ok-turn_lagging.field-0 in
    let held = c.in_ok-held.held in
    let first = led_to g.W.Work.meaning g.W.Work.lawful g.B.Brake.denials g.B.Brake.left g.B.Brake.answers g.B.Brake.asks c.args.row.now self t.self (ExchangeTarget e f) (ReloadTarget e) k (k + 1) n c.args.brake.now t.brake c.args.steps.now t.steps c.in_ok-turn_lagging.ensures.machine (entry_exchanged g.W.Work.meaning self.machine k n e f) c.in_ok-turn_lagging.ensures.goes in
    let second = then_to g.W.Work.meaning g.W.Work.lawful g.B.Brake.denials g.B.Brake.left g.B.Brake.answers g.B.Brake.asks c.args.row.now self t.self u.self (ExchangeTarget e f) (ReloadTarget e) (RaiseTarget e held) k (k + 1) (k + 2) held c.args.brake.now t.brake u.brake c.args.steps.now t.steps u.steps first c.in_ok-held.ensures.machine (entry_reloaded g.W.Work.meaning t.self.machine (k + 1) held e) (omega arith) c.in_ok-held.ensures.goes in
    on_err c.from_residual-in_err-turn_lagging-2.result _
    (on_to_denial g.W.Work.meaning g.W.Work.lawful g.B.Brake.denials g.B.Brake.left g.B.Brake.answers g.B.Brake.asks c.args.row.now (lagging_caller self (ExchangeTarget e f) k) (lagging_caller u.self (RaiseTarget e held) (k + 2)) w.self c.args.brake.now u.brake w.brake c.args.steps.now u.steps w.steps second c.in_err-turn_lagging-2.ensures.denied)

pub returns-clause-goes : goal.returns-clause-goes
returns-clause-goes g c =
    let self = c.args.self.now in
    let t = c.turn_lagging.new in
    let u = c.turn_lagging-2.new in
    let w = c.turn_lagging-3.new in
    let e = c.args.entry in
    let f = c.args.found in
    let k = c.args.more in
    let n = c.in_ok-turn_lagging.field-0 in
    let held = c.in_ok-held.held in
    let first = led_to g.W.Work.meaning g.W.Work.lawful g.B.Brake.denials g.B.Brake.left g.B.Brake.answers g.B.Brake.asks c.args.row.now self t.self (ExchangeTarget e f) (ReloadTarget e) k (k + 1) n c.args.brake.now t.brake c.args.steps.now t.steps c.in_ok-turn_lagging.ensures.machine (entry_exchanged g.W.Work.meaning self.machine k n e f) c.in_ok-turn_lagging.ensures.goes in
    let second = then_to g.W.Work.meaning g.W.Work.lawful g.B.Brake.denials g.B.Brake.left g.B.Brake.answers g.B.Brake.asks c.args.row.now self t.self u.self (ExchangeTarget e f) (ReloadTarget e) (RaiseTarget e held) k (k + 1) (k + 2) held c.args.brake.now t.brake u.brake c.args.steps.now t.steps u.steps first c.in_ok-held.ensures.machine (entry_reloaded g.W.Work.meaning t.self.machine (k + 1) held e) (omega arith) c.in_ok-held.ensures.goes in
    entry_stands g.W.Work.meaning g.W.Work.lawful g.B.Brake.denials g.B.Brake.left g.B.Brake.answers g.B.Brake.asks c.args.row.now self u.self w.self (ExchangeTarget e f) e held k (k + 2) (k + 3) c.in_ok-turn_lagging-2.field-0 c.args.brake.now u.brake w.brake c.args.steps.now u.steps w.steps second (c.in_ok-held.ensures.machine ∙ c.in_ok-turn_lagging.ensures.machine) c.in_ok-turn_lagging-2.ensures.machine (omega arith) c.in_ok-turn_lagging-2.ensures.goes
