use Rattle.std.proofs.Common.{◌+◌}
use Rattle.of_core.specs.declared.place.Place.TheVariants.{StoreLog, RaiseLog}
use Rattle.of_core.proofs.Lagging.{word_stored}
use Rattle.of_caller.specs.Going.{lagging_caller}
use Rattle.of_caller.proofs.Lagging.{led_to, word_stands, on_to_denial}
use Rattle.of_caller.proofs.Phases.{on_err}
use Rattle.of_caller.proofs.caller.Caller.store_word.Goals as goal

pub returns-in_err-turn_lagging-2-clause-denied : goal.returns-in_err-turn_lagging-2-clause-denied
returns-in_err-turn_lagging-2-clause-denied g c =
    let self = c.args.self.now in
    let t = c.turn_lagging.new in
    let u = c.turn_lagging-2.new in
    let at = c.args.at in
    let k = c.args.more in
    on_err c.from_residual-in_err-turn_lagging-2.result _
    (on_to_denial g.W.Work.meaning g.W.Work.lawful g.B.Brake.denials g.B.Brake.left g.B.Brake.answers g.B.Brake.asks c.args.row.now (lagging_caller self (StoreLog at) k) (lagging_caller t.self (RaiseLog at) (k + 1)) u.self c.args.brake.now t.brake u.brake c.args.steps.now t.steps u.steps
    (led_to g.W.Work.meaning g.W.Work.lawful g.B.Brake.denials g.B.Brake.left g.B.Brake.answers g.B.Brake.asks c.args.row.now self t.self (StoreLog at) (RaiseLog at) k (k + 1) c.in_ok-turn_lagging.field-0 c.args.brake.now t.brake c.args.steps.now t.steps c.in_ok-turn_lagging.ensures.machine (word_stored g.W.Work.meaning self.machine k c.in_ok-turn_lagging.field-0 at) c.in_ok-turn_lagging.ensures.goes)
    c.in_err-turn_lagging-2.ensures.denied)

pub returns-clause-goes : goal.returns-clause-goes
returns-clause-goes g c =
    let t = c.turn_lagging.new in
    let u = c.turn_lagging-2.new in
    word_stands g.W.Work.meaning g.W.Work.lawful g.B.Brake.denials g.B.Brake.left g.B.Brake.answers g.B.Brake.asks c.args.row.now c.args.self.now t.self u.self c.args.at c.args.more c.in_ok-turn_lagging.field-0 c.in_ok-turn_lagging-2.field-0 c.args.brake.now t.brake u.brake c.args.steps.now t.steps u.steps
    c.in_ok-turn_lagging.ensures.machine c.in_ok-turn_lagging-2.ensures.machine c.in_ok-turn_lagging.ensures.goes c.in_ok-turn_lagging-2.ensures.goes
