use Rattle.std.proofs.Common.{◌+◌, true, false, sym, ◌∙◌, arith}
use Rattle.of_core.specs.declared.place.Place.TheVariants.{LoadTarget, ExchangeTarget, RaiseTarget}
use Rattle.of_caller.specs.Going.{lagging_caller}
use Rattle.of_caller.proofs.Lagging.{entry_found, entry_stands, entry_brought, on_to_denial}
use Rattle.of_caller.proofs.Phases.{on_err}
use Rattle.of_caller.proofs.caller.Caller.bring.Goals as goal

pub returns-in_err-exchange_entry-clause-denied : goal.returns-in_err-exchange_entry-clause-denied
returns-in_err-exchange_entry-clause-denied g c =
    let self = c.args.self.now in
    let t = c.turn_lagging.new in
    let u = c.exchange_entry.new in
    let e = c.args.entry in
    let f = c.in_ok-found.found in
    let k = c.args.more in
    let first = entry_found g.W.Work.meaning g.W.Work.lawful g.B.Brake.denials g.B.Brake.left g.B.Brake.answers g.B.Brake.asks c.args.row.now self t.self e k f true c.args.brake.now t.brake c.args.steps.now t.steps c.in_ok-found.ensures.machine (sym c.if-is_older.true ∙ c.is_older.ensures) c.in_ok-found.ensures.goes in
    on_err c.from_residual-in_err-exchange_entry.result _
    (on_to_denial g.W.Work.meaning g.W.Work.lawful g.B.Brake.denials g.B.Brake.left g.B.Brake.answers g.B.Brake.asks c.args.row.now (lagging_caller self (LoadTarget e) k) (lagging_caller t.self (ExchangeTarget e f) (k + 1)) u.self c.args.brake.now t.brake u.brake c.args.steps.now t.steps u.steps first c.in_err-exchange_entry.ensures.denied)

pub returns-then-is_older-clause-goes : goal.returns-then-is_older-clause-goes
returns-then-is_older-clause-goes g c =
    let self = c.args.self.now in
    let t = c.turn_lagging.new in
    let u = c.exchange_entry.new in
    let e = c.args.entry in
    let f = c.in_ok-found.found in
    let k = c.args.more in
    let first = entry_found g.W.Work.meaning g.W.Work.lawful g.B.Brake.denials g.B.Brake.left g.B.Brake.answers g.B.Brake.asks c.args.row.now self t.self e k f true c.args.brake.now t.brake c.args.steps.now t.steps c.in_ok-found.ensures.machine (sym c.if-is_older.true ∙ c.is_older.ensures) c.in_ok-found.ensures.goes in
    entry_brought g.W.Work.meaning g.W.Work.lawful g.B.Brake.denials g.B.Brake.left g.B.Brake.answers g.B.Brake.asks c.args.row.now self t.self u.self e f k (k + 1 + 3) (k + 4) c.args.brake.now t.brake u.brake c.args.steps.now t.steps u.steps c.in_ok-found.ensures.machine (omega arith) first c.in_ok-exchange_entry.ensures.goes

pub returns-in_err-turn_lagging-clause-denied : goal.returns-in_err-turn_lagging-clause-denied
returns-in_err-turn_lagging-clause-denied g c =
    let self = c.args.self.now in
    let t = c.turn_lagging.new in
    let u = c.turn_lagging-2.new in
    let e = c.args.entry in
    let f = c.in_ok-found.found in
    let k = c.args.more in
    let first = entry_found g.W.Work.meaning g.W.Work.lawful g.B.Brake.denials g.B.Brake.left g.B.Brake.answers g.B.Brake.asks c.args.row.now self t.self e k f false c.args.brake.now t.brake c.args.steps.now t.steps c.in_ok-found.ensures.machine (sym c.if-is_older.false ∙ c.is_older.ensures) c.in_ok-found.ensures.goes in
    on_err c.from_residual-in_err-turn_lagging.result _
    (on_to_denial g.W.Work.meaning g.W.Work.lawful g.B.Brake.denials g.B.Brake.left g.B.Brake.answers g.B.Brake.asks c.args.row.now (lagging_caller self (LoadTarget e) k) (lagging_caller t.self (RaiseTarget e f) (k + 1)) u.self c.args.brake.now t.brake u.brake c.args.steps.now t.steps u.steps first c.in_err-turn_lagging.ensures.denied)

pub returns-clause-goes : goal.returns-clause-goes
returns-clause-goes g c =
    let self = c.args.self.now in
    let t = c.turn_lagging.new in
    let u = c.turn_lagging-2.new in
    let e = c.args.entry in
    let f = c.in_ok-found.found in
    let k = c.args.more in
    let first = entry_found g.W.Work.meaning g.W.Work.lawful g.B.Brake.denials g.B.Brake.left g.B.Brake.answers g.B.Brake.asks c.args.row.now self t.self e k f false c.args.brake.now t.brake c.args.steps.now t.steps c.in_ok-found.ensures.machine (sym c.if-is_older.false ∙ c.is_older.ensures) c.in_ok-found.ensures.goes in
    entry_stands g.W.Work.meaning g.W.Work.lawful g.B.Brake.denials g.B.Brake.left g.B.Brake.answers g.B.Brake.asks c.args.row.now self t.self u.self (LoadTarget e) e f k (k + 1) (k + 2) c.in_ok-turn_lagging.field-0 c.args.brake.now t.brake u.brake c.args.steps.now t.steps u.steps first c.in_ok-found.ensures.machine c.in_ok-turn_lagging.ensures.machine (omega arith) c.in_ok-turn_lagging.ensures.goes
