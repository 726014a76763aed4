use Rattle.std.proofs.Common.{◌+◌, ◌<◌, length, subst, arith}
use Rattle.of_core.specs.declared.place.Place.TheVariants.{StoreLog}
use Rattle.of_core.specs.Lagging.{log_word_place}
use Rattle.of_core.specs.Machine.{log_words}
use Rattle.of_core.specs.MachineValue.{Machine}
use Rattle.of_core.proofs.Lagging.{word_left}
use Rattle.of_caller.specs.Going.{LagsTo}
use Rattle.of_caller.proofs.Lagging.{lags_on, lags_denied}
use Rattle.of_caller.proofs.Phases.{on_err}
use Rattle.of_caller.proofs.caller.Caller.store_log.Goals as goal

pub returns-in_err-store_word-clause-denied : goal.returns-in_err-store_word-clause-denied
returns-in_err-store_word-clause-denied g c =
    let self = c.args.self.now in
    let l = c.loop-at in
    let u = c.store_word.new in
    let below : l.at < length (log_words self.machine.call.log) = omega (arith, c.loop-at-test.true, c.log_size-words.ensures.is) in
    on_err c.from_residual.result _
    (lags_denied g.W.Work.meaning g.W.Work.lawful g.B.Brake.denials g.B.Brake.left g.B.Brake.answers g.B.Brake.asks c.args.row.now self l.self u.self (log_word_place self.machine.call l.at) (StoreLog l.at) l.more c.args.brake.now l.brake u.brake c.args.steps.now l.steps u.steps
    l.invariant.lags (word_left self.machine.call l.at below) c.in_err-store_word.ensures.denied)

pub loop-at-preserved : goal.loop-at-preserved
loop-at-preserved g c =
    let self = c.args.self.now in
    let l = c.loop-at in
    let u = c.store_word.new in
    let below : l.at < length (log_words self.machine.call.log) = omega (arith, c.loop-at-test.true, c.log_size-words.ensures.is) in
    record {
      lags = subst (λ (m : Machine g.row.W.Denot). LagsTo g.W.Work.meaning g.W.Work.lawful g.B.Brake.denials g.B.Brake.left g.B.Brake.answers g.B.Brake.asks c.args.row.now self c.args.brake.now c.args.steps.now u.self (log_word_place m.call (l.at + 1)) (l.more + 2) u.brake u.steps) l.invariant.lags.machine
          (lags_on g.W.Work.meaning g.W.Work.lawful g.B.Brake.denials g.B.Brake.left g.B.Brake.answers g.B.Brake.asks c.args.row.now self l.self u.self (log_word_place self.machine.call l.at) (StoreLog l.at) (log_word_place l.self.machine.call (l.at + 1)) l.more (l.more + 2) c.args.brake.now l.brake u.brake c.args.steps.now l.steps u.steps
          l.invariant.lags (word_left self.machine.call l.at below) c.in_ok-store_word.ensures.machine c.in_ok-store_word.ensures.goes);
    }
