use Rattle.std.proofs.Common.{◌+◌, ◌<◌, length, subst, arith}
use Rattle.of_core.specs.declared.place.Place.TheVariants.{LoadTarget}
use Rattle.of_core.specs.Lagging.{entry_place}
use Rattle.of_core.specs.MachineValue.{Machine}
use Rattle.of_core.proofs.Lagging.{entry_left}
use Rattle.of_caller.specs.Going.{LagsTo}
use Rattle.of_caller.proofs.Lagging.{lags_on, lags_denied}
use Rattle.of_caller.proofs.Phases.{on_err}
use Rattle.of_caller.proofs.caller.Caller.apply_log.Goals as goal

pub returns-in_err-more-clause-denied : goal.returns-in_err-more-clause-denied
returns-in_err-more-clause-denied g c =
    let self = c.args.self.now in
    let l = c.loop-entry in
    let u = c.bring.new in
    let below : l.entry < length self.machine.call.log = omega (arith, c.loop-entry-test.true, c.log_entries-entries.ensures.is) in
    on_err c.from_residual.result _
    (lags_denied g.W.Work.meaning g.W.Work.lawful g.B.Brake.denials g.B.Brake.left g.B.Brake.answers g.B.Brake.asks c.args.row.now self l.self u.self (entry_place self.machine.call l.entry) (LoadTarget l.entry) l.more c.args.brake.now l.brake u.brake c.args.steps.now l.steps u.steps
    l.invariant.lags (entry_left self.machine.call l.entry below) c.in_err-more.ensures.denied)

pub loop-entry-preserved : goal.loop-entry-preserved
loop-entry-preserved g c =
    let self = c.args.self.now in
    let l = c.loop-entry in
    let u = c.bring.new in
    let k = c.in_ok-more.more in
    let below : l.entry < length self.machine.call.log = omega (arith, c.loop-entry-test.true, c.log_entries-entries.ensures.is) in
    record {
      lags = subst (λ (m : Machine g.row.W.Denot). LagsTo g.W.Work.meaning g.W.Work.lawful g.B.Brake.denials g.B.Brake.left g.B.Brake.answers g.B.Brake.asks c.args.row.now self c.args.brake.now c.args.steps.now u.self (entry_place m.call (l.entry + 1)) k u.brake u.steps) l.invariant.lags.machine
          (lags_on g.W.Work.meaning g.W.Work.lawful g.B.Brake.denials g.B.Brake.left g.B.Brake.answers g.B.Brake.asks c.args.row.now self l.self u.self (entry_place self.machine.call l.entry) (LoadTarget l.entry) (entry_place l.self.machine.call (l.entry + 1)) l.more k c.args.brake.now l.brake u.brake c.args.steps.now l.steps u.steps
          l.invariant.lags (entry_left self.machine.call l.entry below) c.in_ok-more.ensures.machine c.in_ok-more.ensures.goes);
    }
