use Rattle.of_row.specs.Rows.{row_start}
use Rattle.of_row.proofs.Lagging.{led, sole, stands}
use Rattle.of_row.proofs.row.Row.step_lagging.Goals as goal

pub invariant_of-member : goal.invariant_of-member
invariant_of-member g c =
    let t = c.make_lagging-found in
    record { keeps = sole g.W.Work.meaning g.W.Work.lawful (row_start g.W.Work.meaning c.args.self.now) c.args.machine.now c.args.place c.args.more c.args.member.now t.new.seat.me.0 t.result c.requires.member c.requires.lags.later t.ensures.step }

pub returns-clause-member : goal.returns-clause-member
returns-clause-member g c =
    let t = c.make_lagging-found in
    stands g.W.Work.meaning g.W.Work.lawful (row_start g.W.Work.meaning c.args.self.now) c.args.machine.now c.args.place c.args.more c.args.member.now t.new.seat.me.0 t.result c.requires.member c.requires.lags.later t.ensures.step

pub returns-clause-step : goal.returns-clause-step
returns-clause-step g c =
    let t = c.make_lagging-found in
    (t.result, t.ensures.step, led g.W.Work.meaning g.W.Work.lawful (row_start g.W.Work.meaning c.args.self.now) c.args.machine.now c.args.place c.args.more c.args.member.now t.new.seat.me.0 t.result c.requires.member c.requires.lags.later t.ensures.step)
