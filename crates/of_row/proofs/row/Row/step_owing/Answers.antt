use Rattle.std.proofs.Common.{◌∙◌, ap, sym, true, false}
use Rattle.of_core.specs.Machine.{CallState}
use Rattle.of_core.specs.MachineValue.{Machine, machine_setup}
use Rattle.of_core.specs.OwedRun.{after_run_if}
use Rattle.of_row.specs.Rows.{row_start}
use Rattle.of_row.proofs.Members.{stepped_member, sole_of, made_stands, run_made}
use Rattle.of_row.proofs.Turns.{goes_on}
use Rattle.of_row.proofs.row.Row.step_owing.Goals as goal

pub invariant_of-member : goal.invariant_of-member
invariant_of-member g c =
    let h = c.requires.member in
    let t = c.make_step-found in
    let d : Machine _ = c.args.machine.now in
    let b = c.take_owing-owed.result in
    let e : Machine _ = c.take_owing-owed.new.self in
    let took = c.take_owing-owed.ensures.after ∙ ap (λ (it : CallState). record d { call = it }) (goes_on (machine_setup g.W.Work.meaning d) d.call t.result c.args.place c.requires.here) in
    let m = stepped_member g.W.Work.meaning g.W.Work.lawful (row_start g.W.Work.meaning c.args.self.now) d (after_run_if g.W.Work.meaning b e) c.args.member.now.seat.me.0 t.new.seat.me.0 t.result c.args.member.now.number c.made_after-member.result h.0 h.1 h.2 h.3 t.ensures.step took (c.made_after-member.ensures ∙ sym (run_made g.W.Work.meaning b e)) in
    record { keeps = sole_of t.new.seat.me.0.kept c.args.member.now.number c.made_after-member.result m.0 m.1 m.3 m.4 }

pub made_after-member-requires : goal.made_after-member-requires
made_after-member-requires g c = λ later.
    let h = c.requires.member in
    let t = c.make_step-found in
    let d : Machine _ = c.args.machine.now in
    let b = c.take_owing-owed.result in
    let e : Machine _ = c.take_owing-owed.new.self in
    let took = c.take_owing-owed.ensures.after ∙ ap (λ (it : CallState). record d { call = it }) (goes_on (machine_setup g.W.Work.meaning d) d.call t.result c.args.place c.requires.here) in
    let stood = made_stands (machine_setup g.W.Work.meaning d) h.0 d.call h.2 (λ b e. later b (c.requires.here ∙ e)) in
    h.4 ∙ sym (sym (run_made g.W.Work.meaning b e) ∙ ap (λ (m : Machine _). m.call.made) took ∙ t.ensures.step.made ∙ stood)

pub returns-then-owed-clause-member : goal.returns-then-owed-clause-member
returns-then-owed-clause-member g c =
    let h = c.requires.member in
    let t = c.make_step-found in
    let d : Machine _ = c.args.machine.now in
    let e : Machine _ = c.take_owing-owed.new.self in
    let took = c.if-owed.ensures.after ∙ ap (λ (it : CallState). record d { call = it }) (goes_on (machine_setup g.W.Work.meaning d) d.call t.result c.args.place c.requires.here) in
    stepped_member g.W.Work.meaning g.W.Work.lawful (row_start g.W.Work.meaning c.args.self.now) d (after_run_if g.W.Work.meaning true e) c.args.member.now.seat.me.0 t.new.seat.me.0 t.result c.args.member.now.number c.made_after-member.result h.0 h.1 h.2 h.3 t.ensures.step took (c.made_after-member.ensures ∙ sym (run_made g.W.Work.meaning true e))

pub returns-then-owed-clause-step : goal.returns-then-owed-clause-step
returns-then-owed-clause-step g c =
    let h = c.requires.member in
    let t = c.make_step-found in
    let d : Machine _ = c.args.machine.now in
    let e : Machine _ = c.take_owing-owed.new.self in
    let took = c.if-owed.ensures.after ∙ ap (λ (it : CallState). record d { call = it }) (goes_on (machine_setup g.W.Work.meaning d) d.call t.result c.args.place c.requires.here) in
    (t.result, t.ensures.step, took)

pub returns-clause-member : goal.returns-clause-member
returns-clause-member g c =
    let h = c.requires.member in
    let t = c.make_step-found in
    let d : Machine _ = c.args.machine.now in
    let e : Machine _ = c.take_owing-owed.new.self in
    let took = c.if-owed.ensures.after ∙ ap (λ (it : CallState). record d { call = it }) (goes_on (machine_setup g.W.Work.meaning d) d.call t.result c.args.place c.requires.here) in
    stepped_member g.W.Work.meaning g.W.Work.lawful (row_start g.W.Work.meaning c.args.self.now) d (after_run_if g.W.Work.meaning false e) c.args.member.now.seat.me.0 t.new.seat.me.0 t.result c.args.member.now.number c.made_after-member.result h.0 h.1 h.2 h.3 t.ensures.step took (c.made_after-member.ensures ∙ sym (run_made g.W.Work.meaning false e))

pub returns-clause-step : goal.returns-clause-step
returns-clause-step g c =
    let h = c.requires.member in
    let t = c.make_step-found in
    let d : Machine _ = c.args.machine.now in
    let e : Machine _ = c.take_owing-owed.new.self in
    let took = c.if-owed.ensures.after ∙ ap (λ (it : CallState). record d { call = it }) (goes_on (machine_setup g.W.Work.meaning d) d.call t.result c.args.place c.requires.here) in
    (t.result, t.ensures.step, took)
