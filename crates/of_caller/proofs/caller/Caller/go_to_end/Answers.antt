use Rattle.std.proofs.Common.{◌∙◌, sym, subst, arith, rules, le_trans, ℕ, ◌+◌, ◌-◌}
use Rattle.of_caller.specs.Brakes.{AskedFor, StopsWhenToldUsedUp}
use Rattle.of_caller.proofs.Phases.{gone_none, told_stop, asked_is, asked_more_than, asked_fits}
use Rattle.of_caller.proofs.BrakeCharges.{gave_same, asked_more, stopped_at, denied_same, risen_from}
use Rattle.of_caller.proofs.caller.Caller.go_to_end.Goals as goal

pub loop-self-init : goal.loop-self-init
loop-self-init g c = record {
  caller = c.requires.caller;
  gone = gone_none g.W.Work.meaning g.W.Work.lawful g.B.Brake.denials g.B.Brake.left g.B.Brake.answers g.B.Brake.asks c.args.row.now c.args.self.now c.args.brake.now c.args.steps.now (search rules);
}

pub go_far-requires-clause-op : goal.go_far-requires-clause-op
go_far-requires-clause-op g c = c.requires.op ∙ sym c.loop-self.invariant.gone.progress.op

pub overflow_sub-asked : goal.overflow_sub-asked
overflow_sub-asked g c =
    let q = c.in_default.ensures.denied c.args.self.now c.args.brake.now c.args.steps.now c.loop-self.invariant.gone in
    asked_more_than g.W.Work.meaning g.W.Work.lawful g.B.Brake.denials g.B.Brake.left g.B.Brake.answers g.B.Brake.asks c.args.row.now c.args.self.now c.args.brake.now c.args.steps.now c.go_far.new.self c.go_far.new.brake c.go_far.new.steps c.steps.result c.steps-before.result q c.steps.ensures c.steps-before.ensures

pub overflow_add-asked : goal.overflow_add-asked
overflow_add-asked g c =
    let q = c.in_default.ensures.denied c.args.self.now c.args.brake.now c.args.steps.now c.loop-self.invariant.gone in
    let row = c.args.row.now in
    omega (arith, asked_fits g.W.Work.meaning g.W.Work.lawful g.B.Brake.denials g.B.Brake.left g.B.Brake.answers g.B.Brake.asks c.args.row.now c.args.self.now c.args.brake.now c.args.steps.now c.go_far.new.self c.go_far.new.brake c.go_far.new.steps c.steps.result c.steps-before.result q c.steps.ensures (omega (arith, row.key.0, row.sizes.shape.few_callers)) (omega (arith, row.key.1, row.sizes.shape.few_cells)))

pub returns-in_default-clause-told : goal.returns-in_default-clause-told
returns-in_default-clause-told g c =
    let q = c.in_default.ensures.denied c.args.self.now c.args.brake.now c.args.steps.now c.loop-self.invariant.gone in
    told_stop g.W.Work.meaning g.W.Work.lawful g.B.Brake.denials g.B.Brake.left g.B.Brake.answers g.B.Brake.asks c.args.row.now c.args.self.now c.args.brake.now c.args.steps.now c.go_far.new.self c.go_far.new.brake c.go_far.new.steps (c.steps.result - c.steps-before.result + 1) q (asked_is g.W.Work.meaning g.W.Work.lawful g.B.Brake.denials g.B.Brake.left g.B.Brake.answers g.B.Brake.asks c.args.row.now c.args.self.now c.args.brake.now c.args.steps.now c.go_far.new.self c.go_far.new.brake c.go_far.new.steps c.steps.result c.steps-before.result q c.steps.ensures c.steps-before.ensures)

pub returns-in_default-clause-denials : goal.returns-in_default-clause-denials
returns-in_default-clause-denials g c =
    let q = c.in_default.ensures.denied c.args.self.now c.args.brake.now c.args.steps.now c.loop-self.invariant.gone in
    le_trans q.gone.denied q.denied

pub returns-in_default-clause-cause : goal.returns-in_default-clause-cause
returns-in_default-clause-cause g c =
    let q = c.in_default.ensures.denied c.args.self.now c.args.brake.now c.args.steps.now c.loop-self.invariant.gone in
    λ _. risen_from _ _ _ q.gone.denied q.cause

pub returns-in_default-clause-stop : goal.returns-in_default-clause-stop
returns-in_default-clause-stop g c =
    let q = c.in_default.ensures.denied c.args.self.now c.args.brake.now c.args.steps.now c.loop-self.invariant.gone in
    subst (λ (n : ℕ). StopsWhenToldUsedUp (g.B.Brake.left c.args.brake.now) n) (sym (asked_is g.W.Work.meaning g.W.Work.lawful g.B.Brake.denials g.B.Brake.left g.B.Brake.answers g.B.Brake.asks c.args.row.now c.args.self.now c.args.brake.now c.args.steps.now c.go_far.new.self c.go_far.new.brake c.go_far.new.steps c.steps.result c.steps-before.result q c.steps.ensures c.steps-before.ensures)) (stopped_at _ _ _ q.gone.count q.gone.uses q.charges)

pub returns-in_default-clause-left : goal.returns-in_default-clause-left
returns-in_default-clause-left g c =
    let q = c.in_default.ensures.denied c.args.self.now c.args.brake.now c.args.steps.now c.loop-self.invariant.gone in
    (q.gone.count, q.gone.steps, gave_same _ _ _ q.gone.count q.gone.uses (denied_same _ _ q.charges))

pub returns-in_default-clause-answers : goal.returns-in_default-clause-answers
returns-in_default-clause-answers g c =
    let q = c.in_default.ensures.denied c.args.self.now c.args.brake.now c.args.steps.now c.loop-self.invariant.gone in
    q.heard ∙ q.gone.heard

pub returns-in_default-clause-asks : goal.returns-in_default-clause-asks
returns-in_default-clause-asks g c =
    let q = c.in_default.ensures.denied c.args.self.now c.args.brake.now c.args.steps.now c.loop-self.invariant.gone in
    subst (λ (n : ℕ). AskedFor (g.B.Brake.asks c.args.brake.now) (g.B.Brake.asks c.go_far.new.brake) n) (sym (asked_is g.W.Work.meaning g.W.Work.lawful g.B.Brake.denials g.B.Brake.left g.B.Brake.answers g.B.Brake.asks c.args.row.now c.args.self.now c.args.brake.now c.args.steps.now c.go_far.new.self c.go_far.new.brake c.go_far.new.steps c.steps.result c.steps-before.result q c.steps.ensures c.steps-before.ensures)) (asked_more _ _ _ q.gone.count q.gone.asked q.asked)
