use Rattle.std.proofs.Common.{List, ℕ, Option, ◌++◌, ◌<◌, ◌-◌, ◌∙◌, ap, arith, sym, subst}
use Rattle.std.specs.Prelude.{string_bytes, IfSome}
use Rattle.std.proofs.lemmas.Result.{on_ok_weaker}
use Rattle.of_eval.specs.Scripts.{scripts_meaning}
use Rattle.of_core.specs.declared.place.Outcome.{Outcome}
use Rattle.of_core.specs.Table.{Setup}
use Rattle.of_caller.specs.Ends.{OutcomeHoldsReply}
use Rattle.of_core.specs.Moment.{bank_setup, table_word_count, machine_of}
use Rattle.of_play.specs.TraceLine.{step_line}
use Rattle.of_play.proofs.PlaysMoments.{playable}
use Rattle.of_play.proofs.TraceTurns.{turn_on, turned, rests, steps, held, read_is}
use Rattle.of_play.proofs.schedule_run.ScheduleRun.trace_turn.Goals as goal

pub returns-then-is_idle-clause-goes : goal.returns-then-is_idle-clause-goes
returns-then-is_idle-clause-goes c =
    let p = c.args.plan.now in
    let plan = playable p c.requires.playing.plan c.plan_keeps_laws.ensures.laws c.plan_keeps_laws.ensures.moments c.plan_keeps_laws.ensures.zeros in
    on_ok_weaker c.put_rest.result
    (λ e. turn_on p plan c.args.caller c.requires.caller c.args.self.now c.begin_next.new.self c.turn.new.self c.begin_next.ensures c.in_ok-turn.ensures)
    c.put_rest.ensures

pub returns-then-is_idle-clause-line : goal.returns-then-is_idle-clause-line
returns-then-is_idle-clause-line c =
    let p = c.args.plan.now in
    let plan = playable p c.requires.playing.plan c.plan_keeps_laws.ensures.laws c.plan_keeps_laws.ensures.moments c.plan_keeps_laws.ensures.zeros in
    on_ok_weaker c.put_rest.result
    (λ e es st. e ∙ ap (λ (xs : List ℕ). string_bytes c.args.text.now ++ xs)
    (rests p plan c.args.caller c.requires.caller c.args.self.now c.begin_next.new.self c.turn.new.self c.begin_next.ensures c.in_ok-turn.ensures es st c.args.number (c.is_idle.ensures.0 c.if-is_idle.true)))
    c.put_rest.ensures

pub turn-requires-2-clause-playing : goal.turn-requires-2-clause-playing
turn-requires-2-clause-playing c =
    let r = c.requires.playing in
    record { plan = r.plan; events = _; stands = c.begin_next.ensures r.events r.stands }

pub word-left-requires : goal.word-left-requires
word-left-requires c =
    let p = c.args.plan.now in
    let r = c.requires.playing in
    let plan = playable p r.plan c.plan_keeps_laws.ensures.laws c.plan_keeps_laws.ensures.moments c.plan_keeps_laws.ensures.zeros in
    let before = c.begin_next.ensures r.events r.stands in
    let after = turned p plan c.args.caller c.requires.caller c.args.self.now c.begin_next.new.self c.turn-2.new.self c.begin_next.ensures c.in_ok-turn-2.ensures r.events r.stands in
    subst (λ (T : Setup). c.word_of-word.result < table_word_count T) (before.table ∙ sym after.table) (omega (arith, c.want-op.ensures.range, c.word_of-word.ensures))

pub answer-requires : goal.answer-requires
answer-requires c =
    let p = c.args.plan.now in
    let r = c.requires.playing in
    let plan = playable p r.plan c.plan_keeps_laws.ensures.laws c.plan_keeps_laws.ensures.moments c.plan_keeps_laws.ensures.zeros in
    let after = turned p plan c.args.caller c.requires.caller c.args.self.now c.begin_next.new.self c.turn-2.new.self c.begin_next.ensures c.in_ok-turn-2.ensures r.events r.stands in
    omega (arith, after.callers, c.requires.caller)

pub put_step-requires : goal.put_step-requires
put_step-requires c =
    let p = c.args.plan.now in
    let r = c.requires.playing in
    let plan = playable p r.plan c.plan_keeps_laws.ensures.laws c.plan_keeps_laws.ensures.moments c.plan_keeps_laws.ensures.zeros in
    subst (λ (o : Option Outcome). IfSome o OutcomeHoldsReply) (sym c.answer.ensures)
    (held p plan c.args.caller c.requires.caller c.args.self.now c.begin_next.new.self c.turn-2.new.self c.begin_next.ensures c.in_ok-turn-2.ensures r.events r.stands c.args.number c.runs_are_lawful.ensures.replies (λ idle. let e = c.is_idle.ensures.1 idle in cc))

pub returns-clause-goes : goal.returns-clause-goes
returns-clause-goes c =
    let p = c.args.plan.now in
    let plan = playable p c.requires.playing.plan c.plan_keeps_laws.ensures.laws c.plan_keeps_laws.ensures.moments c.plan_keeps_laws.ensures.zeros in
    on_ok_weaker c.put_step.result
    (λ e. turn_on p plan c.args.caller c.requires.caller c.args.self.now c.begin_next.new.self c.turn-2.new.self c.begin_next.ensures c.in_ok-turn-2.ensures)
    c.put_step.ensures

pub returns-clause-line : goal.returns-clause-line
returns-clause-line c =
    let p = c.args.plan.now in
    let plan = playable p c.requires.playing.plan c.plan_keeps_laws.ensures.laws c.plan_keeps_laws.ensures.moments c.plan_keeps_laws.ensures.zeros in
    on_ok_weaker c.put_step.result
    (λ e es st. e ∙ ap (λ (xs : List ℕ). string_bytes c.args.text.now ++ xs)
    (ap (λ s. step_line p c.args.number s)
    (read_is c.args.caller (bank_setup scripts_meaning c.begin_next.new.self.bank) (machine_of c.begin_next.new.self.bank c.args.caller) (machine_of c.turn-2.new.self.bank c.args.caller) c.begin_next.new.self.bank.words c.turn-2.new.self.bank.words _ _ _ _ _ _ _ _
    (c.saturating_sub-index.ensures ∙ ap (λ (n : ℕ). n - 1) c.made.ensures) c.place-place.ensures c.want-op.ensures.value c.helped-helps.ensures c.word_of-word.ensures c.word-found.ensures c.word-left.ensures c.answer.ensures)
    ∙ steps p plan c.args.caller c.requires.caller c.args.self.now c.begin_next.new.self c.turn-2.new.self c.begin_next.ensures c.in_ok-turn-2.ensures es st c.args.number (λ idle. let e = c.is_idle.ensures.1 idle in cc)))
    c.put_step.ensures
