use Rattle.std.proofs.Common.{List, ℕ, ◌++◌, ◌∙◌, ap, sym, get_or}
use Rattle.std.specs.Prelude.{string_bytes}
use Rattle.std.proofs.lemmas.List.{append-nil}
use Rattle.std.proofs.lemmas.Result.{on_ok_weaker}
use Rattle.of_play.proofs.PlaysMoments.{playable}
use Rattle.of_play.proofs.TraceTurns.{turn_on, commits_none, commits_are}
use Rattle.of_play.proofs.schedule_run.ScheduleRun.commit_turn.Goals as goal

pub returns-then-is_idle-clause-goes : goal.returns-then-is_idle-clause-goes
returns-then-is_idle-clause-goes c =
    let p = c.args.plan.now in
    let plan = playable p c.requires.playing.plan c.plan_keeps_laws.ensures.laws c.plan_keeps_laws.ensures.moments c.plan_keeps_laws.ensures.zeros in
    on_ok_weaker c.turn.result
    (λ e. turn_on p plan c.args.caller c.requires.caller c.args.self.now c.begin_next.new.self c.turn.new.self c.begin_next.ensures e)
    c.turn.ensures

pub returns-then-is_idle-clause-line : goal.returns-then-is_idle-clause-line
returns-then-is_idle-clause-line c =
    let p = c.args.plan.now in
    let plan = playable p c.requires.playing.plan c.plan_keeps_laws.ensures.laws c.plan_keeps_laws.ensures.moments c.plan_keeps_laws.ensures.zeros in
    on_ok_weaker c.turn.result
    (λ e es st. sym (ap (λ (xs : List ℕ). string_bytes c.args.text.now ++ xs)
    (commits_none p plan c.args.caller c.requires.caller c.args.self.now c.begin_next.new.self c.turn.new.self c.begin_next.ensures e es st c.args.number (c.is_idle.ensures.0 c.if-is_idle.true))
    ∙ append-nil (string_bytes c.args.text.now)))
    c.turn.ensures

pub turn-requires-2-clause-playing : goal.turn-requires-2-clause-playing
turn-requires-2-clause-playing c =
    let r = c.requires.playing in
    record { plan = r.plan; events = _; stands = c.begin_next.ensures r.events r.stands }

pub returns-clause-goes : goal.returns-clause-goes
returns-clause-goes c =
    let p = c.args.plan.now in
    let plan = playable p c.requires.playing.plan c.plan_keeps_laws.ensures.laws c.plan_keeps_laws.ensures.moments c.plan_keeps_laws.ensures.zeros in
    on_ok_weaker c.turn-2.result
    (λ e. turn_on p plan c.args.caller c.requires.caller c.args.self.now c.begin_next.new.self c.turn-2.new.self c.begin_next.ensures e)
    c.turn-2.ensures

pub returns-clause-line : goal.returns-clause-line
returns-clause-line c =
    let p = c.args.plan.now in
    let plan = playable p c.requires.playing.plan c.plan_keeps_laws.ensures.laws c.plan_keeps_laws.ensures.moments c.plan_keeps_laws.ensures.zeros in
    on_ok_weaker c.turn-2.result
    (λ e es st. c.in_ok-put_commit.ensures ∙ ap (λ (xs : List ℕ). string_bytes c.args.text.now ++ xs)
    (commits_are p plan c.args.caller c.requires.caller c.args.self.now c.begin_next.new.self c.turn-2.new.self c.begin_next.ensures e es st c.args.number _ _ _ _
    c.place-stands.ensures c.want-op.ensures.value (c.word-found.ensures ∙ ap (λ (x : ℕ). get_or c.begin_next.new.self.bank.words x 0) c.word_of.ensures) c.calls-calls.ensures))
    c.turn-2.ensures
