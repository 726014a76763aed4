use Rattle.std.proofs.Common.{◌≡◌, ℕ, ◌+◌, ◌<◌, length, Some, inl, inr, false, arith, sym, ap, subst, ◌∙◌}
use Rattle.of_plan.specs.declared.answer.Ending.TheVariants.{Stopped}
use Rattle.of_core.specs.declared.place.Outcome.{Outcome}
use Rattle.of_caller.specs.Ends.{is_spent}
use Rattle.of_play.specs.ScheduleRun.{answers_in, CallerEndsAs}
use Rattle.of_play.proofs.PlaysMoments.{playable}
use Rattle.of_play.proofs.PlaysEnds.{said_is, ends_as_spent, ends_as_stopped}
use Rattle.of_play.proofs.schedule_run.ScheduleRun.ending.Goals as goal

pub returns-in-Spent : goal.returns-in-Spent
returns-in-Spent c =
    let s = c.args.self.now in
    let v = c.index.result.now in
    let here : c.args.caller < length s.answers.items = omega (arith, c.requires.playing.stands.answers, c.requires.caller) in
    let said : c.len.result ≡ length (answers_in s c.args.caller) = said_is (λ v. v.items) s.answers.items c.args.caller v c.len.result here c.index.ensures (c.len.ensures ∙ v.ok.0) in
    ends_as_spent c.args.plan.now (playable c.args.plan.now c.requires.playing.plan c.plan_keeps_laws.ensures.laws c.plan_keeps_laws.ensures.moments c.plan_keeps_laws.ensures.zeros) c.args.caller c.requires.caller s c.len.result _ said (ap length c.scripts.ensures.value) c.if-len-scripts.false c.in-Spent.seq (sym c.answer.ensures ∙ c.in-Some.is ∙ ap Some c.in-Spent.is)

pub returns-in-Answered : goal.returns-in-Answered
returns-in-Answered c =
    let s = c.args.self.now in
    let v = c.index.result.now in
    let here : c.args.caller < length s.answers.items = omega (arith, c.requires.playing.stands.answers, c.requires.caller) in
    let said : c.len.result ≡ length (answers_in s c.args.caller) = said_is (λ v. v.items) s.answers.items c.args.caller v c.len.result here c.index.ensures (c.len.ensures ∙ v.ok.0) in
    let unspent : is_spent (Some c.in-Some.outcome) ≡ false = elim c.in-Answered.is [
      | inl answered ↦ ap (λ (o : Outcome). is_spent (Some o)) answered.4
      | inr lost ↦ ap (λ (o : Outcome). is_spent (Some o)) lost.1
    ] in
    subst (λ (n : ℕ). CallerEndsAs c.args.plan.now c.args.caller s (Stopped (n + 1))) (sym c.steps-asked.ensures)
    (ends_as_stopped c.args.plan.now (playable c.args.plan.now c.requires.playing.plan c.plan_keeps_laws.ensures.laws c.plan_keeps_laws.ensures.moments c.plan_keeps_laws.ensures.zeros) c.args.caller c.requires.caller s c.len.result _ said (ap length c.scripts.ensures.value) c.if-len-scripts.false (ap is_spent (sym c.answer.ensures ∙ c.in-Some.is) ∙ unspent))

pub returns-in_default : goal.returns-in_default
returns-in_default c =
    let s = c.args.self.now in
    let v = c.index.result.now in
    let here : c.args.caller < length s.answers.items = omega (arith, c.requires.playing.stands.answers, c.requires.caller) in
    let said : c.len.result ≡ length (answers_in s c.args.caller) = said_is (λ v. v.items) s.answers.items c.args.caller v c.len.result here c.index.ensures (c.len.ensures ∙ v.ok.0) in
    subst (λ (n : ℕ). CallerEndsAs c.args.plan.now c.args.caller s (Stopped (n + 1))) (sym c.steps-asked.ensures)
    (ends_as_stopped c.args.plan.now (playable c.args.plan.now c.requires.playing.plan c.plan_keeps_laws.ensures.laws c.plan_keeps_laws.ensures.moments c.plan_keeps_laws.ensures.zeros) c.args.caller c.requires.caller s c.len.result _ said (ap length c.scripts.ensures.value) c.if-len-scripts.false (ap is_spent (sym c.answer.ensures ∙ c.in_default.is)))
