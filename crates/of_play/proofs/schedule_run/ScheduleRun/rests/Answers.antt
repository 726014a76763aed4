use Rattle.std.proofs.Common.{arith, sym, ◌∙◌, rules}
use Rattle.std.proofs.lemmas.Bool.{leb-true}
use Rattle.of_play.proofs.PlaysMoments.{playable}
use Rattle.of_play.proofs.PlaysStand.{spent_stands, done_stands}
use Rattle.of_play.proofs.PlaysResting.{rests}
use Rattle.of_play.proofs.schedule_run.ScheduleRun.rests.Goals as goal

pub is_spent-requires : goal.is_spent-requires
is_spent-requires c = omega (arith, c.requires.playing.stands.callers, c.requires.caller)

pub returns-then-is_spent : goal.returns-then-is_spent
returns-then-is_spent c = λ yes.
    let play = playable c.args.plan.now c.requires.playing.plan c.plan_keeps_laws.ensures.laws c.plan_keeps_laws.ensures.moments c.plan_keeps_laws.ensures.zeros in
    rests c.args.plan.now play c.args.caller c.requires.caller c.args.self.now (c.is_idle.ensures.0 (search rules))
    (λ es st. spent_stands c.args.plan.now play es c.args.self.now st c.args.caller c.requires.caller (sym c.is_spent.ensures ∙ c.if-is_spent.true))

pub returns : goal.returns
returns c = λ yes.
    let play = playable c.args.plan.now c.requires.playing.plan c.plan_keeps_laws.ensures.laws c.plan_keeps_laws.ensures.moments c.plan_keeps_laws.ensures.zeros in
    rests c.args.plan.now play c.args.caller c.requires.caller c.args.self.now (c.is_idle.ensures.0 (search rules))
    (λ es st. done_stands c.args.plan.now play es c.args.self.now st c.args.caller c.requires.caller c.made.result c.made.ensures c.scripts.result.now c.scripts.ensures.value (leb-true _ _ yes))
