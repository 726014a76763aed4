use Rattle.std.proofs.Common.{arith, sym, ◌∙◌, rules}
use Rattle.of_play.proofs.PlaysMoments.{playable}
use Rattle.of_play.proofs.PlaysStand.{spent_stands, busy_stands, done_stands, next_stands}
use Rattle.of_play.proofs.schedule_run.ScheduleRun.begin_next.Goals as goal

pub is_spent-requires : goal.is_spent-requires
is_spent-requires c = omega (arith, c.requires.playing.stands.callers, c.requires.caller)

pub returns-then-is_spent : goal.returns-then-is_spent
returns-then-is_spent c = λ es st.
    spent_stands c.args.plan.now (playable c.args.plan.now c.requires.playing.plan c.plan_keeps_laws.ensures.laws c.plan_keeps_laws.ensures.moments c.plan_keeps_laws.ensures.zeros) es c.args.self.now st c.args.caller c.requires.caller (sym c.is_spent.ensures ∙ c.if-is_spent.true)

pub returns-then-not-is_idle : goal.returns-then-not-is_idle
returns-then-not-is_idle c = λ es st.
    busy_stands c.args.plan.now (playable c.args.plan.now c.requires.playing.plan c.plan_keeps_laws.ensures.laws c.plan_keeps_laws.ensures.moments c.plan_keeps_laws.ensures.zeros) es c.args.self.now st c.args.caller c.requires.caller
    (λ idle. let is_idle = c.is_idle.ensures.1 idle in search rules)

pub returns-then-made-scripts : goal.returns-then-made-scripts
returns-then-made-scripts c = λ es st.
    done_stands c.args.plan.now (playable c.args.plan.now c.requires.playing.plan c.plan_keeps_laws.ensures.laws c.plan_keeps_laws.ensures.moments c.plan_keeps_laws.ensures.zeros) es c.args.self.now st c.args.caller c.requires.caller
    c.made-made.result c.made-made.ensures c.scripts-scripts.result.now c.scripts-scripts.ensures.value (omega arith)

pub returns : goal.returns
returns c = λ es st.
    next_stands c.args.plan.now (playable c.args.plan.now c.requires.playing.plan c.plan_keeps_laws.ensures.laws c.plan_keeps_laws.ensures.moments c.plan_keeps_laws.ensures.zeros) es c.args.self.now st c.args.caller c.requires.caller
    (c.is_idle.ensures.0 (search rules)) (sym c.is_spent.ensures ∙ c.if-is_spent.false)
    c.made-made.result c.made-made.ensures c.scripts-scripts.result.now c.scripts-scripts.ensures.value (omega arith)
    c.index-scripts-made.result c.index-scripts-made.is c.to_words-count.result c.to_words-count.ensures.count _ _ c.to_words-count.ensures.words
    c.begin.new.self c.begin.ensures
