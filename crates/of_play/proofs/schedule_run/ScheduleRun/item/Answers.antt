use Rattle.std.proofs.Common.{sym, subst, OnOk}
use Rattle.of_plan.specs.declared.plan.Item.{Item}
use Rattle.of_play.specs.Play.{item_events}
use Rattle.of_play.specs.ScheduleRun.{MakesMoves}
use Rattle.of_play.proofs.PlaysMoments.{playable}
use Rattle.of_play.proofs.PlaysMoves.{evict_goes_on}
use Rattle.of_play.proofs.schedule_run.ScheduleRun.item.Goals as goal

pub returns-in-Turns : goal.returns-in-Turns
returns-in-Turns c = subst (λ (i : Item). OnOk c.turns.result (MakesMoves c.args.plan.now (item_events i) c.args.self.now c.turns.new.self)) (sym c.in-Turns.is) c.turns.ensures

pub returns-in-Evict : goal.returns-in-Evict
returns-in-Evict c = evict_goes_on c.args.plan.now (playable c.args.plan.now c.requires.playing.plan c.plan_keeps_laws.ensures.laws c.plan_keeps_laws.ensures.moments c.plan_keeps_laws.ensures.zeros) c.args.item c.in-Evict.cell c.in-Evict.is c.requires.item c.args.self.now c.evict.new.self c.evict.ensures
