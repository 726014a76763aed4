use Rattle.of_play.proofs.PlaysMoments.{playable}
use Rattle.of_play.proofs.PlaysSchedule.{play_is_schedule}
use Rattle.of_play.proofs.laws.plans_have_schedules.Goals as goal

pub returns : goal.returns
returns c = let laws = c.plan_keeps_laws.ensures in play_is_schedule c.args.plan.now (playable c.args.plan.now laws.plan laws.laws laws.moments laws.zeros)
