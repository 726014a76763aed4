use Rattle.of_caller.specs.PlanLaws.{HasTableLaws, KeepsLaws}
use Rattle.of_caller.proofs.PlansKeepLaws.{at_plan}
use Rattle.of_caller.proofs.LastOutcomes.{events_lead_last, machines_hold_last}
use Rattle.of_caller.proofs.Schedules.{schedules_are_moments, starts_are_runs}
use Rattle.of_caller.proofs.StoresZeros.{zeros_are_empty}
use Rattle.of_caller.proofs.laws.plan_keeps_laws.Goals as goal

kept : (c : goal.After-machines) → KeepsLaws c.args.plan.now
kept c =
    at_plan c.args.plan.now c.of_plan-scripts.result.callers c.of_plan-scripts.result.blocks c.limit-limit.result c.of_plan-scripts.ensures.callers c.of_plan-scripts.ensures.blocks c.limit-limit.ensures.value HasTableLaws
    (record {
      starts = c.step_kept.ensures.start;
      events = c.every_moment.ensures.kept;
      schedules = c.every_moment.ensures.runs;
      sound = c.step_kept.ensures.sound;
      beside = c.step_kept.ensures.beside;
      beside_calls = c.calls_kept.ensures.beside;
      finds = c.machines.ensures.finds;
      steps = c.step_kept.ensures.taken;
      moments = c.every_moment.ensures.sound;
      calls = c.every_call.ensures.calls;
      more_calls = c.every_call.ensures.kept;
      turns = c.every_call.ensures.turns;
      more_last = events_lead_last _ _ c.step_kept.ensures.sound c.every_call.ensures.kept;
      last = machines_hold_last _ _ c.step_kept.ensures.sound c.every_call.ensures.kept c.step_kept.ensures.start c.every_moment.ensures.kept c.every_call.ensures.calls;
      words = c.starts.ensures.words;
      zero_start = c.starts.ensures.zeros;
    })

pub returns-clause-laws : goal.returns-clause-laws
returns-clause-laws c = kept c

pub returns-clause-moments : goal.returns-clause-moments
returns-clause-moments c = schedules_are_moments c.args.plan.now c.of_plan-scripts.ensures.plan (kept c)

pub returns-clause-starts : goal.returns-clause-starts
returns-clause-starts c = starts_are_runs c.args.plan.now c.of_plan-scripts.ensures.plan (kept c)

pub returns-clause-zeros : goal.returns-clause-zeros
returns-clause-zeros c = zeros_are_empty c.args.plan.now c.of_plan-scripts.ensures.plan
