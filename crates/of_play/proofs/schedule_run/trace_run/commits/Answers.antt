use Rattle.std.proofs.Common.{arith, refl, ap, ◌∙◌}
use Rattle.of_play.proofs.PlaysEnds.{items_all}
use Rattle.of_play.proofs.TracesFurther.{trace_begins, trace_items_more, commits_end}
use Rattle.of_play.proofs.schedule_run.trace_run.commits.Goals as goal

pub loop-item-init : goal.loop-item-init
loop-item-init c = (refl, refl, refl, trace_begins c.args.plan.now _ refl c.in_ok-new.ensures.stands (let e = c.new-2.ensures in cc))

pub item-requires-clause-tracing : goal.item-requires-clause-tracing
item-requires-clause-tracing c = let i = c.loop-item.invariant in record { plan = c.new.ensures.plan; first = omega (arith, i.1, i.2); moves = _; stands = i.3 }

pub loop-item-preserved : goal.loop-item-preserved
loop-item-preserved c =
    let i = c.loop-item.invariant in
    let t = c.in_ok-item.ensures in
    (t.form ∙ i.0, t.first ∙ i.1, t.end ∙ i.2, trace_items_more c.args.plan.now c.schedule-item-items.result.now c.schedule-item-items.ensures.value c.loop-item.item-index _ c.loop-item.tracing c.item.new.self (omega arith) t i.3)

pub returns : goal.returns
returns c =
    let i = c.loop-item.invariant in
    ap (λ v. v.items) c.into_bytes.ensures.value ∙ commits_end c.args.plan.now c.args.count c.loop-item.tracing _ (items_all c.args.plan.now c.schedule-item-items.result.now c.schedule-item-items.ensures.value c.loop-item.item-index c.loop-item-test.false) i.0 i.1 i.2 i.3
