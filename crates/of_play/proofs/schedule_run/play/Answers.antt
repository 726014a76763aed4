use Rattle.std.proofs.Common.{List, arith, subst, ap}
use Rattle.std.proofs.lemmas.Result.{IfOk-weaker}
use Rattle.of_core.specs.Events.{Event}
use Rattle.of_caller.specs.Tables.{opening_for}
use Rattle.of_caller.specs.Left.{IsLeftBy}
use Rattle.of_play.specs.Play.{events_from}
use Rattle.of_play.proofs.PlaysEnds.{items_more, items_all}
use Rattle.of_play.proofs.schedule_run.play.Goals as goal

pub item-requires-clause-playing : goal.item-requires-clause-playing
item-requires-clause-playing c = record { plan = c.new.ensures.plan; events = _; stands = c.loop-item.invariant }

pub loop-item-preserved : goal.loop-item-preserved
loop-item-preserved c = items_more c.args.plan.now c.schedule-item-items.result.now c.schedule-item-items.ensures.value c.loop-item.item-index _ c.loop-item.playing c.item.new.self (omega arith) c.in_ok-item.ensures c.loop-item.invariant

pub end-requires : goal.end-requires
end-requires c = record { plan = c.new.ensures.plan; events = _; stands = c.loop-item.invariant }

pub returns-clause-played : goal.returns-clause-played
returns-clause-played c =
    let p = c.args.plan.now in
    let all = items_all p c.schedule-item-items.result.now c.schedule-item-items.ensures.value c.loop-item.item-index c.loop-item-test.false in
    IfOk-weaker c.end.result _ _ (λ ended leaves. subst (λ (es : List Event). IsLeftBy p es ended) (ap (events_from p (opening_for p)) all) (leaves _ c.loop-item.invariant)) c.end.ensures
