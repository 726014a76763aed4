use Rattle.std.proofs.Common.{◌∙◌, ◌<◌, length, get_or, take, ap, sym, subst, arith}
use Rattle.of_plan.specs.declared.plan.Item.TheVariants.{Turns}
use Rattle.std.specs.List.{filter_map}
use Rattle.of_caller.specs.Teams.{evicted_by}
use Rattle.of_caller.specs.Seating.{EvictsCells}
use Rattle.of_row.specs.Rows.{IsSeatOf}
use Rattle.of_caller.proofs.team_run.evict_all.Goals.{in-Evict, in_default}
use Rattle.of_caller.proofs.Evictions.{evicts_one, evicts_none}
use Rattle.of_caller.proofs.team_run.evict_all.Goals as goal

pub loop-i-preserved : goal.loop-i-preserved
loop-i-preserved c =
    let items = c.args.plan.now.schedule in
    let i = c.loop-i.i in
    let value = c.schedule-schedule.ensures.value in
    let lt : i < length items = omega (arith, c.loop-i-test.true, ap length value) in
    let inv = c.loop-i.invariant in
    let v0 = c.args.pass.now.seat.me.0 in
    let same = ap (λ l. get_or l i (Turns 0 0)) (sym value) in
    elim c.match-schedule-i.branch [
      | in-Evict w ↦ record {
        pass = subst (λ q. IsSeatOf c.args.row.now q.seat) (sym w.pass-is) w.evict.ensures.row;
        view = evicts_one items i (Turns 0 0) lt w.in-Evict.cell w.evict.ensures.view.0 (same ∙ w.in-Evict.is) v0 c.loop-i.pass.seat.me.0 c.match-schedule-i.pass.seat.me.0 inv.view (ap (λ q. q.seat.me.0) w.pass-is ∙ w.evict.ensures.view.1);
      }
      | in_default w ↦ record {
        pass = subst (λ q. IsSeatOf c.args.row.now q.seat) (sym w.pass-is) inv.pass;
        view = evicts_none items i (Turns 0 0) lt w.in_default.field-0 w.in_default.field-1 (same ∙ w.in_default.is) v0 c.match-schedule-i.pass.seat.me.0 (subst (λ q. EvictsCells (filter_map evicted_by (take i items)) v0 q.seat.me.0) (sym w.pass-is) inv.view);
      }
    ]
