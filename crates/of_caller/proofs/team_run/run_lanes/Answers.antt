use Rattle.std.proofs.Common.{subst, sym}
use Rattle.of_caller.specs.Lanes.{IsReady, HasRun, KeepsLeft}
use Rattle.of_caller.proofs.Pairs.{both_map, each_weaker}
use Rattle.of_caller.proofs.team_run.run_lanes.Goals as goal

pub returns : goal.returns
returns g c =
    let row = c.args.row.now in
    let plan = c.args.plan.now in
    both_map _ (λ a b. HasRun plan row a b × KeepsLeft ((goal.Brake-dyn g (a.brake.vtable, a.brake.value)).left a.brake.value) b.answers.items b.ending) c.args.lanes.now c.run_all.new.items
    (λ x y p. subst (λ z. HasRun plan row z y × KeepsLeft ((goal.Brake-dyn g (z.brake.vtable, z.brake.value)).left z.brake.value) y.answers.items y.ending) p.argument_is
    (subst (λ z. HasRun plan row p.argument.now z × KeepsLeft ((goal.Brake-dyn g (p.argument.now.brake.vtable, p.argument.now.brake.value)).left p.argument.now.brake.value) z.answers.items z.ending) p.left p.call))
    c.run_all.ensures

pub run_all-requires-after_bounds : goal.run_all-requires-after_bounds
run_all-requires-after_bounds g c κs within =
    each_weaker (IsReady c.args.plan.now c.args.row.now) _ c.args.lanes.now (λ x ready q is. (c.requires.row, subst (IsReady c.args.plan.now c.args.row.now) (sym is) ready)) c.requires.ready
