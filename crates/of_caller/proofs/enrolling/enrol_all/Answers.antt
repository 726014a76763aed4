use Rattle.std.proofs.Common.{◌≡◌, ◌∙◌, ◌<◌, ◌+◌, ◌++◌, ◌∷◌, [], length, ap, subst, sym, arith}
use Rattle.of_brake.specs.Stops.{IsArmedWith}
use Rattle.of_plan.specs.Plan.{stop_of}
use Rattle.of_caller.specs.Trees.{PrefixPaired}
use Rattle.of_caller.specs.Seating.{HasSeated}
use Rattle.of_caller.proofs.Pairs.{paired_adds, paired_longer, front_longer, longer_by}
use Rattle.of_caller.proofs.Seated.{seated_adds}
use Rattle.of_caller.proofs.enrolling.enrol_all.Goals as goal

pub loop-number-preserved : goal.loop-number-preserved
loop-number-preserved g c =
    let inv = c.loop-number.invariant in
    let p = c.args.plan.now in
    let b = c.remove-brake.result in
    let cut = c.remove-brake.ensures in
    let old = c.loop-number.brakes.items in
    let some : 0 < length old = omega (arith, inv.brakes, c.loop-number-test.true, c.callers-number-end.ensures.value) in
    let one = c.in_ok-pass.ensures.lane in
    let xs = c.loop-number.lanes.items in
    let ys = c.enrol_one.new.lanes.items in
    let count : length ys ≡ length xs + 1 = ap length one.is ∙ longer_by xs one.item in
    let front = inv.armed.0 in
    record {
      pass = c.in_ok-pass.ensures.pass;
      seated = c.in_ok-pass.ensures.seated;
      lanes = seated_adds p c.args.row.now c.loop-number.number xs ys one.item inv.lanes (sym inv.count) one.is one.holds.0;
      count = omega (arith, count, inv.count);
      room = omega (arith, inv.room, c.enrol_one.ensures.room.0);
      brakes = omega (arith, inv.brakes, cut.len, some);
      armed = (
        front ++ b ∷ [],
        front_longer front old c.remove-brake.new.self.items c.args.brakes.items b some cut.value cut.items inv.armed.1,
        omega (arith, longer_by front b, inv.armed.2),
        paired_adds (λ b a. IsArmedWith ((goal.Brake-dyn g (b.vtable, b.value)).left b.value) (stop_of p a.number) ((goal.Brake-dyn g (a.brake.vtable, a.brake.value)).left a.brake.value)) front xs ys b one.item inv.armed.3 (omega (arith, inv.armed.2, inv.count)) one.is
            (subst (λ n. IsArmedWith ((goal.Brake-dyn g (b.vtable, b.value)).left b.value) (stop_of p n) ((goal.Brake-dyn g (one.item.brake.vtable, one.item.brake.value)).left one.item.brake.value)) (sym one.holds.0.number) one.holds.1),
      );
    }

pub returns-clause-seated : goal.returns-clause-seated
returns-clause-seated g c = subst (λ n. HasSeated n c.loop-number.pass.seat.me.0) (omega (arith, c.loop-number-test.false, c.callers-number-end.ensures.value, c.loop-number.auto.number-end)) c.loop-number.invariant.seated

pub returns-clause-armed : goal.returns-clause-armed
returns-clause-armed g c =
    let armed = c.loop-number.invariant.armed in
    subst (λ z. PrefixPaired (λ b a. IsArmedWith ((goal.Brake-dyn g (b.vtable, b.value)).left b.value) (stop_of c.args.plan.now a.number) ((goal.Brake-dyn g (a.brake.vtable, a.brake.value)).left a.brake.value)) z c.loop-number.lanes.items) armed.1
    (paired_longer _ armed.0 c.loop-number.brakes.items c.loop-number.lanes.items armed.3)
