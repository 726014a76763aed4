use Rattle.std.proofs.Common.{length, ap, sym, subst, refl, arith}
use Rattle.of_brake.specs.Stops.{IsArmedWith}
use Rattle.of_caller.specs.Lanes.{CallerHasAnswered}
use Rattle.of_caller.specs.Seating.{done_at}
use Rattle.of_caller.proofs.RowStarts.{done_is}
use Rattle.of_caller.proofs.Seated.{seated_more, new_caller}
use Rattle.of_caller.proofs.enrolling.enrol_one.Goals as goal

pub overflow_sub-scripts : goal.overflow_sub-scripts
overflow_sub-scripts g c =
    let start = c.requires.row.start in
    let done = done_is c.args.plan.now c.args.row.now c.requires.row.row start.0 start.1 c.args.number c.requires.number in
    omega (arith, c.done-first.ensures, done, start.2 c.args.number c.requires.number, ap length c.scripts.ensures.value)

pub unreachable-requires : goal.unreachable-requires
unreachable-requires g c = let b = c.requires.seated.below c.args.number c.in_default.ensures.refused.2 in omega (arith, b)

pub returns-in-Ok-new-clause-seated : goal.returns-in-Ok-new-clause-seated
returns-in-Ok-new-clause-seated g c = let e = c.in-Ok.ensures.enrolled in seated_more c.args.number e.found c.args.pass.seat.me.0 c.in-Ok.pass.seat.me.0 c.requires.seated e.pass_is

pub returns-in-Ok-new-clause-lane : goal.returns-in-Ok-new-clause-lane
returns-in-Ok-new-clause-lane g c =
    let p = c.args.plan.now in
    let r = c.args.row.now in
    let n = c.args.number in
    let start = c.requires.row.start in
    let done = done_is p r c.requires.row.row start.0 start.1 n c.requires.number in
    let few = start.2 n c.requires.number in
    let new = c.in-Ok-new.ensures in
    let at = new_caller p r n c.args.pass c.in-Ok.member c.in-Ok.pass c.in-Ok.ensures.enrolled c.in-Ok-new.caller new.caller new.member new.idle new.made in
    let many = ap length c.scripts.ensures.value in
    record {
      item = _;
      is = c.push_within_capacity.ensures.items;
      holds = (
        record {
          ready = record {
            at_first = record {
              lane = record { number = c.requires.number; first = omega (arith, c.done-first.ensures, done, few); room = omega (arith, c.in_ok-answers.ensures.capacity, many) };
              caller = subst (λ k. CallerHasAnswered p k n r c.in-Ok-new.caller c.in_ok-answers.answers.items 0) (sym c.done-first.ensures) (subst (λ l. CallerHasAnswered p (done_at r n) n r c.in-Ok-new.caller l 0) (sym c.in_ok-answers.ensures.items) at);
            };
            none = c.in_ok-answers.ensures.items;
          };
          number = refl;
          first = c.done-first.ensures;
        },
        (let b = c.args.brake in let a = c.arm.new.brake in
            subst (λ s. IsArmedWith ((goal.Brake-dyn g (b.vtable, b.value)).left b.value) s ((goal.Brake-dyn g (a.vtable, a.value)).left a.value)) c.stop.ensures.value c.arm.ensures),
      );
    }
