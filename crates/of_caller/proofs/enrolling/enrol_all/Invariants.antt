use Rattle.std.proofs.Common.{◌≡◌, ◌+◌, ◌≤◌, ◌++◌, length, vec_len, vec_capacity}
use Rattle.of_brake.specs.Stops.{IsArmedWith}
use Rattle.of_plan.specs.Plan.{stop_of}
use Rattle.of_row.specs.Rows.{IsSeatOf}
use Rattle.of_caller.specs.Trees.{PrefixPaired}
use Rattle.of_caller.specs.Seating.{HasSeated, Seated}
use Rattle.of_caller.proofs.enrolling.enrol_all.Given as goal

abbrev pub invariant-loop-number : goal.invariant-loop-number
invariant-loop-number g l = record {
  pass : IsSeatOf l.row l.pass.seat;
  seated : HasSeated l.number l.pass.seat.me.0;
  lanes : Seated l.plan l.row 0 l.lanes.items;
  count : length l.lanes.items ≡ l.number;
  room : l.plan.callers ≤ vec_capacity l.lanes;
  brakes : l.plan.callers ≤ l.number + vec_len l.brakes;
  armed : (front : _) × (front ++ l.brakes.items ≡ l.initial.brakes.items) × (length front ≡ l.number)
      × PrefixPaired (λ b a. IsArmedWith ((goal.Brake-dyn g (b.vtable, b.value)).left b.value) (stop_of l.plan a.number) ((goal.Brake-dyn g (a.brake.vtable, a.brake.value)).left a.brake.value)) front l.lanes.items;
}
