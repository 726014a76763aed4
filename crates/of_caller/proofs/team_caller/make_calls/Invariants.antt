use Rattle.std.proofs.Common.{◌≡◌, ◌-◌}
use Rattle.of_caller.specs.Lanes.{LaneAt, TakesStepsOfAnswers}
use Rattle.of_caller.proofs.team_caller.make_calls.Given as goal

abbrev pub invariant-loop-index : goal.invariant-loop-index
invariant-loop-index g l = record {
  ready : LaneAt l.plan l.row l.lane (l.index - l.initial.lane.first);
  gave : TakesStepsOfAnswers ((goal.Brake-dyn g (l.initial.lane.brake.vtable, l.initial.lane.brake.value)).left l.initial.lane.brake.value) ((goal.Brake-dyn g (l.lane.brake.vtable, l.lane.brake.value)).left l.lane.brake.value) l.initial.lane.answers.items l.lane.answers.items;
  same : (l.lane.number ≡ l.initial.lane.number) × (l.lane.first ≡ l.initial.lane.first);
}
