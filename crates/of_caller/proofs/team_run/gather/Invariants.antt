use Rattle.std.proofs.Common.{◌≡◌, ◌+◌, ◌≤◌, ◌++◌, map, vec_len, vec_capacity}
use Rattle.std.specs.List.{AllByRecursion as Each}
use Rattle.of_row.specs.Rows.{IsSeatOf}
use Rattle.of_caller.specs.Seating.{IsAt, gathered, answers_in, endings_in}
use Rattle.of_caller.proofs.team_run.gather.Given as goal

abbrev pub decreases-loop-lanes : goal.decreases-loop-lanes
decreases-loop-lanes g l = vec_len l.lanes

abbrev pub invariant-loop-lanes : goal.invariant-loop-lanes
invariant-loop-lanes g l = record {
  pass : IsSeatOf l.row l.pass.seat;
  lanes : Each (IsAt l.row) l.lanes.items;
  answers_room : vec_len l.all + vec_len l.lanes ≤ vec_capacity l.all;
  endings_room : vec_len l.endings + vec_len l.lanes ≤ vec_capacity l.endings;
  view : gathered l.pass.seat.me.0 l.lanes.items ≡ gathered l.initial.pass.seat.me.0 l.initial.lanes.items;
  answers : map (λ v. v.items) l.all.items ++ answers_in l.lanes.items ≡ map (λ v. v.items) l.initial.all.items ++ answers_in l.initial.lanes.items;
  endings : l.endings.items ++ endings_in l.lanes.items ≡ l.initial.endings.items ++ endings_in l.initial.lanes.items;
}
