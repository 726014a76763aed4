use Rattle.std.proofs.Common.{take}
use Rattle.std.specs.List.{filter_map}
use Rattle.of_row.specs.Rows.{IsSeatOf}
use Rattle.of_caller.specs.Teams.{evicted_by}
use Rattle.of_caller.specs.Seating.{EvictsCells}
use Rattle.of_caller.proofs.team_run.evict_all.Given as goal

abbrev pub invariant-loop-i : goal.invariant-loop-i
invariant-loop-i l = record {
  pass : IsSeatOf l.row l.pass.seat;
  view : EvictsCells (filter_map evicted_by (take l.i l.plan.schedule)) l.initial.pass.seat.me.0 l.pass.seat.me.0;
}
