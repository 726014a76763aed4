use Rattle.test_cells.proofs.three_callers.Schedules.{by_time, otherwise}
use Rattle.test_cells.proofs.three_callers.real_time_decides.Goals as goal

pub returns-clause-in_turn : goal.returns-clause-in_turn
returns-clause-in_turn c = by_time

pub returns-clause-overlapping : goal.returns-clause-overlapping
returns-clause-overlapping c = otherwise
