use Rattle.of_play.proofs.schedule_run.ScheduleRun.trace_event.Goals as goal

pub returns-in-Events-clause-line : goal.returns-in-Events-clause-line
returns-in-Events-clause-line c = rw c.in-Events.is c.line_event.ensures.line

pub returns-in-Commits-clause-line : goal.returns-in-Commits-clause-line
returns-in-Commits-clause-line c = rw c.in-Commits.is c.commit_event.ensures.line
