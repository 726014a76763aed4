use Rattle.of_caller.proofs.StopSteps.{keeps_left}
use Rattle.of_caller.proofs.team_caller.run_counted.Goals as goal

pub returns-clause-told : goal.returns-clause-told
returns-clause-told g c = keeps_left _ _ _ _ c.requires.ready.none c.make_calls-lane.ensures.stop
