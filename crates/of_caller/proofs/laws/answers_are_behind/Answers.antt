use Rattle.of_caller.proofs.Behind.{comes_behind, ends_first}
use Rattle.of_caller.proofs.laws.answers_are_behind.Goals as goal

pub returns-clause-behind : goal.returns-clause-behind
returns-clause-behind g c = comes_behind g.W.Work.meaning g.W.Work.lawful

pub returns-clause-events : goal.returns-clause-events
returns-clause-events g c = ends_first g.W.Work.meaning g.W.Work.lawful
