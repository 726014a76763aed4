use Rattle.of_caller.specs.Callers.{IsCaller}
use Rattle.of_caller.specs.Going.{HasGone, steps_left}
use Rattle.of_caller.proofs.caller.Caller.go_to_end.Given as goal

abbrev pub decreases-loop-self : goal.decreases-loop-self
decreases-loop-self g l = steps_left g.W.Work.meaning l.self

abbrev pub invariant-loop-self : goal.invariant-loop-self
invariant-loop-self g l = record {
  caller : IsCaller g.W.Work.meaning l.row l.self;
  gone : HasGone g.W.Work.meaning g.W.Work.lawful g.B.Brake.denials g.B.Brake.left g.B.Brake.answers g.B.Brake.asks l.row l.initial.self l.initial.brake l.initial.steps l.self l.brake l.steps;
}
