use Rattle.of_core.specs.Lagging.{entry_place}
use Rattle.of_caller.specs.Going.{LagsTo}
use Rattle.of_caller.proofs.caller.Caller.apply_log.Given as goal

abbrev pub invariant-loop-entry : goal.invariant-loop-entry
invariant-loop-entry g l = record {
  lags : LagsTo g.W.Work.meaning g.W.Work.lawful g.B.Brake.denials g.B.Brake.left g.B.Brake.answers g.B.Brake.asks l.row l.fn.self l.fn.brake l.fn.steps l.self (entry_place l.fn.self.machine.call l.entry) l.more l.brake l.steps;
}
