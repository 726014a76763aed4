use Rattle.of_core.specs.Lagging.{log_word_place}
use Rattle.of_caller.specs.Going.{LagsTo}
use Rattle.of_caller.proofs.caller.Caller.store_log.Given as goal

abbrev pub invariant-loop-at : goal.invariant-loop-at
invariant-loop-at g l = record {
  lags : LagsTo g.W.Work.meaning g.W.Work.lawful g.B.Brake.denials g.B.Brake.left g.B.Brake.answers g.B.Brake.asks l.row l.fn.self l.fn.brake l.fn.steps l.self (log_word_place l.fn.self.machine.call l.at) l.more l.brake l.steps;
}
