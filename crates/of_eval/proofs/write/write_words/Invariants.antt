use Rattle.of_mem.specs.OnDemand.{Always}
use Rattle.of_eval.specs.Stored.{HasState}
use Rattle.of_eval.proofs.Answering.{HasAnswered}
use Rattle.of_eval.proofs.write.write_words.Given as goal

abbrev pub invariant-loop-i : goal.invariant-loop-i
invariant-loop-i g l = record {
  answered : HasAnswered l.fn.plot l.fn.op l.i (g.C.Cells.run l.fn.cells) (g.C.Cells.run l.cells) l.out.shape l.out.values;
  state : Always (HasState l.fn.plot) (g.C.Cells.run l.cells);
}
