use Rattle.of_mem.specs.OnDemand.{HasOnlyRead}
use Rattle.of_eval.proofs.Answering.{HasAnswered}
use Rattle.of_eval.proofs.read.read_words.Given as goal

abbrev pub invariant-loop-i : goal.invariant-loop-i
invariant-loop-i g l = record {
  part : HasOnlyRead (g.C.Cells.run l.fn.cells).part (g.C.Cells.run l.cells).part;
  answered : HasAnswered l.fn.plot l.fn.op l.i (g.C.Cells.run l.fn.cells) (g.C.Cells.run l.cells) l.out.shape l.out.values;
}
