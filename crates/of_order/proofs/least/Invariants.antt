use Rattle.std.proofs.Common.{◌≤◌}
use Rattle.of_mem.specs.OnDemand.{RunGoesOn, HasOnlyRead}
use Rattle.of_mem.specs.Places.{bucket_count}
use Rattle.of_mem.specs.Plots.{base}
use Rattle.of_mem.specs.Walks.{WeighsBuckets}
use Rattle.of_order.proofs.least.Given as goal

abbrev pub invariant-loop-bucket : goal.invariant-loop-bucket
invariant-loop-bucket g l = record {
  same : HasOnlyRead (g.C.Cells.run l.fn.cells).part (g.C.Cells.run l.cells).part;
  goes : RunGoesOn (g.C.Cells.run l.fn.cells) (g.C.Cells.run l.cells);
  few : l.bucket ≤ bucket_count l.plot.blocks;
  passed : WeighsBuckets (base l.plot) l.plot.blocks l.low (g.C.Cells.run l.cells).part l.bucket l.best;
}
