use Rattle.std.proofs.Common.{◌-◌}
use Rattle.of_mem.specs.OnDemand.{Always}
use Rattle.of_mem.specs.Places.{bucket_count}
use Rattle.of_mem.specs.Plots.{base}
use Rattle.of_mem.proofs.OnDemand.{ComesTo}
use Rattle.of_order.specs.OrderPrograms.{drop_program, drop_buckets}
use Rattle.of_order.specs.Dropping.{IsDropping}
use Rattle.of_order.proofs.drop_below.Given as goal

abbrev pub invariant-loop-bucket : goal.invariant-loop-bucket
invariant-loop-bucket g l = record {
  came : ComesTo (drop_program (base l.plot) l.plot.blocks l.key) (drop_buckets (base l.plot) l.plot.blocks l.key (bucket_count l.plot.blocks - l.bucket) l.bucket l.gone) (g.C.Cells.run l.fn.cells) (g.C.Cells.run l.cells);
  stands : Always (λ p. IsDropping l.plot p l.key l.bucket l.gone) (g.C.Cells.run l.cells);
}
