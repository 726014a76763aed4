use Rattle.std.proofs.Common.{◌≡◌}
use Rattle.of_mem.specs.OnDemand.{RunGoesOn, HasOnlyRead}
use Rattle.of_mem.specs.Walks.{HasCome}
use Rattle.of_mem.specs.declared.walk.Sought.TheVariants.{LeastFrom}
use Rattle.of_order.proofs.pass_bucket.Given as goal

abbrev pub invariant-loop-step : goal.invariant-loop-step
invariant-loop-step g l = record {
  same : HasOnlyRead (g.C.Cells.run l.fn.cells).part (g.C.Cells.run l.cells).part;
  goes : RunGoesOn (g.C.Cells.run l.fn.cells) (g.C.Cells.run l.cells);
  came : HasCome l.plot (LeastFrom l.low) (g.C.Cells.run l.cells).part l.here;
  bucket : l.here.bucket ≡ l.fn.start.bucket;
  passed : l.here.passed ≡ l.step;
}
