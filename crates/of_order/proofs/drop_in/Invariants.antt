use Rattle.std.proofs.Common.{◌-◌}
use Rattle.of_mem.specs.OnDemand.{Always}
use Rattle.of_mem.specs.Plots.{base}
use Rattle.of_mem.proofs.OnDemand.{ComesTo}
use Rattle.of_order.specs.OrderPrograms.{drop_walk, drop_in_program}
use Rattle.of_order.proofs.DropWalks.{Stays}
use Rattle.of_order.proofs.drop_in.Given as goal

abbrev pub invariant-loop-step : goal.invariant-loop-step
invariant-loop-step g l = record {
  came : ComesTo (drop_in_program (base l.plot) l.plot.blocks l.bucket l.key l.fn.gone) (drop_walk (base l.plot) l.key (l.plot.blocks - l.step) l.cell l.pointer l.gone) (g.C.Cells.run l.fn.cells) (g.C.Cells.run l.cells);
  stays : Always (λ p. Stays l.plot p l.key l.bucket l.cell l.pointer l.gone) (g.C.Cells.run l.cells);
}
