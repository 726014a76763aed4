use Rattle.std.proofs.Common.{◌∙◌, ap, arith}
use Rattle.of_mem.specs.Plots.{base}
use Rattle.of_mem.specs.Places.{register_at}
use Rattle.of_eval.proofs.Registers.{adds}
use Rattle.of_eval.proofs.step.add.Goals as goal

pub returns : goal.returns
returns g c =
    adds c.args.plot.now c.args.reg c.args.value (g.C.Cells.run c.args.cells.now) (g.C.Cells.run c.get.new.self) c.register-cell.result c.in_ok-sum.field-0 (c.register-cell.ensures ∙ ap (λ r. register_at (base c.args.plot.now) r) c.from.ensures) c.in_ok-sum.ensures.runs
    (g.C.Cells.run c.set.new.self) (omega (arith, c.if-sum-gt-GREATEST.false)) c.set.ensures
