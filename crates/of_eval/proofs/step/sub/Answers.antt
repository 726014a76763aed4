use Rattle.std.proofs.Common.{◌∙◌, ap, arith}
use Rattle.of_mem.specs.Plots.{base}
use Rattle.of_mem.specs.Places.{register_at}
use Rattle.of_eval.proofs.Registers.{takes_off}
use Rattle.of_eval.proofs.step.sub.Goals as goal

pub returns : goal.returns
returns g c =
    takes_off c.args.plot.now c.args.reg c.args.value (g.C.Cells.run c.args.cells.now) (g.C.Cells.run c.get.new.self) c.register-cell.result c.in_ok-before.before (c.register-cell.ensures ∙ ap (λ r. register_at (base c.args.plot.now) r) c.from.ensures) c.in_ok-before.ensures.runs
    (g.C.Cells.run c.set.new.self) (omega (arith, c.if-before-value.false)) c.set.ensures
