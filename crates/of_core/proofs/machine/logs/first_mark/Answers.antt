use Rattle.std.proofs.Common.{◌+◌, ◌-◌, ◌∙◌, arith}
use Rattle.of_core.proofs.Puts.{mark_false, mark_later}
use Rattle.of_core.proofs.machine.logs.first_mark.Goals as goal

pub loop-j-preserved : goal.loop-j-preserved
loop-j-preserved c = c.loop-j.invariant ∙ mark_later c.args.shape c.loop-j.j (c.args.from + c.args.many - c.loop-j.j) (c.args.from + c.args.many - (c.loop-j.j + 1)) (omega (arith, c.loop-j-test.true)) (mark_false c.args.shape c.loop-j.j c.if-shape-j-eq1.false)
