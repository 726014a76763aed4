use Rattle.std.proofs.Common.{arith}
use Rattle.of_tool.proofs.PartNumbers.{one_more}
use Rattle.of_tool.proofs.cutting.part.Goals as goal

pub loop-preserved : goal.loop-preserved
loop-preserved c = record {
  counted = omega (arith, c.loop.invariant.counted);
  parts = λ part is. c.loop.invariant.parts part (one_more c.args.number c.loop.counter c.loop.invariant.counted c.loop-test.true c.loop.rest.now c.parts.result.0.now c.parts.result.1.now part c.parts.ensures is);
}
