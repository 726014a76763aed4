use Rattle.std.proofs.Common.{arith}
use Rattle.of_mem.proofs.BucketPlaces.{few_behind}
use Rattle.of_tool.proofs.laws.limits.Goals as goal

pub returns-clause-cells : goal.returns-clause-cells
returns-clause-cells c = omega (arith, few_behind 512 (omega arith))
