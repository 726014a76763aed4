use Rattle.std.proofs.Common.{◌+◌, arith}
use Rattle.std.proofs.lemmas.Nat.{mul-le}
use Rattle.of_mem.specs.declared.work.TheConstants.{MOST_CALLERS, MOST_INSTRS}
use Rattle.of_mem.proofs.BucketPlaces.{bucket_places, most_buckets}
use Rattle.of_mem.proofs.laws.numbers.Goals as goal

pub returns-clause-cells : goal.returns-clause-cells
returns-clause-cells c =
    let p = c.args.plot in
    let own = mul-le p.callers (p.instrs + 2) MOST_CALLERS (MOST_INSTRS + 2) p.few_callers (omega (arith, p.few_instrs)) in
    omega (arith, own, p.few_blocks, bucket_places p.blocks, most_buckets p.blocks)
