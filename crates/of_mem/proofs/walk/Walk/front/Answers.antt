use Rattle.std.proofs.Common.{refl, arith, None}
use Rattle.of_mem.proofs.BucketPlaces.{some_buckets}
use Rattle.of_mem.proofs.walk.Walk.front.Goals as goal

pub at_front-requires-in-LeastFrom : goal.at_front-requires-in-LeastFrom
at_front-requires-in-LeastFrom c = some_buckets c.args.plot.now.blocks

pub returns-in-LeastFrom : goal.returns-in-LeastFrom
returns-in-LeastFrom c p =
    let e = c.at_front-in-LeastFrom.ensures in
    rw (c.in-LeastFrom.is, e.passed, e.bucket, e.cell, e.best) (omega arith, some_buckets c.args.plot.now.blocks, None, refl, (refl, refl))
