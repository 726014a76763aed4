use Rattle.std.proofs.Common.{◌+◌, arith}
use Rattle.std.proofs.lemmas.Result.{err_from_is_err_and}
use Rattle.of_mem.specs.Numbers.{FitsCell}
use Rattle.of_map.proofs.FillsOn.{front_is, fits2, fits4, fits5, fits6, front_may_read, front_lacks, keys_may_read, keys_lacks, one_more, filled}
use Rattle.of_map.proofs.fill.Goals as goal

pub get-requires-clause-lacks : goal.get-requires-clause-lacks
get-requires-clause-lacks g c = rw (front_is c.args.plot.now c.args.key c.buckets.result c.bucket-bucket.result c.buckets.ensures.value c.bucket-bucket.ensures).0 (front_may_read c.args.plot.now c.args.key c.args.value c.args.block _ _ _ c.requires (rw c.block.ensures at c.set.ensures) (rw c.block-2.ensures at c.set-2.ensures))

pub returns-in_err-front-clause-runs : goal.returns-in_err-front-clause-runs
returns-in_err-front-clause-runs g c =
    let p = err_from_is_err_and c.from_residual.result c.from_residual.ensures.1 in
    rw (p.1, p.2) (front_lacks c.args.plot.now c.args.key c.args.value c.args.block _ _ _ c.requires (rw c.block.ensures at c.set.ensures) (rw c.block-2.ensures at c.set-2.ensures) _ _ (rw (front_is c.args.plot.now c.args.key c.buckets.result c.bucket-bucket.result c.buckets.ensures.value c.bucket-bucket.ensures).0 at c.in_err-front.ensures.runs))

pub get-requires-2-clause-lacks : goal.get-requires-2-clause-lacks
get-requires-2-clause-lacks g c = rw c.keys.ensures (keys_may_read c.args.plot.now c.args.key c.args.value c.args.block _ _ _ c.requires (rw c.block.ensures at c.set.ensures) (rw c.block-2.ensures at c.set-2.ensures) _ _ _ _ (rw (front_is c.args.plot.now c.args.key c.buckets.result c.bucket-bucket.result c.buckets.ensures.value c.bucket-bucket.ensures).0 at c.in_ok-front.ensures.runs) (rw c.block-3.ensures at c.set-3.ensures) (rw (front_is c.args.plot.now c.args.key c.buckets.result c.bucket-bucket.result c.buckets.ensures.value c.bucket-bucket.ensures).0 at c.set-4.ensures))

pub returns-in_err-keys-clause-runs : goal.returns-in_err-keys-clause-runs
returns-in_err-keys-clause-runs g c =
    let p = err_from_is_err_and c.from_residual-in_err-keys.result c.from_residual-in_err-keys.ensures.1 in
    rw (p.1, p.2) (keys_lacks c.args.plot.now c.args.key c.args.value c.args.block _ _ _ c.requires (rw c.block.ensures at c.set.ensures) (rw c.block-2.ensures at c.set-2.ensures) _ _ _ _ (rw (front_is c.args.plot.now c.args.key c.buckets.result c.bucket-bucket.result c.buckets.ensures.value c.bucket-bucket.ensures).0 at c.in_ok-front.ensures.runs) (rw c.block-3.ensures at c.set-3.ensures) (rw (front_is c.args.plot.now c.args.key c.buckets.result c.bucket-bucket.result c.buckets.ensures.value c.bucket-bucket.ensures).0 at c.set-4.ensures) _ _ (rw c.keys.ensures at c.in_err-keys.ensures.runs))

pub overflow_add-keys : goal.overflow_add-keys
overflow_add-keys g c =
    let k : FitsCell (c.in_ok-keys.keys + 1) = one_more c.args.plot.now c.args.key c.args.value c.args.block _ _ _ c.requires (rw c.block.ensures at c.set.ensures) (rw c.block-2.ensures at c.set-2.ensures) _ _ _ _ (rw (front_is c.args.plot.now c.args.key c.buckets.result c.bucket-bucket.result c.buckets.ensures.value c.bucket-bucket.ensures).0 at c.in_ok-front.ensures.runs) (rw c.block-3.ensures at c.set-3.ensures) (rw (front_is c.args.plot.now c.args.key c.buckets.result c.bucket-bucket.result c.buckets.ensures.value c.bucket-bucket.ensures).0 at c.set-4.ensures) _ _ (rw c.keys.ensures at c.in_ok-keys.ensures.runs) in
    omega (arith, k)

pub returns-clause-runs : goal.returns-clause-runs
returns-clause-runs g c = filled c.args.plot.now c.args.key c.args.value c.args.block _ _ _ c.requires (rw c.block.ensures at c.set.ensures) (rw c.block-2.ensures at c.set-2.ensures) _ _ _ _ (rw (front_is c.args.plot.now c.args.key c.buckets.result c.bucket-bucket.result c.buckets.ensures.value c.bucket-bucket.ensures).0 at c.in_ok-front.ensures.runs) (rw c.block-3.ensures at c.set-3.ensures) (rw (front_is c.args.plot.now c.args.key c.buckets.result c.bucket-bucket.result c.buckets.ensures.value c.bucket-bucket.ensures).0 at c.set-4.ensures) _ _ (rw c.keys.ensures at c.in_ok-keys.ensures.runs) _ (rw c.keys-2.ensures at c.set-5.ensures)

pub get-requires-clause-below : goal.get-requires-clause-below
get-requires-clause-below g c = omega (arith, (front_is c.args.plot.now c.args.key c.buckets.result c.bucket-bucket.result c.buckets.ensures.value c.bucket-bucket.ensures).1, fits2 c.args.plot.now c.args.key c.args.value c.args.block _ _ _ c.requires (rw c.block.ensures at c.set.ensures) (rw c.block-2.ensures at c.set-2.ensures))

pub set-requires-4-clause-below : goal.set-requires-4-clause-below
set-requires-4-clause-below g c = omega (arith, (front_is c.args.plot.now c.args.key c.buckets.result c.bucket-bucket.result c.buckets.ensures.value c.bucket-bucket.ensures).1, fits4 c.args.plot.now c.args.key c.args.value c.args.block _ _ _ c.requires (rw c.block.ensures at c.set.ensures) (rw c.block-2.ensures at c.set-2.ensures) (g.C.Cells.run c.get.new.self) (g.C.Cells.run c.set-3.new.self) c.in_ok-front.ensures.runs.goes c.set-3.ensures.goes)

pub get-requires-2-clause-below : goal.get-requires-2-clause-below
get-requires-2-clause-below g c = omega (arith, c.keys.ensures, fits5 c.args.plot.now c.args.key c.args.value c.args.block _ _ _ c.requires (rw c.block.ensures at c.set.ensures) (rw c.block-2.ensures at c.set-2.ensures) _ _ _ _ (rw (front_is c.args.plot.now c.args.key c.buckets.result c.bucket-bucket.result c.buckets.ensures.value c.bucket-bucket.ensures).0 at c.in_ok-front.ensures.runs) (rw c.block-3.ensures at c.set-3.ensures) (rw (front_is c.args.plot.now c.args.key c.buckets.result c.bucket-bucket.result c.buckets.ensures.value c.bucket-bucket.ensures).0 at c.set-4.ensures))

pub set-requires-5-clause-below : goal.set-requires-5-clause-below
set-requires-5-clause-below g c = omega (arith, c.keys-2.ensures, fits6 c.args.plot.now c.args.key c.args.value c.args.block _ _ _ c.requires (rw c.block.ensures at c.set.ensures) (rw c.block-2.ensures at c.set-2.ensures) _ _ _ _ (rw (front_is c.args.plot.now c.args.key c.buckets.result c.bucket-bucket.result c.buckets.ensures.value c.bucket-bucket.ensures).0 at c.in_ok-front.ensures.runs) (rw c.block-3.ensures at c.set-3.ensures) (rw (front_is c.args.plot.now c.args.key c.buckets.result c.bucket-bucket.result c.buckets.ensures.value c.bucket-bucket.ensures).0 at c.set-4.ensures) (g.C.Cells.run c.get-2.new.self) c.in_ok-keys.ensures.runs.goes)
