use Rattle.std.proofs.Common.{arith}
use Rattle.std.proofs.lemmas.Result.{err_from_is_err_and}
use Rattle.of_order.proofs.DropsOn.{buckets_begin, dropping_begins, may_drop_in, bucket_lacks, past_bucket, dropping_on, may_count, counts, drops_on}
use Rattle.of_order.proofs.drop_below.Goals as goal

pub loop-bucket-init : goal.loop-bucket-init
loop-bucket-init g c = record { came = buckets_begin c.args.plot.now c.args.key (g.C.Cells.run c.args.cells.now) c.requires; stands = dropping_begins c.args.plot.now c.args.key (g.C.Cells.run c.args.cells.now) c.requires }

pub drop_in-requires-clause-may : goal.drop_in-requires-clause-may
drop_in-requires-clause-may g c = may_drop_in c.args.plot.now c.args.key (g.C.Cells.run c.args.cells.now) c.requires (g.C.Cells.run c.loop-bucket.cells) c.loop-bucket.bucket c.loop-bucket.gone c.loop-bucket.invariant.came c.loop-bucket.invariant.stands (omega (arith, c.loop-bucket-test.true, c.buckets-bucket-end.ensures.value))

pub returns-in_err-gone-clause-runs : goal.returns-in_err-gone-clause-runs
returns-in_err-gone-clause-runs g c =
    let p = err_from_is_err_and c.from_residual.result c.from_residual.ensures.1 in
    rw (p.1, p.2) (bucket_lacks c.args.plot.now c.args.key (g.C.Cells.run c.args.cells.now) c.requires (g.C.Cells.run c.loop-bucket.cells) c.loop-bucket.bucket c.loop-bucket.gone c.loop-bucket.invariant.came c.loop-bucket.invariant.stands (omega (arith, c.loop-bucket-test.true, c.buckets-bucket-end.ensures.value)) _ _ c.in_err-gone.ensures)

pub loop-bucket-preserved : goal.loop-bucket-preserved
loop-bucket-preserved g c = record { came = past_bucket c.args.plot.now c.args.key (g.C.Cells.run c.args.cells.now) c.requires (g.C.Cells.run c.loop-bucket.cells) c.loop-bucket.bucket c.loop-bucket.gone c.loop-bucket.invariant.came c.loop-bucket.invariant.stands (omega (arith, c.loop-bucket-test.true, c.buckets-bucket-end.ensures.value)) (g.C.Cells.run c.drop_in.new.cells) c.in_ok-gone.gone c.in_ok-gone.ensures; stands = dropping_on c.args.plot.now c.args.key (g.C.Cells.run c.args.cells.now) c.requires (g.C.Cells.run c.loop-bucket.cells) c.loop-bucket.bucket c.loop-bucket.gone c.loop-bucket.invariant.came c.loop-bucket.invariant.stands (omega (arith, c.loop-bucket-test.true, c.buckets-bucket-end.ensures.value)) (g.C.Cells.run c.drop_in.new.cells) c.in_ok-gone.gone c.in_ok-gone.ensures }

pub count_down-requires : goal.count_down-requires
count_down-requires g c = may_count c.args.plot.now c.args.key (g.C.Cells.run c.args.cells.now) c.requires (g.C.Cells.run c.loop-bucket.cells) c.loop-bucket.bucket c.loop-bucket.gone c.loop-bucket.invariant.came c.loop-bucket.invariant.stands (omega (arith, c.loop-bucket-test.false, c.buckets-bucket-end.ensures.value))

pub returns-clause-runs : goal.returns-clause-runs
returns-clause-runs g c = counts c.args.plot.now c.args.key (g.C.Cells.run c.args.cells.now) c.requires (g.C.Cells.run c.loop-bucket.cells) c.loop-bucket.bucket c.loop-bucket.gone c.loop-bucket.invariant.came c.loop-bucket.invariant.stands (omega (arith, c.loop-bucket-test.false, c.buckets-bucket-end.ensures.value)) (g.C.Cells.run c.count_down.new.cells) c.count_down.result c.count_down.ensures

pub returns-clause-acts : goal.returns-clause-acts
returns-clause-acts g c = drops_on c.args.plot.now c.args.key (g.C.Cells.run c.args.cells.now) (g.C.Cells.run c.count_down.new.cells) c.count_down.result (returns-clause-runs g c)
