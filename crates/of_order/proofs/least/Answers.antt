use Rattle.std.proofs.Common.{◌∙◌, arith, Ok, Err}
use Rattle.std.proofs.lemmas.Result.{err_from_is_err_and}
use Rattle.of_mem.specs.Calls.{HasStore}
use Rattle.of_mem.specs.OnDemand.{Running}
use Rattle.of_mem.specs.Places.{bucket_count}
use Rattle.of_mem.specs.Plots.{base}
use Rattle.of_mem.proofs.BucketPlaces.{most_buckets}
use Rattle.of_mem.proofs.OnDemand.{goes_further, only_read_on, only_read_runs}
use Rattle.of_order.specs.OrderPrograms as program
use Rattle.of_order.proofs.Asking.{may_still}
use Rattle.of_order.proofs.LeastWalk.{buckets_run}
use Rattle.of_order.proofs.Walking.{no_bucket}
use Rattle.of_order.proofs.least.Goals as goal

pub overflow_step-bucket : goal.overflow_step-bucket
overflow_step-bucket g c = omega (arith, c.walk_to-start.ensures.1, most_buckets c.args.plot.now.blocks, c.args.plot.now.few_blocks)

pub pass_bucket-requires-in-loop-bucket-clause-may :
    goal.pass_bucket-requires-in-loop-bucket-clause-may
pass_bucket-requires-in-loop-bucket-clause-may g c =
    let h = c.loop-bucket.invariant in
    may_still (program.least c.args.plot.now c.args.low) (HasStore c.args.plot.now) _ (g.C.Cells.run c.loop-bucket.cells) c.requires h.same h.goes

pub returns-in_err-best-2-clause-runs : goal.returns-in_err-best-2-clause-runs
returns-in_err-best-2-clause-runs g c =
    let h = c.loop-bucket.invariant in
    let start : Running = g.C.Cells.run c.args.cells.now in
    let before : Running = g.C.Cells.run c.loop-bucket.cells in
    let after : Running = g.C.Cells.run c.pass_bucket-in-loop-bucket.new.cells in
    let e = err_from_is_err_and c.from_residual-in_err-best-2.result c.from_residual-in_err-best-2.ensures.1 in
    let lacks = c.in_err-best-2.ensures in
    rw (e.1, e.2) (only_read_runs (program.least c.args.plot.now c.args.low) start after (Err c.in_err-best-2.field-0.0)
    (only_read_on start.part before.part after.part h.same lacks.part) (goes_further start before after h.goes lacks.goes) lacks.passes)

pub returns-clause-runs : goal.returns-clause-runs
returns-clause-runs g c =
    let h = c.loop-bucket.invariant in
    let start : Running = g.C.Cells.run c.args.cells.now in
    let end : Running = g.C.Cells.run c.loop-bucket.cells in
    only_read_runs (program.least c.args.plot.now c.args.low) start end (Ok c.loop-bucket.best) h.same h.goes
    (buckets_run (base c.args.plot.now) c.args.low end.part c.args.plot.now.blocks c.loop-bucket.bucket c.loop-bucket.best h.few h.passed
    ∙ no_bucket (base c.args.plot.now) c.args.plot.now.blocks c.args.low (bucket_count c.args.plot.now.blocks) c.loop-bucket.bucket c.loop-bucket.best end.part (omega (arith, c.loop-bucket-test.false, c.buckets-bucket-end.ensures.value)))
