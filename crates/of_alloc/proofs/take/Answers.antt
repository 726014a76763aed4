use Rattle.std.proofs.Common.{◌-◌, ◌<◌, arith}
use Rattle.std.proofs.lemmas.Result.{err_from_is_err_and}
use Rattle.of_alloc.proofs.TakingsOn.{has_list, front_inside, link_lacks, takes_front, fresh_lacks, takes_none, takes_next, takes_on}
use Rattle.of_alloc.proofs.take.Goals as goal

pub block-requires-clause-block : goal.block-requires-clause-block
block-requires-clause-block g c = front_inside c.args.plot.now _ (g.C.Cells.run c.get.new.self) c.requires c.in_ok-front.front c.free.result c.free.ensures c.in_ok-front.ensures.runs c.if-front-ne0.true

pub get-requires-then-front-ne0-clause-below : goal.get-requires-then-front-ne0-clause-below
get-requires-then-front-ne0-clause-below g c =
    let has = has_list c.args.plot.now _ (g.C.Cells.run c.get.new.self) c.requires c.in_ok-front.front c.free.result c.free.ensures c.in_ok-front.ensures.runs in
    let k : c.in_ok-front.front - 1 < c.args.plot.now.blocks = front_inside c.args.plot.now _ (g.C.Cells.run c.get.new.self) c.requires c.in_ok-front.front c.free.result c.free.ensures c.in_ok-front.ensures.runs c.if-front-ne0.true in
    omega (arith, c.block.ensures, has.fits, k)

pub returns-in_err-link-clause-runs : goal.returns-in_err-link-clause-runs
returns-in_err-link-clause-runs g c = let p = err_from_is_err_and c.from_residual-in_err-link.result c.from_residual-in_err-link.ensures.1 in rw (p.1, p.2) (link_lacks c.args.plot.now _ (g.C.Cells.run c.get.new.self) c.requires c.in_ok-front.front c.free.result c.free.ensures c.in_ok-front.ensures.runs c.if-front-ne0.true c.block.result c.block.ensures _ _ c.in_err-link.ensures.runs)

pub returns-then-front-ne0-clause-runs : goal.returns-then-front-ne0-clause-runs
returns-then-front-ne0-clause-runs g c = takes_front c.args.plot.now _ (g.C.Cells.run c.get.new.self) c.requires c.in_ok-front.front c.free.result c.free.ensures c.in_ok-front.ensures.runs c.if-front-ne0.true c.block.result c.block.ensures _ _ c.in_ok-link.link c.free-then-front-ne0.result c.free-then-front-ne0.ensures c.in_ok-link.ensures.runs c.set.ensures

pub returns-then-front-ne0-clause-takes : goal.returns-then-front-ne0-clause-takes
returns-then-front-ne0-clause-takes g c = takes_on c.args.plot.now _ _ _ c.requires (returns-then-front-ne0-clause-runs g c)

pub returns-in_err-fresh-clause-runs : goal.returns-in_err-fresh-clause-runs
returns-in_err-fresh-clause-runs g c = let p = err_from_is_err_and c.from_residual-in_err-fresh.result c.from_residual-in_err-fresh.ensures.1 in rw (p.1, p.2) (fresh_lacks c.args.plot.now _ (g.C.Cells.run c.get.new.self) c.requires c.in_ok-front.front c.free.result c.free.ensures c.in_ok-front.ensures.runs c.if-front-ne0.false c.fresh.result c.fresh.ensures _ _ c.in_err-fresh.ensures.runs)

pub returns-then-fresh-plot-clause-runs : goal.returns-then-fresh-plot-clause-runs
returns-then-fresh-plot-clause-runs g c = takes_next c.args.plot.now _ (g.C.Cells.run c.get.new.self) c.requires c.in_ok-front.front c.free.result c.free.ensures c.in_ok-front.ensures.runs c.if-front-ne0.false c.fresh.result c.fresh.ensures _ _ c.in_ok-fresh.fresh c.fresh-then-fresh-plot.result c.if-fresh-plot.true c.fresh-then-fresh-plot.ensures c.in_ok-fresh.ensures.runs c.set-then-fresh-plot.ensures

pub returns-then-fresh-plot-clause-takes : goal.returns-then-fresh-plot-clause-takes
returns-then-fresh-plot-clause-takes g c = takes_on c.args.plot.now _ _ _ c.requires (returns-then-fresh-plot-clause-runs g c)

pub returns-clause-runs : goal.returns-clause-runs
returns-clause-runs g c = takes_none c.args.plot.now _ (g.C.Cells.run c.get.new.self) c.requires c.in_ok-front.front c.free.result c.free.ensures c.in_ok-front.ensures.runs c.if-front-ne0.false c.fresh.result c.fresh.ensures _ c.in_ok-fresh.fresh c.if-fresh-plot.false c.in_ok-fresh.ensures.runs

pub returns-clause-takes : goal.returns-clause-takes
returns-clause-takes g c = takes_on c.args.plot.now _ _ _ c.requires (returns-clause-runs g c)
