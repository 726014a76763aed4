use Rattle.std.proofs.Common.{◌<◌, arith}
use Rattle.std.proofs.lemmas.Result.{err_from_is_err_and}
use Rattle.of_mem.proofs.OnDemand.{goes_nowhere, goes_further}
use Rattle.of_map.proofs.DelsOn.{block_below, fits, cell_below, link_lacks, may_give_back, unlinked_on}
use Rattle.of_map.proofs.unlink.Goals as goal

pub block-requires-clause-block : goal.block-requires-clause-block
block-requires-clause-block g c = block_below c.args.plot.now c.args.key c.args.place _ c.requires

pub get-requires-clause-below : goal.get-requires-clause-below
get-requires-clause-below g c =
    let k : c.args.place.block < c.args.plot.now.blocks = block_below c.args.plot.now c.args.key c.args.place _ c.requires in
    omega (arith, k, c.block.ensures, fits c.args.plot.now c.args.key c.args.place _ c.requires (g.C.Cells.run c.args.cells.now) (goes_nowhere (g.C.Cells.run c.args.cells.now) c.requires.knows))

pub block-requires-2-clause-block : goal.block-requires-2-clause-block
block-requires-2-clause-block g c = block_below c.args.plot.now c.args.key c.args.place _ c.requires

pub get-requires-2-clause-below : goal.get-requires-2-clause-below
get-requires-2-clause-below g c =
    let k : c.args.place.block < c.args.plot.now.blocks = block_below c.args.plot.now c.args.key c.args.place _ c.requires in
    omega (arith, k, c.block-2.ensures, fits c.args.plot.now c.args.key c.args.place _ c.requires (g.C.Cells.run c.get.new.self) c.in_ok-value.ensures.runs.goes)

pub returns-in_err-link : goal.returns-in_err-link
returns-in_err-link g c =
    let p = err_from_is_err_and c.from_residual-in_err-link.result c.from_residual-in_err-link.ensures.1 in
    rw (p.1, p.2) (link_lacks c.args.plot.now c.args.key c.args.place _ c.requires (g.C.Cells.run c.get.new.self) c.in_ok-value.value c.block-2.result c.block.result c.block.ensures c.block-2.ensures c.in_ok-value.ensures.runs _ _ c.in_err-link.ensures.runs)

pub set-requires-clause-below : goal.set-requires-clause-below
set-requires-clause-below g c = omega (
  arith,
  cell_below c.args.plot.now c.args.key c.args.place _ c.requires,
  fits c.args.plot.now c.args.key c.args.place _ c.requires (g.C.Cells.run c.get-2.new.self) (goes_further (g.C.Cells.run c.args.cells.now) (g.C.Cells.run c.get.new.self) (g.C.Cells.run c.get-2.new.self) c.in_ok-value.ensures.runs.goes c.in_ok-link.ensures.runs.goes),
)

pub give_back-requires : goal.give_back-requires
give_back-requires g c = may_give_back c.args.plot.now c.args.key c.args.place _ c.requires (g.C.Cells.run c.get.new.self) c.in_ok-value.value c.block-2.result c.block.result c.block.ensures c.block-2.ensures c.in_ok-value.ensures.runs (g.C.Cells.run c.get-2.new.self) (g.C.Cells.run c.set.new.self) c.in_ok-link.link c.in_ok-link.ensures.runs c.set.ensures

pub returns : goal.returns
returns g c = unlinked_on c.args.plot.now c.args.key c.args.place _ c.requires (g.C.Cells.run c.get.new.self) c.in_ok-value.value c.block-2.result c.block.result c.block.ensures c.block-2.ensures c.in_ok-value.ensures.runs (g.C.Cells.run c.get-2.new.self) (g.C.Cells.run c.set.new.self) c.in_ok-link.link c.in_ok-link.ensures.runs c.set.ensures _ c.give_back.result c.give_back.ensures
