use Rattle.std.proofs.Common.{◌-◌, ◌<◌, arith}
use Rattle.std.proofs.lemmas.Result.{err_from_is_err_and}
use Rattle.of_mem.proofs.BucketPlaces.{bucket_in}
use Rattle.of_mem.proofs.OnDemand.{now}
use Rattle.of_mem.specs.Plots.{base}
use Rattle.of_order.specs.Dropping.{IsDropping}
use Rattle.of_order.proofs.DropsOn.{walk_begins, stays_begins, walk_ends, fits, below, key_may_read, key_lacks, fits1, link_may_read, link_lacks, walks_on, still_stays, cell_below, may_give, give_lacks, walks_behind, stays_gone}
use Rattle.of_order.proofs.drop_in.Goals as goal
use Rattle.of_order.proofs.drop_in.Goals.{then-found-key+in_ok-give, else-found-key}

pub get-requires-clause-below : goal.get-requires-clause-below
get-requires-clause-below g c =
    let k = bucket_in (base c.args.plot.now) c.args.plot.now.blocks c.args.bucket c.requires.bucket in
    let has = now (λ p. IsDropping c.args.plot.now p c.args.key c.args.bucket c.args.gone) (g.C.Cells.run c.args.cells.now) c.requires.may.knows c.requires.may.always in
    omega (arith, k, c.bucket-cell.ensures, has.fits)

pub loop-step-init : goal.loop-step-init
loop-step-init g c = record { came = walk_begins c.args.plot.now c.args.key c.args.bucket c.args.gone c.requires.bucket (g.C.Cells.run c.args.cells.now) (g.C.Cells.run c.get.new.self) c.requires.may c.bucket-cell.result c.in_ok-pointer.pointer c.bucket-cell.ensures c.in_ok-pointer.ensures.runs; stays = stays_begins c.args.plot.now c.args.key c.args.bucket c.args.gone c.requires.bucket (g.C.Cells.run c.args.cells.now) (g.C.Cells.run c.get.new.self) c.requires.may c.bucket-cell.result c.in_ok-pointer.pointer c.bucket-cell.ensures c.in_ok-pointer.ensures.runs }

pub returns-then-pointer-eq0 : goal.returns-then-pointer-eq0
returns-then-pointer-eq0 g c = walk_ends c.args.plot.now c.args.key c.args.bucket c.args.gone c.requires.bucket (g.C.Cells.run c.args.cells.now) (g.C.Cells.run c.loop-step.cells) c.requires.may c.loop-step.step c.loop-step.cell c.loop-step.pointer c.loop-step.gone c.loop-step-test.true c.loop-step.invariant.came c.loop-step.invariant.stays c.if-pointer-eq0.true

pub block-requires-clause-block : goal.block-requires-clause-block
block-requires-clause-block g c = below c.args.plot.now c.args.key c.args.bucket c.args.gone c.requires.bucket (g.C.Cells.run c.args.cells.now) (g.C.Cells.run c.loop-step.cells) c.requires.may c.loop-step.step c.loop-step.cell c.loop-step.pointer c.loop-step.gone c.loop-step-test.true c.loop-step.invariant.came c.loop-step.invariant.stays c.if-pointer-eq0.false

pub get-requires-in-loop-step-clause-below : goal.get-requires-in-loop-step-clause-below
get-requires-in-loop-step-clause-below g c =
    let k : c.loop-step.pointer - 1 < c.args.plot.now.blocks = below c.args.plot.now c.args.key c.args.bucket c.args.gone c.requires.bucket (g.C.Cells.run c.args.cells.now) (g.C.Cells.run c.loop-step.cells) c.requires.may c.loop-step.step c.loop-step.cell c.loop-step.pointer c.loop-step.gone c.loop-step-test.true c.loop-step.invariant.came c.loop-step.invariant.stays c.if-pointer-eq0.false in
    omega (arith, k, c.block.ensures, fits c.args.plot.now c.args.key c.args.bucket c.args.gone c.requires.bucket (g.C.Cells.run c.args.cells.now) (g.C.Cells.run c.loop-step.cells) c.requires.may c.loop-step.step c.loop-step.cell c.loop-step.pointer c.loop-step.gone c.loop-step-test.true c.loop-step.invariant.came c.loop-step.invariant.stays)

pub get-requires-in-loop-step-clause-lacks : goal.get-requires-in-loop-step-clause-lacks
get-requires-in-loop-step-clause-lacks g c = key_may_read c.args.plot.now c.args.key c.args.bucket c.args.gone c.requires.bucket (g.C.Cells.run c.args.cells.now) (g.C.Cells.run c.loop-step.cells) c.requires.may c.loop-step.step c.loop-step.cell c.loop-step.pointer c.loop-step.gone c.loop-step-test.true c.loop-step.invariant.came c.loop-step.invariant.stays c.if-pointer-eq0.false c.block.result c.block.ensures

pub returns-in_err-found : goal.returns-in_err-found
returns-in_err-found g c =
    let p = err_from_is_err_and c.from_residual-in_err-found.result c.from_residual-in_err-found.ensures.1 in
    rw (p.1, p.2) (key_lacks c.args.plot.now c.args.key c.args.bucket c.args.gone c.requires.bucket (g.C.Cells.run c.args.cells.now) (g.C.Cells.run c.loop-step.cells) c.requires.may c.loop-step.step c.loop-step.cell c.loop-step.pointer c.loop-step.gone c.loop-step-test.true c.loop-step.invariant.came c.loop-step.invariant.stays c.if-pointer-eq0.false c.block.result c.block.ensures _ _ c.in_err-found.ensures.runs)

pub block-requires-in-loop-step-clause-block : goal.block-requires-in-loop-step-clause-block
block-requires-in-loop-step-clause-block g c = below c.args.plot.now c.args.key c.args.bucket c.args.gone c.requires.bucket (g.C.Cells.run c.args.cells.now) (g.C.Cells.run c.loop-step.cells) c.requires.may c.loop-step.step c.loop-step.cell c.loop-step.pointer c.loop-step.gone c.loop-step-test.true c.loop-step.invariant.came c.loop-step.invariant.stays c.if-pointer-eq0.false

pub get-requires-in-loop-step-2-clause-below : goal.get-requires-in-loop-step-2-clause-below
get-requires-in-loop-step-2-clause-below g c =
    let k : c.loop-step.pointer - 1 < c.args.plot.now.blocks = below c.args.plot.now c.args.key c.args.bucket c.args.gone c.requires.bucket (g.C.Cells.run c.args.cells.now) (g.C.Cells.run c.loop-step.cells) c.requires.may c.loop-step.step c.loop-step.cell c.loop-step.pointer c.loop-step.gone c.loop-step-test.true c.loop-step.invariant.came c.loop-step.invariant.stays c.if-pointer-eq0.false in
    omega (arith, k, c.block-in-loop-step.ensures, fits1 c.args.plot.now c.args.key c.args.bucket c.args.gone c.requires.bucket (g.C.Cells.run c.args.cells.now) (g.C.Cells.run c.loop-step.cells) c.requires.may c.loop-step.step c.loop-step.cell c.loop-step.pointer c.loop-step.gone c.loop-step-test.true c.loop-step.invariant.came c.loop-step.invariant.stays c.if-pointer-eq0.false c.block.result c.block.ensures (g.C.Cells.run c.get-in-loop-step.new.self) c.in_ok-found.found c.in_ok-found.ensures.runs)

pub get-requires-in-loop-step-2-clause-lacks : goal.get-requires-in-loop-step-2-clause-lacks
get-requires-in-loop-step-2-clause-lacks g c = link_may_read c.args.plot.now c.args.key c.args.bucket c.args.gone c.requires.bucket (g.C.Cells.run c.args.cells.now) (g.C.Cells.run c.loop-step.cells) c.requires.may c.loop-step.step c.loop-step.cell c.loop-step.pointer c.loop-step.gone c.loop-step-test.true c.loop-step.invariant.came c.loop-step.invariant.stays c.if-pointer-eq0.false c.block.result c.block.ensures (g.C.Cells.run c.get-in-loop-step.new.self) c.in_ok-found.found c.in_ok-found.ensures.runs c.block-in-loop-step.result c.block-in-loop-step.ensures

pub returns-in_err-link : goal.returns-in_err-link
returns-in_err-link g c =
    let p = err_from_is_err_and c.from_residual-in_err-link.result c.from_residual-in_err-link.ensures.1 in
    rw (p.1, p.2) (link_lacks c.args.plot.now c.args.key c.args.bucket c.args.gone c.requires.bucket (g.C.Cells.run c.args.cells.now) (g.C.Cells.run c.loop-step.cells) c.requires.may c.loop-step.step c.loop-step.cell c.loop-step.pointer c.loop-step.gone c.loop-step-test.true c.loop-step.invariant.came c.loop-step.invariant.stays c.if-pointer-eq0.false c.block.result c.block.ensures (g.C.Cells.run c.get-in-loop-step.new.self) c.in_ok-found.found c.in_ok-found.ensures.runs c.block-in-loop-step.result c.block-in-loop-step.ensures _ _ c.in_err-link.ensures.runs)

pub set-requires-clause-below : goal.set-requires-clause-below
set-requires-clause-below g c = cell_below c.args.plot.now c.args.key c.args.bucket c.args.gone c.requires.bucket (g.C.Cells.run c.args.cells.now) (g.C.Cells.run c.loop-step.cells) c.requires.may c.loop-step.step c.loop-step.cell c.loop-step.pointer c.loop-step.gone c.loop-step-test.true c.loop-step.invariant.came c.loop-step.invariant.stays c.if-pointer-eq0.false c.block.result c.block.ensures (g.C.Cells.run c.get-in-loop-step.new.self) c.in_ok-found.found c.in_ok-found.ensures.runs c.block-in-loop-step.result c.block-in-loop-step.ensures (g.C.Cells.run c.get-in-loop-step-2.new.self) c.in_ok-link.link c.in_ok-link.ensures.runs c.if-found-key.true

pub give-requires : goal.give-requires
give-requires g c = may_give c.args.plot.now c.args.key c.args.bucket c.args.gone c.requires.bucket (g.C.Cells.run c.args.cells.now) (g.C.Cells.run c.loop-step.cells) c.requires.may c.loop-step.step c.loop-step.cell c.loop-step.pointer c.loop-step.gone c.loop-step-test.true c.loop-step.invariant.came c.loop-step.invariant.stays c.if-pointer-eq0.false c.block.result c.block.ensures (g.C.Cells.run c.get-in-loop-step.new.self) c.in_ok-found.found c.in_ok-found.ensures.runs c.block-in-loop-step.result c.block-in-loop-step.ensures (g.C.Cells.run c.get-in-loop-step-2.new.self) c.in_ok-link.link c.in_ok-link.ensures.runs c.if-found-key.true (g.C.Cells.run c.set.new.self) c.set.ensures

pub returns-in_err-give : goal.returns-in_err-give
returns-in_err-give g c =
    let p = err_from_is_err_and c.from_residual-in_err-give.result c.from_residual-in_err-give.ensures.1 in
    rw (p.1, p.2) (give_lacks c.args.plot.now c.args.key c.args.bucket c.args.gone c.requires.bucket (g.C.Cells.run c.args.cells.now) (g.C.Cells.run c.loop-step.cells) c.requires.may c.loop-step.step c.loop-step.cell c.loop-step.pointer c.loop-step.gone c.loop-step-test.true c.loop-step.invariant.came c.loop-step.invariant.stays c.if-pointer-eq0.false c.block.result c.block.ensures (g.C.Cells.run c.get-in-loop-step.new.self) c.in_ok-found.found c.in_ok-found.ensures.runs c.block-in-loop-step.result c.block-in-loop-step.ensures (g.C.Cells.run c.get-in-loop-step-2.new.self) c.in_ok-link.link c.in_ok-link.ensures.runs c.if-found-key.true (g.C.Cells.run c.set.new.self) c.set.ensures _ _ c.in_err-give.ensures.runs)

pub block-cell-requires-clause-block : goal.block-cell-requires-clause-block
block-cell-requires-clause-block g c = below c.args.plot.now c.args.key c.args.bucket c.args.gone c.requires.bucket (g.C.Cells.run c.args.cells.now) (g.C.Cells.run c.loop-step.cells) c.requires.may c.loop-step.step c.loop-step.cell c.loop-step.pointer c.loop-step.gone c.loop-step-test.true c.loop-step.invariant.came c.loop-step.invariant.stays c.if-pointer-eq0.false

pub loop-step-preserved : goal.loop-step-preserved
loop-step-preserved g c = elim c.if-found-key.branch [
  | then-found-key+in_ok-give w ↦ rw (w.cells-is, w.gone-is, w.cell-is) (record {
    came = walks_behind c.args.plot.now c.args.key c.args.bucket c.args.gone c.requires.bucket (g.C.Cells.run c.args.cells.now) (g.C.Cells.run c.loop-step.cells) c.requires.may c.loop-step.step c.loop-step.cell c.loop-step.pointer c.loop-step.gone c.loop-step-test.true c.loop-step.invariant.came c.loop-step.invariant.stays c.if-pointer-eq0.false c.block.result c.block.ensures (g.C.Cells.run c.get-in-loop-step.new.self) c.in_ok-found.found c.in_ok-found.ensures.runs c.block-in-loop-step.result c.block-in-loop-step.ensures (g.C.Cells.run c.get-in-loop-step-2.new.self) c.in_ok-link.link c.in_ok-link.ensures.runs w.if-found-key.true (g.C.Cells.run w.set.new.self) w.set.ensures (g.C.Cells.run w.give.new.cells) _ w.in_ok-give.ensures.runs;
    stays = stays_gone c.args.plot.now c.args.key c.args.bucket c.args.gone c.requires.bucket (g.C.Cells.run c.args.cells.now) (g.C.Cells.run c.loop-step.cells) c.requires.may c.loop-step.step c.loop-step.cell c.loop-step.pointer c.loop-step.gone c.loop-step-test.true c.loop-step.invariant.came c.loop-step.invariant.stays c.if-pointer-eq0.false c.block.result c.block.ensures (g.C.Cells.run c.get-in-loop-step.new.self) c.in_ok-found.found c.in_ok-found.ensures.runs c.block-in-loop-step.result c.block-in-loop-step.ensures (g.C.Cells.run c.get-in-loop-step-2.new.self) c.in_ok-link.link c.in_ok-link.ensures.runs w.if-found-key.true (g.C.Cells.run w.set.new.self) w.set.ensures (g.C.Cells.run w.give.new.cells) _ w.in_ok-give.ensures.runs;
  })
  | else-found-key w ↦ rw (w.cells-is, w.gone-is, w.cell-is) (record {
    came = walks_on c.args.plot.now c.args.key c.args.bucket c.args.gone c.requires.bucket (g.C.Cells.run c.args.cells.now) (g.C.Cells.run c.loop-step.cells) c.requires.may c.loop-step.step c.loop-step.cell c.loop-step.pointer c.loop-step.gone c.loop-step-test.true c.loop-step.invariant.came c.loop-step.invariant.stays c.if-pointer-eq0.false c.block.result c.block.ensures (g.C.Cells.run c.get-in-loop-step.new.self) c.in_ok-found.found c.in_ok-found.ensures.runs c.block-in-loop-step.result c.block-in-loop-step.ensures (g.C.Cells.run c.get-in-loop-step-2.new.self) c.in_ok-link.link c.in_ok-link.ensures.runs w.block-cell.result (omega (arith, w.if-found-key.false)) w.block-cell.ensures;
    stays = still_stays c.args.plot.now c.args.key c.args.bucket c.args.gone c.requires.bucket (g.C.Cells.run c.args.cells.now) (g.C.Cells.run c.loop-step.cells) c.requires.may c.loop-step.step c.loop-step.cell c.loop-step.pointer c.loop-step.gone c.loop-step-test.true c.loop-step.invariant.came c.loop-step.invariant.stays c.if-pointer-eq0.false c.block.result c.block.ensures (g.C.Cells.run c.get-in-loop-step.new.self) c.in_ok-found.found c.in_ok-found.ensures.runs c.block-in-loop-step.result c.block-in-loop-step.ensures (g.C.Cells.run c.get-in-loop-step-2.new.self) c.in_ok-link.link c.in_ok-link.ensures.runs w.block-cell.result (omega (arith, w.if-found-key.false)) w.block-cell.ensures;
  })
]
