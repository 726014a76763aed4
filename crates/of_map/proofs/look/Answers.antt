use Rattle.std.proofs.Common.{◌-◌, ◌<◌, arith}
use Rattle.std.proofs.lemmas.Result.{err_from_is_err_and}
use Rattle.of_mem.proofs.OnDemand.{goes_further}
use Rattle.of_map.proofs.WalkingOn.{leads_there, pointer_inside, needs_key, has_key}
use Rattle.of_map.proofs.look.Goals as goal

pub block-requires-clause-block : goal.block-requires-clause-block
block-requires-clause-block g c = pointer_inside c.args.plot.now c.args.key c.args.cell _ (g.C.Cells.run c.get.new.self) c.requires c.in_ok-pointer.pointer c.in_ok-pointer.ensures.runs c.if-pointer-eq0.false

pub get-requires-2-clause-below : goal.get-requires-2-clause-below
get-requires-2-clause-below g c =
    let has = leads_there c.args.plot.now c.args.key c.args.cell _ (g.C.Cells.run c.get.new.self) c.requires c.in_ok-pointer.pointer c.in_ok-pointer.ensures.runs in
    let k : c.in_ok-pointer.pointer - 1 < c.args.plot.now.blocks = pointer_inside c.args.plot.now c.args.key c.args.cell _ (g.C.Cells.run c.get.new.self) c.requires c.in_ok-pointer.pointer c.in_ok-pointer.ensures.runs c.if-pointer-eq0.false in
    omega (arith, c.block.ensures, has.fits, k)

pub returns-in_err-found-clause-goes : goal.returns-in_err-found-clause-goes
returns-in_err-found-clause-goes g c = goes_further _ _ _ c.in_ok-pointer.ensures.runs.goes c.in_err-found.ensures.runs.goes

pub block-requires-2-clause-block : goal.block-requires-2-clause-block
block-requires-2-clause-block g c = pointer_inside c.args.plot.now c.args.key c.args.cell _ (g.C.Cells.run c.get.new.self) c.requires c.in_ok-pointer.pointer c.in_ok-pointer.ensures.runs c.if-pointer-eq0.false

pub returns-in_err-found-clause-looks : goal.returns-in_err-found-clause-looks
returns-in_err-found-clause-looks g c =
    let p = err_from_is_err_and c.from_residual-in_err-found.result c.from_residual-in_err-found.ensures.1 in
    rw (p.1, p.2) (needs_key c.args.plot.now c.args.key c.args.cell _ (g.C.Cells.run c.get.new.self) c.requires c.in_ok-pointer.pointer c.in_ok-pointer.ensures.runs c.if-pointer-eq0.false c.block.result c.block.ensures (g.C.Cells.run c.get-2.new.self) c.in_err-found.ensures.part c.in_err-found.field-0.0 c.in_err-found.ensures.runs)

pub returns-then-found-key-clause-looks : goal.returns-then-found-key-clause-looks
returns-then-found-key-clause-looks g c =
    let k = has_key c.args.plot.now c.args.key c.args.cell _ (g.C.Cells.run c.get.new.self) c.requires c.in_ok-pointer.pointer c.in_ok-pointer.ensures.runs c.if-pointer-eq0.false c.block.result c.block.ensures (g.C.Cells.run c.get-2.new.self) c.in_ok-found.ensures.part c.in_ok-found.found c.in_ok-found.ensures.runs in
    (k.0, rw c.if-found-key.true at k.1)

pub returns-clause-looks : goal.returns-clause-looks
returns-clause-looks g c =
    let k = has_key c.args.plot.now c.args.key c.args.cell _ (g.C.Cells.run c.get.new.self) c.requires c.in_ok-pointer.pointer c.in_ok-pointer.ensures.runs c.if-pointer-eq0.false c.block.result c.block.ensures (g.C.Cells.run c.get-2.new.self) c.in_ok-found.ensures.part c.in_ok-found.found c.in_ok-found.ensures.runs in
    (c.in_ok-pointer.pointer - 1, c.in_ok-found.found, k.0, k.1, c.if-found-key.false, c.block-2.ensures)
