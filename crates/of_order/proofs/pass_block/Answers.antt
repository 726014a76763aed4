use Rattle.std.proofs.Common.{◌≡◌, ℕ, suc, ◌-◌, ◌∙◌, ap, inl, inr, refl, arith, Some}
use Rattle.std.proofs.lemmas.Result.{err_from_is_err_and}
use Rattle.of_mem.specs.OnDemand.{Running}
use Rattle.of_mem.specs.Part.{newest_at}
use Rattle.of_mem.specs.Places.{bucket_at}
use Rattle.of_mem.specs.Plots.{base}
use Rattle.of_mem.specs.Stores.{first_at}
use Rattle.of_mem.proofs.OnDemand.{goes_further, read_gave, read_lacked, still_known}
use Rattle.of_mem.proofs.Walks.{weighs_on}
use Rattle.of_order.proofs.Asking as asking
use Rattle.of_order.proofs.Walking.{is_suc}
use Rattle.of_order.proofs.pass_block.Goals.{then-pointer-eq0-via-then-pointer-eq0, then-pointer-eq0-via-else-pointer-eq0+then-here-plot}
use Rattle.of_order.proofs.pass_block.Goals as goal

pub get-requires-clause-below : goal.get-requires-clause-below
get-requires-clause-below g c = asking.cell_inside c.args.plot.now c.args.low c.args.here _ c.requires.may c.requires.came

pub get-requires-clause-lacks : goal.get-requires-clause-lacks
get-requires-clause-lacks g c = asking.asks_cell c.args.plot.now c.args.low c.args.here _ c.requires.may c.requires.came

pub returns-in_err-pointer-clause-passes : goal.returns-in_err-pointer-clause-passes
returns-in_err-pointer-clause-passes g c =
    let e = err_from_is_err_and c.from_residual.result c.from_residual.ensures.1 in
    let start : Running = g.C.Cells.run c.args.cells.now in
    let end : Running = g.C.Cells.run c.get.new.self in
    let lacks = c.in_err-pointer.ensures in
    let lacked = read_lacked c.args.here.cell start end c.in_err-pointer.field-0.0 lacks.part lacks.runs in
    let came = asking.came_still c.args.plot.now c.args.low c.args.here start end lacks.part lacks.runs.goes c.requires.came in
    rw (e.1, e.2, lacked.1) (asking.needs_cell c.args.plot.now c.args.low c.args.here end.part came lacked.0)

pub returns-then-pointer-eq0-clause-passes : goal.returns-then-pointer-eq0-clause-passes
returns-then-pointer-eq0-clause-passes g c =
    let start : Running = g.C.Cells.run c.args.cells.now in
    let end : Running = g.C.Cells.run c.get.new.self in
    let read = c.in_ok-pointer.ensures in
    asking.bucket_over c.args.plot.now c.args.low c.args.here end.part
    (asking.came_still c.args.plot.now c.args.low c.args.here start end read.part read.runs.goes c.requires.came)
    c.in_ok-pointer.pointer
    (read_gave c.args.here.cell c.in_ok-pointer.pointer start end read.runs).1
    (elim c.then-pointer-eq0.branch [
      | then-pointer-eq0-via-then-pointer-eq0 w ↦ inl w.if-pointer-eq0.true
      | then-pointer-eq0-via-else-pointer-eq0+then-here-plot w ↦ inr w.if-here-plot.true
    ])

pub block-requires-clause-block : goal.block-requires-clause-block
block-requires-clause-block g c =
    let read = c.in_ok-pointer.ensures in
    asking.block_below c.args.plot.now c.args.low c.args.here _ c.requires.may c.requires.came (g.C.Cells.run c.get.new.self) c.in_ok-pointer.pointer read.part read.runs c.if-pointer-eq0.false

pub get-requires-2-clause-below : goal.get-requires-2-clause-below
get-requires-2-clause-below g c =
    let read = c.in_ok-pointer.ensures in
    asking.key_inside c.args.plot.now c.args.low c.args.here _ c.requires.may c.requires.came (g.C.Cells.run c.get.new.self) c.in_ok-pointer.pointer read.part read.runs c.if-pointer-eq0.false c.block.result c.block.ensures

pub get-requires-2-clause-lacks : goal.get-requires-2-clause-lacks
get-requires-2-clause-lacks g c =
    let read = c.in_ok-pointer.ensures in
    asking.asks_key c.args.plot.now c.args.low c.args.here _ c.requires.may c.requires.came (g.C.Cells.run c.get.new.self) c.in_ok-pointer.pointer read.part read.runs c.if-pointer-eq0.false c.block.result c.block.ensures c.if-here-plot.false

pub returns-in_err-key-clause-goes : goal.returns-in_err-key-clause-goes
returns-in_err-key-clause-goes g c = goes_further _ (g.C.Cells.run c.get.new.self) (g.C.Cells.run c.get-2.new.self) c.in_ok-pointer.ensures.runs.goes c.in_err-key.ensures.runs.goes

pub returns-in_err-key-clause-passes : goal.returns-in_err-key-clause-passes
returns-in_err-key-clause-passes g c =
    let e = err_from_is_err_and c.from_residual-in_err-key.result c.from_residual-in_err-key.ensures.1 in
    let start : Running = g.C.Cells.run c.args.cells.now in
    let between : Running = g.C.Cells.run c.get.new.self in
    let end : Running = g.C.Cells.run c.get-2.new.self in
    let read = c.in_ok-pointer.ensures in
    let lacks = c.in_err-key.ensures in
    let lacked = read_lacked c.block.result between end c.in_err-key.field-0.0 lacks.part lacks.runs in
    let came = asking.came_still c.args.plot.now c.args.low c.args.here start between read.part read.runs.goes c.requires.came in
    let at = (read_gave c.args.here.cell c.in_ok-pointer.pointer start between read.runs).1 in
    rw (e.1, e.2, lacked.1, c.block.ensures) (asking.needs_key c.args.plot.now c.args.low c.args.here end.part
    (asking.came_still c.args.plot.now c.args.low c.args.here between end lacks.part lacks.runs.goes came)
    c.in_ok-pointer.pointer c.if-pointer-eq0.false c.if-here-plot.false
    (still_known between end c.args.here.cell c.in_ok-pointer.pointer lacks.part lacks.runs.goes at) (rw c.block.ensures at lacked.0))

pub block-requires-2-clause-block : goal.block-requires-2-clause-block
block-requires-2-clause-block g c =
    let read = c.in_ok-pointer.ensures in
    asking.block_below c.args.plot.now c.args.low c.args.here _ c.requires.may c.requires.came (g.C.Cells.run c.get.new.self) c.in_ok-pointer.pointer read.part read.runs c.if-pointer-eq0.false

pub returns-clause-goes : goal.returns-clause-goes
returns-clause-goes g c = goes_further _ (g.C.Cells.run c.get.new.self) (g.C.Cells.run c.get-2.new.self) c.in_ok-pointer.ensures.runs.goes c.in_ok-key.ensures.runs.goes

pub returns-clause-passes : goal.returns-clause-passes
returns-clause-passes g c =
    let o : ℕ = base c.args.plot.now in
    let start : Running = g.C.Cells.run c.args.cells.now in
    let between : Running = g.C.Cells.run c.get.new.self in
    let end : Running = g.C.Cells.run c.get-2.new.self in
    let read = c.in_ok-pointer.ensures in
    let key = c.in_ok-key.ensures in
    let b : ℕ = c.in_ok-pointer.pointer - 1 in
    let there = (read_gave c.args.here.cell c.in_ok-pointer.pointer start between read.runs).1 in
    let at : newest_at end.part c.args.here.cell ≡ Some (suc b) = still_known between end c.args.here.cell c.in_ok-pointer.pointer key.part key.runs.goes there ∙ ap Some (is_suc c.in_ok-pointer.pointer c.if-pointer-eq0.false) in
    let found : newest_at end.part (first_at o b) ≡ Some c.in_ok-key.key = rw c.block.ensures at (read_gave c.block.result c.in_ok-key.key between end key.runs).1 in
    let came = asking.came_still c.args.plot.now c.args.low c.args.here between end key.part key.runs.goes
    (asking.came_still c.args.plot.now c.args.low c.args.here start between read.part read.runs.goes c.requires.came) in
    rw (c.block-2.ensures, c.better.ensures) (
      (
        omega (arith, came.0, c.if-here-plot.false),
        came.1,
        came.2,
        came.3,
        weighs_on o c.args.low end.part c.args.here.passed (bucket_at o c.args.plot.now.blocks c.args.here.bucket) came.2 c.args.here.cell c.args.here.best b c.in_ok-key.key at found came.4,
      ),
      refl,
      refl,
    )
