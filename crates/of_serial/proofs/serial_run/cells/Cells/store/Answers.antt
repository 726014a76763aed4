use Rattle.std.proofs.Common.{rules, arith, ◌∙◌}
use Rattle.std.proofs.lemmas.Result.{MatchResult-at_ok}
use Rattle.of_mem.specs.Part.{ReadsAt}
use Rattle.of_serial.proofs.Cases.{ok_unless}
use Rattle.of_serial.proofs.KnownCells.{width, can_be_read, read_more, all_read, stands_for}
use Rattle.of_serial.proofs.serial_run.cells.Cells.store.Goals as goal

pub read-requires : goal.read-requires
read-requires c = rw c.part.ensures (omega (arith, width c.args.self.now c.requires.0 c.requires.1, c.cells-cell-end.ensures))

pub unwrap-requires : goal.unwrap-requires
unwrap-requires c =
    let reads : ReadsAt c.args.self.now.part c.loop-cell.cell c.read.result = rw (← c.part.ensures) c.read.ensures in
    ok_unless c.read.result _ _ reads (λ need q. can_be_read c.args.self.now c.requires.0 c.requires.1 c.loop-cell.cell (omega (arith, c.cells-cell-end.ensures)) q.0)

pub loop-cell-preserved : goal.loop-cell-preserved
loop-cell-preserved c =
    let reads : ReadsAt c.args.self.now.part c.loop-cell.cell c.read.result = rw (← c.part.ensures) c.read.ensures in
    read_more c.args.self.now c.requires.0 c.requires.1 c.loop-cell.cell c.unwrap.result c.loop-cell.cells.items _ (omega (arith, c.cells-cell-end.ensures))
    c.loop-cell.invariant (MatchResult-at_ok _ _ c.unwrap.result c.unwrap.ensures reads) c.in_ok-push.ensures.items

pub returns-in-Ok : goal.returns-in-Ok
returns-in-Ok c = λ s h. c.in-Ok.ensures.only s
    (stands_for c.args.self.now s h _ _ _ _ c.plot.ensures.callers c.plot.ensures.instrs (omega arith)
    (c.deref.ensures.value ∙ all_read c.args.self.now s h c.loop-cell.cell c.loop-cell.cells.items (omega (arith, c.cells-cell-end.ensures)) c.loop-cell.invariant))

pub unreachable-requires : goal.unreachable-requires
unreachable-requires c =
    let is = c.in-Err-Unlawful.ensures.only c.requires.0
    (stands_for c.args.self.now c.requires.0 c.requires.1 _ _ _ _ c.plot.ensures.callers c.plot.ensures.instrs (omega arith)
    (c.deref.ensures.value ∙ all_read c.args.self.now c.requires.0 c.requires.1 c.loop-cell.cell c.loop-cell.cells.items (omega (arith, c.cells-cell-end.ensures)) c.loop-cell.invariant)) in
    cc (is, c.in-Err-Unlawful.field-0-is)
