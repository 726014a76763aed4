use Rattle.std.proofs.Common.{◌+◌, arith}
use Rattle.std.proofs.lemmas.Result.{err_from_is_err_and}
use Rattle.of_mem.specs.Numbers.{FitsCell}
use Rattle.of_queue.proofs.AppendsOn.{tail_may_read, tail_lacks, tail_few, items_may_read, items_lacks, one_more, appended}
use Rattle.of_queue.proofs.append.Goals as goal

pub get-requires-clause-lacks : goal.get-requires-clause-lacks
get-requires-clause-lacks g c = rw c.tail.ensures (tail_may_read c.args.plot.now c.args.queue c.args.value c.args.block _ _ _ c.requires (rw c.block.ensures at c.set.ensures) (rw c.block-2.ensures at c.set-2.ensures))

pub returns-in_err-tail-clause-runs : goal.returns-in_err-tail-clause-runs
returns-in_err-tail-clause-runs g c =
    let p = err_from_is_err_and c.from_residual.result c.from_residual.ensures.1 in
    rw (p.1, p.2) (tail_lacks c.args.plot.now c.args.queue c.args.value c.args.block _ _ _ c.requires (rw c.block.ensures at c.set.ensures) (rw c.block-2.ensures at c.set-2.ensures) _ _ (rw c.tail.ensures at c.in_err-tail.ensures.runs))

pub last_cell-requires-clause-tail : goal.last_cell-requires-clause-tail
last_cell-requires-clause-tail g c = tail_few c.args.plot.now c.args.queue c.args.value c.args.block _ _ _ c.requires (rw c.block.ensures at c.set.ensures) (rw c.block-2.ensures at c.set-2.ensures) _ c.in_ok-tail.tail (rw c.tail.ensures at c.in_ok-tail.ensures.runs)

pub get-requires-2-clause-lacks : goal.get-requires-2-clause-lacks
get-requires-2-clause-lacks g c = rw c.length.ensures (items_may_read c.args.plot.now c.args.queue c.args.value c.args.block _ _ _ c.requires (rw c.block.ensures at c.set.ensures) (rw c.block-2.ensures at c.set-2.ensures) _ c.in_ok-tail.tail (rw c.tail.ensures at c.in_ok-tail.ensures.runs) _ _ (rw c.last_cell.ensures.value at c.set-3.ensures) (rw c.tail-2.ensures at c.set-4.ensures))

pub returns-in_err-items-clause-runs : goal.returns-in_err-items-clause-runs
returns-in_err-items-clause-runs g c =
    let p = err_from_is_err_and c.from_residual-in_err-items.result c.from_residual-in_err-items.ensures.1 in
    rw (p.1, p.2) (items_lacks c.args.plot.now c.args.queue c.args.value c.args.block _ _ _ c.requires (rw c.block.ensures at c.set.ensures) (rw c.block-2.ensures at c.set-2.ensures) _ c.in_ok-tail.tail (rw c.tail.ensures at c.in_ok-tail.ensures.runs) _ _ (rw c.last_cell.ensures.value at c.set-3.ensures) (rw c.tail-2.ensures at c.set-4.ensures) _ _ (rw c.length.ensures at c.in_err-items.ensures.runs))

pub overflow_add-items : goal.overflow_add-items
overflow_add-items g c =
    let k : FitsCell (c.in_ok-items.items + 1) = one_more c.args.plot.now c.args.queue c.args.value c.args.block _ _ _ c.requires (rw c.block.ensures at c.set.ensures) (rw c.block-2.ensures at c.set-2.ensures) _ c.in_ok-tail.tail (rw c.tail.ensures at c.in_ok-tail.ensures.runs) _ _ (rw c.last_cell.ensures.value at c.set-3.ensures) (rw c.tail-2.ensures at c.set-4.ensures) _ _ (rw c.length.ensures at c.in_ok-items.ensures.runs) in
    omega (arith, k)

pub returns-clause-runs : goal.returns-clause-runs
returns-clause-runs g c = appended c.args.plot.now c.args.queue c.args.value c.args.block _ _ _ c.requires (rw c.block.ensures at c.set.ensures) (rw c.block-2.ensures at c.set-2.ensures) _ c.in_ok-tail.tail (rw c.tail.ensures at c.in_ok-tail.ensures.runs) _ _ (rw c.last_cell.ensures.value at c.set-3.ensures) (rw c.tail-2.ensures at c.set-4.ensures) _ _ (rw c.length.ensures at c.in_ok-items.ensures.runs) _ (rw c.length-2.ensures at c.set-5.ensures)
