use Rattle.std.proofs.Common.{ℕ, ◌∙◌, length, Option, Some, sym, ap, subst, arith}
use Rattle.std.proofs.lemmas.Result.{err_from_is_err_and}
use Rattle.of_mem.specs.Plots.{base}
use Rattle.of_mem.specs.Stores.{queue_chain, last_pointer}
use Rattle.of_mem.proofs.Heaps.{front_head}
use Rattle.of_eval.specs.Walking.{LinkLeadsOn}
use Rattle.of_eval.proofs.Beginnings.{here_below, stepped_smaller, stepped_end}
use Rattle.of_eval.proofs.Passing.{pointer_fault, here_push, with_block}
use Rattle.of_eval.proofs.Buckets.{here_start}
use Rattle.of_eval.proofs.Queues.{item_room, last_push, item_fault, met_item, tail_fault, length_fault, queue_ends}
use Rattle.of_eval.proofs.lawful_cells.walk.queue.Goals as goal

pub loop-block-init : goal.loop-block-init
loop-block-init c =
    let h = c.requires.before in
    (h.chains, h.walked, h.kept, c.head-cell.ensures ∙ sym (here_start (base c.args.plot.now) c.args.plot.now.blocks (queue_chain c.args.plot.now.blocks c.args.q) h.chains h.start ∙ front_head (base c.args.plot.now) c.args.plot.now.blocks c.args.q), ap (last_pointer 0) (sym h.start))

pub next-requires-clause-cell : goal.next-requires-clause-cell
next-requires-clause-cell c =
    let i = c.loop-block.invariant in
    let h = here_below c.args.plot.now c.args.cells.now (queue_chain c.args.plot.now.blocks c.args.q) (queue_chain c.args.plot.now.blocks c.args.q) i.0 c.loop-block.owners i.1 (omega (arith, c.requires.q)) in
    omega (arith, h, i.3, c.requires.sized)

pub returns-in_err-block-clause-err : goal.returns-in_err-block-clause-err
returns-in_err-block-clause-err c =
    let i = c.loop-block.invariant in
    let q = err_from_is_err_and c.from_residual.result c.from_residual.ensures.1 in
    rw (q.1, q.2) (pointer_fault c.args.plot.now c.args.cells.now (queue_chain c.args.plot.now.blocks c.args.q) (queue_chain c.args.plot.now.blocks c.args.q) i.0 c.loop-block.owners i.1 c.loop-block.cell c.in_err-block.field-0.0 (omega (arith, c.requires.q)) i.1.counted i.3 c.in_err-block.ensures.err)

pub returns-then-item-gt-GREATEST-clause-err : goal.returns-then-item-gt-GREATEST-clause-err
returns-then-item-gt-GREATEST-clause-err c =
    let i = c.loop-block.invariant in
    let s = subst (λ (n : ℕ). LinkLeadsOn c.args.cells.now c.loop-block.cell n c.loop-block.owners c.next.new.owners (Some c.in-Some.block)) c.chain_of_queue-chain.ensures.value (subst (λ (o : Option ℕ). LinkLeadsOn c.args.cells.now c.loop-block.cell c.chain_of_queue-chain.result c.loop-block.owners c.next.new.owners o) c.in-Some.is c.in_ok-block.ensures.ok) in
    item_fault c.args.plot.now c.args.cells.now c.args.q i.0 c.loop-block.owners c.loop-block.store c.requires.q i.1 i.2 c.loop-block.cell c.in-Some.block c.next.new.owners i.3 s c.block-first.result c.block-first.ensures c.if-item-gt-GREATEST.true

pub push-requires-clause-room : goal.push-requires-clause-room
push-requires-clause-room c =
    let i = c.loop-block.invariant in
    let s = subst (λ (n : ℕ). LinkLeadsOn c.args.cells.now c.loop-block.cell n c.loop-block.owners c.next.new.owners (Some c.in-Some.block)) c.chain_of_queue-chain.ensures.value (subst (λ (o : Option ℕ). LinkLeadsOn c.args.cells.now c.loop-block.cell c.chain_of_queue-chain.result c.loop-block.owners c.next.new.owners o) c.in-Some.is c.in_ok-block.ensures.ok) in
    item_room c.args.plot.now c.args.cells.now c.args.q i.0 c.loop-block.owners c.loop-block.store c.requires.q i.1 i.2 c.loop-block.cell c.in-Some.block c.next.new.owners i.3 s

pub loop-block-smaller : goal.loop-block-smaller
loop-block-smaller c =
    let i = c.loop-block.invariant in
    let s = subst (λ (o : Option ℕ). LinkLeadsOn c.args.cells.now c.loop-block.cell c.chain_of_queue-chain.result c.loop-block.owners c.next.new.owners o) c.in-Some.is c.in_ok-block.ensures.ok in
    stepped_smaller c.args.cells.now c.loop-block.cell c.chain_of_queue-chain.result c.in-Some.block c.loop-block.owners c.next.new.owners s

pub loop-block-preserved : goal.loop-block-preserved
loop-block-preserved c =
    let i = c.loop-block.invariant in
    let s = subst (λ (n : ℕ). LinkLeadsOn c.args.cells.now c.loop-block.cell n c.loop-block.owners c.next.new.owners (Some c.in-Some.block)) c.chain_of_queue-chain.ensures.value (subst (λ (o : Option ℕ). LinkLeadsOn c.args.cells.now c.loop-block.cell c.chain_of_queue-chain.result c.loop-block.owners c.next.new.owners o) c.in-Some.is c.in_ok-block.ensures.ok) in
    let m = met_item c.args.plot.now c.args.cells.now c.args.q i.0 c.loop-block.owners c.loop-block.store c.requires.q i.1 i.2 c.loop-block.cell c.in-Some.block c.next.new.owners i.3 s c.block-first.result c.block-first.ensures c.push.new.store (omega (arith, c.if-item-gt-GREATEST.false)) c.in_ok-push.ensures in (
      with_block i.0 (queue_chain c.args.plot.now.blocks c.args.q) c.in-Some.block,
      m.0,
      m.1,
      c.block-cell.ensures ∙ sym (here_push c.args.plot.now c.args.cells.now (queue_chain c.args.plot.now.blocks c.args.q) (queue_chain c.args.plot.now.blocks c.args.q) i.0 c.loop-block.owners i.1 c.in-Some.block),
      sym (last_push c.args.plot.now c.args.cells.now c.args.q i.0 c.loop-block.owners c.loop-block.store c.requires.q i.1 i.2 c.loop-block.cell c.in-Some.block c.next.new.owners i.3 s),
    )

pub returns-then-cells-tail-clause-err : goal.returns-then-cells-tail-clause-err
returns-then-cells-tail-clause-err c =
    let i = c.loop-block.invariant in
    let s = stepped_end c.args.cells.now c.loop-block.cell c.chain_of_queue-chain.result c.loop-block.owners c.next.new.owners c.in_ok-block.field-0 c.in_default.not-Some c.in_ok-block.ensures.ok in
    tail_fault c.args.plot.now c.args.cells.now c.args.q i.0 c.loop-block.owners c.loop-block.store c.requires.q i.1 i.2 c.loop-block.cell c.next.new.owners i.3 s.0 s.1 c.tail-tail.result c.loop-block.last c.tail-tail.ensures i.4 (λ e. omega (arith, e, c.if-cells-tail.true))

pub returns-then-cells-length-clause-err : goal.returns-then-cells-length-clause-err
returns-then-cells-length-clause-err c =
    let i = c.loop-block.invariant in
    let s = stepped_end c.args.cells.now c.loop-block.cell c.chain_of_queue-chain.result c.loop-block.owners c.next.new.owners c.in_ok-block.field-0 c.in_default.not-Some c.in_ok-block.ensures.ok in
    length_fault c.args.plot.now c.args.cells.now c.args.q i.0 c.loop-block.owners c.loop-block.store c.requires.q i.1 i.2 c.loop-block.cell c.next.new.owners i.3 s.0 s.1 c.tail-tail.result c.loop-block.last c.tail-tail.ensures i.4 (omega (arith, c.if-cells-tail.false)) c.length-length.result c.length-length.ensures (λ e. let ok = c.queue.result.now.ok in let l = ap length c.queue.ensures in omega (arith, e, ok, c.len.ensures, l, c.if-cells-length.true))

pub returns-clause-ok : goal.returns-clause-ok
returns-clause-ok c =
    let i = c.loop-block.invariant in
    let s = stepped_end c.args.cells.now c.loop-block.cell c.chain_of_queue-chain.result c.loop-block.owners c.next.new.owners c.in_ok-block.field-0 c.in_default.not-Some c.in_ok-block.ensures.ok in
    queue_ends c.args.plot.now c.args.cells.now c.args.q i.0 c.loop-block.owners c.loop-block.store c.requires.q i.1 i.2 c.loop-block.cell c.next.new.owners i.3 s.0 s.1 c.tail-tail.result c.loop-block.last c.tail-tail.ensures i.4 (omega (arith, c.if-cells-tail.false)) c.length-length.result c.length-length.ensures (let ok = c.queue.result.now.ok in let l = ap length c.queue.ensures in omega (arith, c.if-cells-length.false, ok, c.len.ensures, l))
