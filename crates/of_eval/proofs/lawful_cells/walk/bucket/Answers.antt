use Rattle.std.proofs.Common.{ℕ, ◌≡◌, ◌≢◌, ◌+◌, ◌%◌, ◌∙◌, Option, None, inl, inr, is_some, sym, ap, subst, arith}
use Rattle.std.specs.FinMap as fin
use Rattle.std.proofs.lemmas.Result.{err_from_is_err_and}
use Rattle.of_mem.specs.Places.{bucket_count}
use Rattle.of_mem.specs.ProgramWork.{memory_of}
use Rattle.of_mem.specs.Plots.{base}
use Rattle.of_mem.proofs.Heaps.{front_bucket}
use Rattle.of_eval.specs.Walking.{LinkLeadsOn}
use Rattle.of_eval.proofs.Beginnings.{here_below, stepped_smaller, stepped_end}
use Rattle.of_eval.proofs.Passing.{counted_few, pointer_fault, here_push, with_block}
use Rattle.of_mem.proofs.Unread.{unknown_there}
use Rattle.of_eval.proofs.Buckets.{here_start, met_key, key_fault, second_fault, room, met_entry, bucket_ends}
use Rattle.of_eval.proofs.lawful_cells.walk.bucket.Goals as goal
use Rattle.of_eval.proofs.lawful_cells.walk.bucket.Goals.{then-key-gt-GREATEST-via-then-key-gt-GREATEST, then-key-gt-GREATEST-via-else-key-gt-GREATEST+then-key-buckets, then-key-gt-GREATEST-via-else-key-gt-GREATEST+else-key-buckets+then-is_some}

-- the rest of a division by the same number
same_rest : (key n m b : ℕ) → n ≡ m → key % n ≡ b → key % m ≡ b
same_rest key n m b e h = ap (λ (x : ℕ). key % x) (sym e) ∙ h

pub loop-block-init : goal.loop-block-init
loop-block-init c =
    let h = c.requires.before in
    (h.chains, h.walked, h.kept, c.bucket-cell.ensures ∙ sym (here_start (base c.args.plot.now) c.args.plot.now.blocks (1 + c.args.b) h.chains h.start ∙ front_bucket (base c.args.plot.now) c.args.plot.now.blocks c.args.b c.requires.b))

pub next-requires-clause-cell : goal.next-requires-clause-cell
next-requires-clause-cell c =
    let i = c.loop-block.invariant in
    let h = here_below c.args.plot.now c.args.cells.now (1 + c.args.b) 0 i.0 c.loop-block.owners i.1 (omega (arith, c.requires.b)) in
    omega (arith, h, i.3, c.requires.sized)

pub returns-in_err-block-clause-err : goal.returns-in_err-block-clause-err
returns-in_err-block-clause-err c =
    let i = c.loop-block.invariant in
    let q = err_from_is_err_and c.from_residual.result c.from_residual.ensures.1 in
    rw (q.1, q.2) (pointer_fault c.args.plot.now c.args.cells.now (1 + c.args.b) 0 i.0 c.loop-block.owners i.1 c.loop-block.cell c.in_err-block.field-0.0 (omega (arith, c.requires.b)) (counted_few (base c.args.plot.now) c.args.plot.now.blocks (memory_of c.args.cells.now) (1 + c.args.b) i.0 (omega (arith, c.requires.b))) i.3 c.in_err-block.ensures.err)

pub returns-then-key-gt-GREATEST-clause-err : goal.returns-then-key-gt-GREATEST-clause-err
returns-then-key-gt-GREATEST-clause-err c =
    let i = c.loop-block.invariant in
    let s = subst (λ (o : Option ℕ). LinkLeadsOn c.args.cells.now c.loop-block.cell (1 + c.args.b) c.loop-block.owners c.next.new.owners o) c.in-Some.is c.in_ok-block.ensures.ok in
    let fault = key_fault c.args.plot.now c.args.cells.now c.args.b i.0 c.loop-block.owners c.loop-block.store c.requires.b i.1 i.2 c.loop-block.cell c.in-Some.block c.next.new.owners i.3 s c.block-first.result c.block-first.ensures in
    elim c.then-key-gt-GREATEST.branch [
      | then-key-gt-GREATEST-via-then-key-gt-GREATEST w ↦ fault (inl (λ n. omega (arith, n, w.if-key-gt-GREATEST.true)))
      | then-key-gt-GREATEST-via-else-key-gt-GREATEST+then-key-buckets w ↦ (
          let other : memory_of c.args.cells.now c.block-first.result % c.buckets-buckets.result ≢ c.args.b = omega (arith, w.if-key-buckets.true) in
          fault (inr (inl (λ e. other (same_rest (memory_of c.args.cells.now c.block-first.result) (bucket_count c.args.plot.now.blocks) c.buckets-buckets.result c.args.b (sym c.buckets-buckets.ensures.value) e)))))
      | then-key-gt-GREATEST-via-else-key-gt-GREATEST+else-key-buckets+then-is_some w ↦ fault (met_key c.args.plot.now c.args.cells.now c.args.b i.0 c.loop-block.owners c.loop-block.store c.requires.b i.1 i.2 (memory_of c.args.cells.now c.block-first.result) (same_rest (memory_of c.args.cells.now c.block-first.result) c.buckets-buckets.result (bucket_count c.args.plot.now.blocks) c.args.b c.buckets-buckets.ensures.value (omega (arith, w.if-key-buckets.false))) (sym (w.is_some.ensures ∙ ap is_some w.key.ensures.value) ∙ w.if-is_some.true))
    ]

pub returns-then-value-gt-GREATEST-clause-err : goal.returns-then-value-gt-GREATEST-clause-err
returns-then-value-gt-GREATEST-clause-err c =
    let i = c.loop-block.invariant in
    let s = subst (λ (o : Option ℕ). LinkLeadsOn c.args.cells.now c.loop-block.cell (1 + c.args.b) c.loop-block.owners c.next.new.owners o) c.in-Some.is c.in_ok-block.ensures.ok in
    let absent : fin.get c.loop-block.store.keys (memory_of c.args.cells.now c.block-first.result) ≡ None = unknown_there (fin.get c.loop-block.store.keys (memory_of c.args.cells.now c.block-first.result)) (sym (c.is_some.ensures ∙ ap is_some c.key.ensures.value) ∙ c.if-is_some.false) in
    second_fault c.args.plot.now c.args.cells.now c.args.b i.0 c.loop-block.owners c.loop-block.store c.requires.b i.1 i.2 c.loop-block.cell c.in-Some.block c.next.new.owners i.3 s c.block-first.result c.block-second.result c.block-first.ensures c.block-second.ensures (omega (arith, c.if-key-gt-GREATEST.false)) (same_rest (memory_of c.args.cells.now c.block-first.result) c.buckets-buckets.result (bucket_count c.args.plot.now.blocks) c.args.b c.buckets-buckets.ensures.value (omega (arith, c.if-key-buckets.false))) absent c.if-value-gt-GREATEST.true

pub put-requires-clause-room : goal.put-requires-clause-room
put-requires-clause-room c =
    let i = c.loop-block.invariant in
    let s = subst (λ (o : Option ℕ). LinkLeadsOn c.args.cells.now c.loop-block.cell (1 + c.args.b) c.loop-block.owners c.next.new.owners o) c.in-Some.is c.in_ok-block.ensures.ok in
    room c.args.plot.now c.args.cells.now c.args.b i.0 c.loop-block.owners c.loop-block.store c.requires.b i.1 i.2 c.loop-block.cell c.in-Some.block c.next.new.owners i.3 s

pub loop-block-smaller : goal.loop-block-smaller
loop-block-smaller c =
    let s = subst (λ (o : Option ℕ). LinkLeadsOn c.args.cells.now c.loop-block.cell (1 + c.args.b) c.loop-block.owners c.next.new.owners o) c.in-Some.is c.in_ok-block.ensures.ok in
    stepped_smaller c.args.cells.now c.loop-block.cell (1 + c.args.b) c.in-Some.block c.loop-block.owners c.next.new.owners s

pub loop-block-preserved : goal.loop-block-preserved
loop-block-preserved c =
    let i = c.loop-block.invariant in
    let s = subst (λ (o : Option ℕ). LinkLeadsOn c.args.cells.now c.loop-block.cell (1 + c.args.b) c.loop-block.owners c.next.new.owners o) c.in-Some.is c.in_ok-block.ensures.ok in
    let absent : fin.get c.loop-block.store.keys (memory_of c.args.cells.now c.block-first.result) ≡ None = unknown_there (fin.get c.loop-block.store.keys (memory_of c.args.cells.now c.block-first.result)) (sym (c.is_some.ensures ∙ ap is_some c.key.ensures.value) ∙ c.if-is_some.false) in
    let m = met_entry c.args.plot.now c.args.cells.now c.args.b i.0 c.loop-block.owners c.loop-block.store c.requires.b i.1 i.2 c.loop-block.cell c.in-Some.block c.next.new.owners i.3 s c.block-first.result c.block-second.result c.block-first.ensures c.block-second.ensures (omega (arith, c.if-key-gt-GREATEST.false)) (same_rest (memory_of c.args.cells.now c.block-first.result) c.buckets-buckets.result (bucket_count c.args.plot.now.blocks) c.args.b c.buckets-buckets.ensures.value (omega (arith, c.if-key-buckets.false))) absent c.put.new.store (omega (arith, c.if-value-gt-GREATEST.false)) c.in_ok-put.ensures in (
      with_block i.0 (1 + c.args.b) c.in-Some.block,
      m.0,
      m.1,
      c.block-cell.ensures ∙ sym (here_push c.args.plot.now c.args.cells.now (1 + c.args.b) 0 i.0 c.loop-block.owners i.1 c.in-Some.block),
    )

pub returns-clause-ok : goal.returns-clause-ok
returns-clause-ok c =
    let i = c.loop-block.invariant in
    let s = stepped_end c.args.cells.now c.loop-block.cell (1 + c.args.b) c.loop-block.owners c.next.new.owners c.in_ok-block.field-0 c.in_default.not-Some c.in_ok-block.ensures.ok in
    bucket_ends c.args.plot.now c.args.cells.now c.args.b i.0 c.loop-block.owners c.loop-block.store c.requires.b i.1 i.2 c.loop-block.cell c.next.new.owners i.3 s.0 s.1
