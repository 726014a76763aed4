use Rattle.std.proofs.Common.{ℕ, ◌≡◌, ◌+◌, ◌++◌, ◌∙◌, List, length, take, drop, sym, subst, arith}
use Rattle.std.proofs.lemmas.List.{take-append-le, take_all}
use Rattle.std.proofs.lemmas.Result.{err_from_is_err_and}
use Rattle.of_eval.specs.Walking.{IsBeforeChain}
use Rattle.of_eval.proofs.Beginnings.{begins}
use Rattle.of_eval.proofs.lawful_cells.read_store.Goals as goal
use Rattle.of_mem.specs.Stores.{out_chain, queue_chain}

-- a whole table is written back
back : (n : ℕ) (xs ys : List ℕ) → length xs ≡ n → take n (xs ++ ys) ≡ xs
back n xs ys e = take-append-le n xs ys (omega arith) ∙ take_all n xs (omega arith)

pub loop-b-init : goal.loop-b-init
loop-b-init c =
    let e = back c.in_ok-owners.owners.len c.free_list.new.owners (drop (length c.free_list.new.owners) c.in_ok-owners.owners.items) (omega (arith, c.free_list.auto.owners, c.deref_mut.ensures.len)) in
    subst (λ (xs : List ℕ). IsBeforeChain c.args.plot.now c.args.cells.now 1 0 xs c.in_ok-store.store) (sym e) (begins c.args.plot.now c.args.cells.now c.free_list.new.owners c.in_ok-store.store c.in_ok-free_list.ensures.ok c.in_ok-store.ensures)

pub loop-b-preserved : goal.loop-b-preserved
loop-b-preserved c =
    let e = back c.loop-b.owners.len c.bucket.new.owners (drop (length c.bucket.new.owners) c.loop-b.owners.items) (omega (arith, c.bucket.auto.owners, c.deref_mut-in-loop-b.ensures.len)) in
    let n : 2 + c.loop-b.b ≡ 1 + (c.loop-b.b + 1) = omega arith in
    subst (λ (k : ℕ). IsBeforeChain c.args.plot.now c.args.cells.now k 0 (take c.loop-b.owners.len (c.bucket.new.owners ++ drop (length c.bucket.new.owners) c.loop-b.owners.items)) c.bucket.new.store) n
    (subst (λ (xs : List ℕ). IsBeforeChain c.args.plot.now c.args.cells.now (2 + c.loop-b.b) 0 xs c.bucket.new.store) (sym e) c.in_ok-bucket.ensures.ok)

pub returns-in_err-keys-clause-unlawful : goal.returns-in_err-keys-clause-unlawful
returns-in_err-keys-clause-unlawful c =
    let q = err_from_is_err_and c.from_residual-in_err-keys.result c.from_residual-in_err-keys.ensures.1 in
    let n : 1 + c.loop-b.b ≡ queue_chain c.args.plot.now.blocks 0 = omega (arith, c.loop-b.auto.b-end, c.loop-b-test.false, c.buckets-b-end.ensures.value) in
    rw (q.1, q.2) (c.in_err-keys.ensures.err c.loop-b.owners.items (subst (λ (k : ℕ). IsBeforeChain c.args.plot.now c.args.cells.now k 0 c.loop-b.owners.items c.loop-b.store) n c.loop-b.invariant))

pub loop-q-init : goal.loop-q-init
loop-q-init c =
    let n : 1 + c.loop-b.b ≡ queue_chain c.args.plot.now.blocks 0 = omega (arith, c.loop-b.auto.b-end, c.loop-b-test.false, c.buckets-b-end.ensures.value) in
    c.in_ok-keys.ensures.ok c.loop-b.owners.items (subst (λ (k : ℕ). IsBeforeChain c.args.plot.now c.args.cells.now k 0 c.loop-b.owners.items c.loop-b.store) n c.loop-b.invariant)

pub loop-q-preserved : goal.loop-q-preserved
loop-q-preserved c =
    let e = back c.loop-q.owners.len c.queue.new.owners (drop (length c.queue.new.owners) c.loop-q.owners.items) (omega (arith, c.queue.auto.owners, c.deref_mut-in-loop-q.ensures.len)) in
    let n : queue_chain c.args.plot.now.blocks (1 + c.loop-q.q) ≡ queue_chain c.args.plot.now.blocks (c.loop-q.q + 1) = omega arith in
    subst (λ (k : ℕ). IsBeforeChain c.args.plot.now c.args.cells.now k k (take c.loop-q.owners.len (c.queue.new.owners ++ drop (length c.queue.new.owners) c.loop-q.owners.items)) c.queue.new.store) n
    (subst (λ (xs : List ℕ). IsBeforeChain c.args.plot.now c.args.cells.now (queue_chain c.args.plot.now.blocks (1 + c.loop-q.q)) (queue_chain c.args.plot.now.blocks (1 + c.loop-q.q)) xs c.queue.new.store) (sym e) c.in_ok-queue.ensures.ok)

pub returns-in_err-all_met-clause-unlawful : goal.returns-in_err-all_met-clause-unlawful
returns-in_err-all_met-clause-unlawful c =
    let q = err_from_is_err_and c.from_residual-in_err-all_met.result c.from_residual-in_err-all_met.ensures.1 in
    let n : queue_chain c.args.plot.now.blocks c.loop-q.q ≡ out_chain c.args.plot.now.blocks = omega (arith, c.loop-q.auto.q-end, c.loop-q-test.false) in
    rw (q.1, q.2) (c.in_err-all_met.ensures.err c.loop-q.store
    (subst (λ (xs : List ℕ). IsBeforeChain c.args.plot.now c.args.cells.now (out_chain c.args.plot.now.blocks) (out_chain c.args.plot.now.blocks) xs c.loop-q.store) (sym c.deref.ensures.value) (subst (λ (k : ℕ). IsBeforeChain c.args.plot.now c.args.cells.now k k c.loop-q.owners.items c.loop-q.store) n c.loop-q.invariant)))

pub returns-clause-ok : goal.returns-clause-ok
returns-clause-ok c =
    let n : queue_chain c.args.plot.now.blocks c.loop-q.q ≡ out_chain c.args.plot.now.blocks = omega (arith, c.loop-q.auto.q-end, c.loop-q-test.false) in
    c.in_ok-all_met.ensures.ok c.loop-q.store
    (subst (λ (xs : List ℕ). IsBeforeChain c.args.plot.now c.args.cells.now (out_chain c.args.plot.now.blocks) (out_chain c.args.plot.now.blocks) xs c.loop-q.store) (sym c.deref.ensures.value) (subst (λ (k : ℕ). IsBeforeChain c.args.plot.now c.args.cells.now k k c.loop-q.owners.items c.loop-q.store) n c.loop-q.invariant))
