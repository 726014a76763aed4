-- What the queues' calls know of the cells that they read.
use Rattle.std.proofs.Common.{◌≡◌, ℕ, zero, suc, ◌+◌, ◌-◌, ◌<◌, ◌≢◌, refl, sym, ◌∙◌, ap, subst, arith, Option, Some, List, [], ◌∷◌, map, length, Ok}
use Rattle.std.specs.List.{AllByRecursion as Each}
use Rattle.of_mem.specs.Places.{fresh_at, free_at, head_at, tail_at, length_at}
use Rattle.of_mem.specs.Part.{Part, newest_at, write}
use Rattle.of_mem.specs.Programs.{memory_after, with_value}
use Rattle.of_mem.specs.Stores.{queue_chain, IsChain, front_at, first_at, link_at}
use Rattle.of_mem.specs.declared.plot.Plot.{Plot}
use Rattle.of_mem.specs.Plots.{base}
use Rattle.of_mem.specs.Calls.{RunsProgram, HasStore}
use Rattle.of_mem.proofs.Changes.{changed_other}
use Rattle.of_mem.proofs.Counts.{tail_small, length_small}
use Rattle.of_mem.proofs.Heaps.{front_head, chain_changed}
use Rattle.of_mem.proofs.Runs.{part_wrote}
use Rattle.of_alloc.specs.Blocks.{IsFreeList, IsOut}
use Rattle.of_alloc.specs.BlockPrograms.{take}
use Rattle.of_alloc.proofs.Stored.{took, took_below}
use Rattle.of_queue.specs.QueuePrograms.{last_cell}
use Rattle.of_queue.specs.Fronts.{CanAppend, IsFront, IsPopped}
use Rattle.of_queue.proofs.Pops.{popped}

-- what is known after a block was taken
pub after_take : (plot : Plot) (q : ℕ) → q < 4 → (p n : Part) (x : Option ℕ) (b : ℕ) → HasStore plot p → RunsProgram (take plot) p n (Ok x) → x ≡ Some b → CanAppend plot n q b
after_take plot q l p n x b has e is =
    let o = base plot in
    let m = has.memory in
    let h = has.stands in
    let t = took o plot.blocks plot.few_blocks m has.store h p n x b has.part e.walk is in
    record {
      fits = ap length e.known ∙ has.fits;
      queue = l;
      below = took_below o plot.blocks plot.few_blocks m has.store h b (memory_after (take plot) m) t.0;
      tail = λ k w. let y : m (tail_at o q) ≡ k = sym (t.0.cells (tail_at o q) (λ e. omega arith) (λ e. omega arith)) ∙ t.1 (tail_at o q) k w in omega (arith, tail_small o plot.blocks m has.store h q l);
      items = λ k w. let y : m (length_at o q) ≡ k = sym (t.0.cells (length_at o q) (λ e. omega arith) (λ e. omega arith)) ∙ t.1 (length_at o q) k w in omega (arith, length_small o plot.blocks m has.store h q l);
    }

-- the last pointer cell of a queue is no length
pub last_apart : (o q tail : ℕ) → q < 4 → length_at o q ≢ last_cell o q tail
last_apart o q zero l e = omega arith
last_apart o q (suc t) l e = omega arith

-- the front of a queue that isn't empty
pub front_is : (plot : Plot) (p : Part) (q f a : ℕ) → q < 4 → HasStore plot p → a ≡ head_at (base plot) q → newest_at p a ≡ Some f → f ≢ 0 → IsFront plot p q (f - 1)
front_is plot p q f a l has at e n = go (has.stands.chains (queue_chain plot.blocks q)) refl
  where
    head : has.memory (front_at (base plot) plot.blocks (queue_chain plot.blocks q)) ≡ f
    head = rw (front_head (base plot) plot.blocks q) (has.part (head_at (base plot) q) f (rw at at e))

    go : (l : List ℕ) → has.stands.chains (queue_chain plot.blocks q) ≡ l → IsFront plot p q (f - 1)
    go [] is = absurd (n (sym head ∙ subst (IsChain (base plot) has.memory (front_at (base plot) plot.blocks (queue_chain plot.blocks q))) is (has.stands.heap.linked (queue_chain plot.blocks q) (omega arith))))
    go (b ∷ rest) is =
        let first : has.memory (front_at (base plot) plot.blocks (queue_chain plot.blocks q)) ≡ b + 1 = (subst (IsChain (base plot) has.memory (front_at (base plot) plot.blocks (queue_chain plot.blocks q))) is (has.stands.heap.linked (queue_chain plot.blocks q) (omega arith))).0 in
        let same : b ≡ f - 1 = omega (arith, head) in
        record { fits = has.fits; queue = l; memory = has.memory; store = has.store; part = has.part; stands = has.stands; rest = rest; front = rw (← same) is }

-- the write that takes a queue's front block out of it
pub pops_out : (plot : Plot) (p n : Part) (q b link c : ℕ) → IsFront plot p q b → newest_at p (link_at (base plot) b) ≡ Some link → c ≡ head_at (base plot) q → n ≡ write p c link → n.known ≡ p.known → IsPopped plot n q b
pops_out plot p n q b link c k e at is known =
    let o = base plot in
    let m = k.memory in
    let same : m (link_at o b) ≡ link = k.part (link_at o b) link e in
    let f : ℕ → ℕ = λ (x : ℕ). m (first_at o x) in
    let has : k.store.queues q ≡ f b ∷ map f k.rest = sym (k.stands.holds.queues q k.queue).listed ∙ ap (map f) k.front in
    let u = popped o plot.blocks m k.store k.stands q b k.rest (map f k.rest) k.queue k.front has p k.part in
    record {
      queue = k.queue;
      block = record { fits = ap length known ∙ k.fits; memory = _; free = _; part = rw (is, at, ← same) u.0; list = u.1; out = u.2 };
      items = u.3;
    }

-- a cleared tail leaves the free list, and what is out, as they were
cleared : (o blocks : ℕ) (m : ℕ → ℕ) (free : List ℕ) (q b : ℕ) → IsFreeList o blocks m free → IsOut o m free b → IsFreeList o blocks (with_value m (tail_at o q) 0) free × IsOut o (with_value m (tail_at o q) 0) free b
cleared o blocks m free q b list out = (
  record {
    linked = chain_changed o m (tail_at o q) 0 (free_at o) free (λ (e : free_at o ≡ tail_at o q). omega arith) (links free) list.linked;
    below = subst (λ (f : ℕ). Each (λ x. x < f) free) (sym fresh) list.below;
    few = rw fresh list.few;
  },
  (rw fresh out.0, out.1),
)
  where
    fresh : with_value m (tail_at o q) 0 (fresh_at o) ≡ m (fresh_at o)
    fresh = changed_other m (tail_at o q) 0 (fresh_at o) (λ e. omega arith)

    links : (l : List ℕ) → Each (λ x. link_at o x ≢ tail_at o q) l
    links [] = tt
    links (x ∷ l) = ((λ (e : link_at o x ≡ tail_at o q). omega arith), links l)

-- the block is still out after the tail was cleared
pub popped_tail : (plot : Plot) (p n : Part) (q b c : ℕ) → IsPopped plot p q b → c ≡ tail_at (base plot) q → n ≡ write p c 0 → n.known ≡ p.known → IsPopped plot n q b
popped_tail plot p n q b c k at is known =
    let o = base plot in
    let h = k.block in
    let u = cleared o plot.blocks h.memory h.free q b h.list h.out in
    record {
      queue = k.queue;
      block = record { fits = ap length known ∙ h.fits; memory = _; free = _; part = rw (is, at) (part_wrote p h.memory (tail_at o q) 0 h.part); list = u.0; out = u.1 };
      items = rw (changed_other h.memory (tail_at o q) 0 (length_at o q) (λ e. omega arith)) k.items;
    }
