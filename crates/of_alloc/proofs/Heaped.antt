-- What taking and giving a block does to a heap of chains.
use Rattle.std.proofs.Common.{◌≡◌, ℕ, zero, suc, ◌+◌, ◌<◌, ◌≤◌, refl, sym, ◌∙◌, ap, subst, arith, ltb, Bool, true, false, Option, Some, None, List, [], ◌∷◌, length}
use Rattle.std.proofs.lemmas.Bool.{ltb-true, ltb-false}
use Rattle.of_mem.specs.Places.{fresh_at, free_at}
use Rattle.of_mem.specs.Programs.{with_value, program_answer, memory_after}
use Rattle.of_mem.specs.Stores.{out_chain, queue_chain, IsChain, IsHeap, link_at, blocks_in_chains}
use Rattle.of_mem.proofs.Changes.{changed_same, changed_other, total_changed, total_changed_past}
use Rattle.of_mem.proofs.Heaps.{front_free, each_weaker}
use Rattle.of_mem.proofs.Moves.{heap_unlink, heap_fresh, heap_front, heap_changed_out, out_owner, blocks_apart}
use Rattle.of_alloc.specs.Blocks.{IsFreeList, IsOut}
use Rattle.of_alloc.specs.BlockPrograms.{take_program, with_free, take_fresh}
use Rattle.of_alloc.specs.Took.{HasTakenBlock}

-- the run on a whole memory: nothing is taken and the heap is full, or a block is
abbrev pub TakesOff : ℕ → ℕ → (ℕ → ℕ) → (ℕ → List ℕ) → Option ℕ → (ℕ → ℕ) → Type 0
TakesOff o blocks m chains None n = (n ≡ m) × (chains 0 ≡ []) × (m (fresh_at o) ≡ blocks)
TakesOff o blocks m chains (Some b) n = HasTakenBlock o blocks m chains b n

module _ (o blocks : ℕ) (m : ℕ → ℕ) (chains : ℕ → List ℕ) (owner : ℕ → ℕ) (h : IsHeap o blocks m chains owner) (none : chains (out_chain blocks) ≡ []) where
  took_front : (b : ℕ) (rest : List ℕ) → chains 0 ≡ b ∷ rest → HasTakenBlock o blocks m chains b (with_value m (free_at o) (m (link_at o b)))
  took_front b rest is = record {
    chains_after = with_value (with_value chains 0 rest) (out_chain blocks) (b ∷ []);
    owner = with_value owner b (out_chain blocks);
    heap = subst (λ (a : ℕ). IsHeap o blocks (with_value m a (m (link_at o b))) (with_value (with_value chains 0 rest) (out_chain blocks) (b ∷ [])) (with_value owner b (out_chain blocks))) (front_free o blocks) (heap_unlink o blocks m chains owner h 0 b [] rest (omega arith) is none);
    out = changed_same (with_value chains 0 rest) (out_chain blocks) (b ∷ []);
    others = λ c l k. changed_other (with_value chains 0 rest) (out_chain blocks) (b ∷ []) c (λ (e : c ≡ out_chain blocks). omega arith) ∙ changed_other chains 0 rest c (λ (e : c ≡ 0). omega arith);
    sums =
        let t : blocks_in_chains (with_value (with_value chains 0 rest) (out_chain blocks) (b ∷ [])) (queue_chain blocks 0) ≡ blocks_in_chains (with_value chains 0 rest) (queue_chain blocks 0) = total_changed_past (with_value chains 0 rest) (out_chain blocks) (b ∷ []) (queue_chain blocks 0) (omega arith) in
        let u : blocks_in_chains (with_value chains 0 rest) (queue_chain blocks 0) + length (chains 0) ≡ blocks_in_chains chains (queue_chain blocks 0) + length rest = total_changed chains 0 rest (queue_chain blocks 0) (omega arith) in
        let v : length (with_value (with_value chains 0 rest) (out_chain blocks) (b ∷ []) 0) ≡ length rest = ap length (changed_other (with_value chains 0 rest) (out_chain blocks) (b ∷ []) 0 (λ (e : 0 ≡ out_chain blocks). omega arith) ∙ changed_same chains 0 rest) in
        omega arith;
    cells = λ a n k. changed_other m (free_at o) (m (link_at o b)) a n;
  }

  took_fresh : m (fresh_at o) < blocks → HasTakenBlock o blocks m chains (m (fresh_at o)) (with_value m (fresh_at o) (m (fresh_at o) + 1))
  took_fresh less = record {
    chains_after = with_value chains (out_chain blocks) (m (fresh_at o) ∷ []);
    owner = with_value owner (m (fresh_at o)) (out_chain blocks);
    heap = heap_fresh o blocks m chains owner h less none refl;
    out = changed_same chains (out_chain blocks) (m (fresh_at o) ∷ []);
    others = λ c l k. changed_other chains (out_chain blocks) (m (fresh_at o) ∷ []) c (λ (e : c ≡ out_chain blocks). omega arith);
    sums =
        let t : blocks_in_chains (with_value chains (out_chain blocks) (m (fresh_at o) ∷ [])) (queue_chain blocks 0) ≡ blocks_in_chains chains (queue_chain blocks 0) = total_changed_past chains (out_chain blocks) (m (fresh_at o) ∷ []) (queue_chain blocks 0) (omega arith) in
        let v : length (with_value chains (out_chain blocks) (m (fresh_at o) ∷ []) 0) ≡ length (chains 0) = ap length (changed_other chains (out_chain blocks) (m (fresh_at o) ∷ []) 0 (λ (e : 0 ≡ out_chain blocks). omega arith)) in
        omega arith;
    cells = λ a n k. changed_other m (fresh_at o) (m (fresh_at o) + 1) a k;
  }

  with_fresh_takes : chains 0 ≡ [] → (b : Bool) → ltb (m (fresh_at o)) blocks ≡ b → TakesOff o blocks m chains (program_answer (take_fresh o (m (fresh_at o)) b) m) (memory_after (take_fresh o (m (fresh_at o)) b) m)
  with_fresh_takes empty true e = took_fresh (ltb-true (m (fresh_at o)) blocks e)
  with_fresh_takes empty false e = (refl, empty, (let k : blocks ≤ m (fresh_at o) = ltb-false (m (fresh_at o)) blocks e in omega (arith, h.few)))

  with_free_takes : (l : List ℕ) → chains 0 ≡ l → IsChain o m (free_at o) l → (f : ℕ) → m (free_at o) ≡ f → TakesOff o blocks m chains (program_answer (with_free o blocks f) m) (memory_after (with_free o blocks f) m)
  with_free_takes [] is k zero e = with_fresh_takes is (ltb (m (fresh_at o)) blocks) refl
  with_free_takes [] is k (suc b) e = absurd (omega arith)
  with_free_takes (x ∷ l) is k zero e = absurd (omega arith)
  with_free_takes (x ∷ l) is k (suc b) e = let q : x ≡ b = omega (arith, k.0) in took_front b l (subst (λ (y : ℕ). chains 0 ≡ y ∷ l) q is)

  pub take_takes_off : TakesOff o blocks m chains (program_answer (take_program o blocks) m) (memory_after (take_program o blocks) m)
  take_takes_off = with_free_takes (chains 0) refl (subst (λ (a : ℕ). IsChain o m a (chains 0)) (front_free o blocks) (h.linked 0 (omega arith))) (m (free_at o)) refl

-- the block that is out goes in front of the free list
pub give_heap : (o blocks : ℕ) (m : ℕ → ℕ) (chains : ℕ → List ℕ) (owner : ℕ → ℕ) (b : ℕ) → IsHeap o blocks m chains owner → chains (out_chain blocks) ≡ b ∷ [] → owner b ≡ out_chain blocks
    → IsHeap o blocks (with_value (with_value m (link_at o b) (m (free_at o))) (free_at o) (b + 1)) (with_value (with_value chains (out_chain blocks) []) 0 (b ∷ chains 0)) (with_value owner b 0)
give_heap o blocks m chains owner b h out is =
    subst (λ (a : ℕ). IsHeap o blocks (with_value (with_value m (link_at o b) (m (free_at o))) a (b + 1)) (with_value (with_value chains (out_chain blocks) []) 0 (b ∷ chains 0)) (with_value owner b 0)) (front_free o blocks)
    (heap_front o blocks (with_value m (link_at o b) (m (free_at o))) chains owner (heap_changed_out o blocks m chains owner h b (m (free_at o)) (out_owner o blocks m chains owner h b out).0 is) 0 b (omega arith) out
    (changed_same m (link_at o b) (m (free_at o)) ∙ sym (ap (with_value m (link_at o b) (m (free_at o))) (front_free o blocks) ∙ changed_other m (link_at o b) (m (free_at o)) (free_at o) (λ e. omega arith))))

-- A heap has a free list, and the block that is out isn't in it.

pub heap_free_list : (o blocks : ℕ) (m : ℕ → ℕ) (chains : ℕ → List ℕ) (owner : ℕ → ℕ) → IsHeap o blocks m chains owner → IsFreeList o blocks m (chains 0)
heap_free_list o blocks m chains owner h = record {
  linked = subst (λ (a : ℕ). IsChain o m a (chains 0)) (front_free o blocks) (h.linked 0 (omega arith));
  below = each_weaker (λ b. (b < m (fresh_at o)) × (owner b ≡ 0)) (λ b. b < m (fresh_at o)) (λ b k. k.0) (chains 0) (h.owned 0 (omega arith));
  few = h.few;
}

pub heap_out : (o blocks : ℕ) (m : ℕ → ℕ) (chains : ℕ → List ℕ) (owner : ℕ → ℕ) (b : ℕ) → IsHeap o blocks m chains owner → chains (out_chain blocks) ≡ b ∷ [] → IsOut o m (chains 0) b
heap_out o blocks m chains owner b h out =
    let u = out_owner o blocks m chains owner h b out in
    (u.0, blocks_apart o blocks m chains owner h 0 b (omega arith) (λ (e : owner b ≡ 0). omega (arith, u.1)))
