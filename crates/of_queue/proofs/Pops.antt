-- The front item leaves its queue, and its block goes to the free list.
use Rattle.std.proofs.Common.{◌≡◌, ℕ, suc, ◌+◌, ◌-◌, ◌%◌, ◌<◌, ◌≤◌, ◌≢◌, refl, sym, ◌∙◌, ap, subst, arith, Some, List, [], ◌∷◌, length, map}
use Rattle.std.specs.List.{AllByRecursion as Each}
use Rattle.std.specs.FinMap as fin
use Rattle.of_mem.specs.declared.plot.TheConstants.{MOST_BLOCKS}
use Rattle.of_mem.specs.Places.{bucket_count, register_at, free_at, keys_at, head_at, tail_at, length_at, cells_at}
use Rattle.of_mem.specs.Programs.{with_value, program_answer, memory_after, StaysBetween, IsPartOf}
use Rattle.of_mem.specs.Numbers.{IsNumber}
use Rattle.of_mem.specs.Stores.{out_chain, queue_chain, CellStore, StandsForStore, IsHeap, IsChain, IsQueue, front_at, link_at, first_at, second_at, blocks_in_chains, last_pointer}
use Rattle.of_mem.proofs.BucketPlaces.{key_bucket}
use Rattle.of_mem.proofs.Changes.{changed_same, changed_other, changed_cases, total_changed, total_changed_past}
use Rattle.of_mem.proofs.Heaps.{front_head, front_no_end}
use Rattle.of_mem.proofs.Moves.{heap_changed, heap_unlink}
use Rattle.of_mem.proofs.Frames.{SameBlocks, value_same, bucket_same, queue_same, items_same}
use Rattle.of_mem.specs.Part.{Part, write}
use Rattle.of_mem.proofs.Counts.{blocks_below, length_small}
use Rattle.of_mem.proofs.Heaps.{pointer_small}
use Rattle.of_mem.proofs.Runs.{part_wrote}
use Rattle.of_alloc.specs.Blocks.{IsFreeList, IsOut}
use Rattle.of_alloc.proofs.Heaped.{give_heap, heap_free_list, heap_out}
use Rattle.of_alloc.proofs.Takings.{free_small}
use Rattle.of_queue.specs.QueuePrograms.{give_item_block, new_end, front_program}
use Rattle.of_queue.specs.Means.{front_of, after_pop}

-- the memory after the head was moved, with the tail set to 0 where nothing is left
abbrev pub ended : ℕ → ℕ → (ℕ → ℕ) → List ℕ → ℕ → ℕ
ended o q m [] = with_value m (tail_at o q) 0
ended o q m (x ∷ l) = m

-- the pointer that leads to these blocks
abbrev pub pointer_to : List ℕ → ℕ
pointer_to [] = 0
pointer_to (b ∷ l) = suc b

pub pointed : (o : ℕ) (m : ℕ → ℕ) (cell : ℕ) (l : List ℕ) → IsChain o m cell l → m cell ≡ pointer_to l
pointed o m cell [] h = h
pointed o m cell (b ∷ l) h = h.0 ∙ (omega arith)

module _ (o blocks : ℕ) (m : ℕ → ℕ) (s : CellStore) (h : StandsForStore o blocks m s) (q b : ℕ) (rest items : List ℕ) (q_in : q < 4) (is : h.chains (queue_chain blocks q) ≡ b ∷ rest) (has : s.queues q ≡ m (first_at o b) ∷ items) where
  abbrev m1 : ℕ → ℕ
  m1 = with_value m (front_at o blocks (queue_chain blocks q)) (m (link_at o b))

  abbrev m2 : ℕ → ℕ
  m2 = ended o q m1 rest

  abbrev m4 : ℕ → ℕ
  m4 = with_value (with_value m2 (link_at o b) (m2 (free_at o))) (free_at o) (b + 1)

  abbrev m5 : ℕ → ℕ
  m5 = with_value m4 (length_at o q) (m4 (length_at o q) - 1)

  abbrev chains1 : ℕ → List ℕ
  chains1 = with_value (with_value h.chains (queue_chain blocks q) rest) (out_chain blocks) (b ∷ [])

  abbrev chains : ℕ → List ℕ
  chains = with_value (with_value chains1 (out_chain blocks) []) 0 (b ∷ chains1 0)

  head_is : front_at o blocks (queue_chain blocks q) ≡ head_at o q
  head_is = front_head o blocks q

  heap1 : IsHeap o blocks m1 chains1 (with_value h.owner b (out_chain blocks))
  heap1 = heap_unlink o blocks m h.chains h.owner h.heap (queue_chain blocks q) b [] rest (omega (arith, q_in)) is h.none_out

  heap_ended : (l : List ℕ) → IsHeap o blocks (ended o q m1 l) chains1 (with_value h.owner b (out_chain blocks))
  heap_ended [] = heap_changed o blocks m1 chains1 (with_value h.owner b (out_chain blocks)) heap1 (tail_at o q) 0 (λ e. omega arith) (λ c l. (front_no_end o blocks c q l q_in).0) (λ x e. omega (arith, q_in))
  heap_ended (x ∷ l) = heap1

  ended_other : (l : List ℕ) (a : ℕ) → a ≢ tail_at o q → ended o q m1 l a ≡ m1 a
  ended_other [] a n = changed_other m1 (tail_at o q) 0 a n
  ended_other (x ∷ l) a n = refl

  old_tail : m1 (tail_at o q) ≡ last_pointer (b + 1) rest
  old_tail = changed_other m (front_at o blocks (queue_chain blocks q)) (m (link_at o b)) (tail_at o q) (λ e. omega (arith, head_is)) ∙ (h.holds.queues q q_in).ends ∙ ap (λ (l : List ℕ). last_pointer 0 l) is

  ended_tail : (l : List ℕ) → m1 (tail_at o q) ≡ last_pointer (b + 1) l → ended o q m1 l (tail_at o q) ≡ last_pointer 0 l
  ended_tail [] e = changed_same m1 (tail_at o q) 0
  ended_tail (x ∷ l) e = e

  heap5 : IsHeap o blocks m5 chains (with_value (with_value h.owner b (out_chain blocks)) b 0)
  heap5 = heap_changed o blocks m4 chains (with_value (with_value h.owner b (out_chain blocks)) b 0)
      (give_heap o blocks m2 chains1 (with_value h.owner b (out_chain blocks)) b (heap_ended rest) (changed_same (with_value h.chains (queue_chain blocks q) rest) (out_chain blocks) (b ∷ [])) (changed_same h.owner b (out_chain blocks)))
      (length_at o q) (m4 (length_at o q) - 1) (λ e. omega arith) (λ c l. (front_no_end o blocks c q l q_in).1) (λ x e. omega (arith, q_in))

  -- every other cell that is no link is as it was
  after_head : (a : ℕ) → a ≢ free_at o → a ≢ length_at o q → a ≢ link_at o b → m5 a ≡ m2 a
  after_head a p1 p2 p3 = changed_other m4 (length_at o q) (m4 (length_at o q) - 1) a p2 ∙ changed_other (with_value m2 (link_at o b) (m2 (free_at o))) (free_at o) (b + 1) a p1 ∙ changed_other m2 (link_at o b) (m2 (free_at o)) a p3

  same : (a : ℕ) → a ≢ free_at o → a ≢ length_at o q → a ≢ link_at o b → a ≢ tail_at o q → a ≢ head_at o q → m5 a ≡ m a
  same a p1 p2 p3 p4 p5 = after_head a p1 p2 p3 ∙ ended_other rest a p4 ∙ changed_other m (front_at o blocks (queue_chain blocks q)) (m (link_at o b)) a (λ (e : a ≡ front_at o blocks (queue_chain blocks q)). p5 (e ∙ head_is))

  blocks_same : (l : List ℕ) → SameBlocks o m m5 l
  blocks_same [] = tt
  blocks_same (x ∷ l) = (
    (same (first_at o x) (λ e. omega arith) (λ e. omega (arith, q_in)) (λ e. omega arith) (λ e. omega (arith, q_in)) (λ e. omega (arith, q_in)), same (second_at o x) (λ e. omega arith) (λ e. omega (arith, q_in)) (λ e. omega arith) (λ e. omega (arith, q_in)) (λ e. omega (arith, q_in))),
    blocks_same l,
  )

  chain_new : chains (queue_chain blocks q) ≡ rest
  chain_new = changed_other (with_value chains1 (out_chain blocks) []) 0 (b ∷ chains1 0) (queue_chain blocks q) (λ (e : queue_chain blocks q ≡ 0). omega arith) ∙ changed_other chains1 (out_chain blocks) [] (queue_chain blocks q) (λ (e : queue_chain blocks q ≡ out_chain blocks). omega (arith, q_in))
      ∙ changed_other (with_value h.chains (queue_chain blocks q) rest) (out_chain blocks) (b ∷ []) (queue_chain blocks q) (λ (e : queue_chain blocks q ≡ out_chain blocks). omega (arith, q_in)) ∙ changed_same h.chains (queue_chain blocks q) rest

  chain_other : (c : ℕ) → 1 ≤ c → c < out_chain blocks → c ≢ queue_chain blocks q → chains c ≡ h.chains c
  chain_other c l k ne = changed_other (with_value chains1 (out_chain blocks) []) 0 (b ∷ chains1 0) c (λ (e : c ≡ 0). omega arith) ∙ changed_other chains1 (out_chain blocks) [] c (λ (e : c ≡ out_chain blocks). omega arith)
      ∙ changed_other (with_value h.chains (queue_chain blocks q) rest) (out_chain blocks) (b ∷ []) c (λ (e : c ≡ out_chain blocks). omega arith) ∙ changed_other h.chains (queue_chain blocks q) rest c ne

  items_are : map (λ (x : ℕ). m (first_at o x)) rest ≡ items
  items_are = let e : m (first_at o b) ∷ map (λ (x : ℕ). m (first_at o x)) rest ≡ m (first_at o b) ∷ items = sym (ap (λ (l : List ℕ). map (λ (x : ℕ). m (first_at o x)) l) is) ∙ (h.holds.queues q q_in).listed ∙ has in cc

  queue_new : IsQueue o m5 q rest items
  queue_new = record {
    listed = items_same o m m5 rest (blocks_same rest) ∙ items_are;
    numbers = (subst (λ (l : List ℕ). Each IsNumber l) has (h.holds.queues q q_in).numbers).1;
    ends = after_head (tail_at o q) (λ e. omega arith) (λ e. omega arith) (λ e. omega (arith, q_in)) ∙ ended_tail rest old_tail;
    counted =
        let e : m4 (length_at o q) ≡ m (length_at o q) = changed_other (with_value m2 (link_at o b) (m2 (free_at o))) (free_at o) (b + 1) (length_at o q) (λ e. omega arith) ∙ changed_other m2 (link_at o b) (m2 (free_at o)) (length_at o q) (λ e. omega (arith, q_in))
        ∙ ended_other rest (length_at o q) (λ e. omega arith) ∙ changed_other m (front_at o blocks (queue_chain blocks q)) (m (link_at o b)) (length_at o q) (λ e. omega (arith, head_is)) in
        changed_same m4 (length_at o q) (m4 (length_at o q) - 1) ∙ (omega (arith, (h.holds.queues q q_in).counted, ap length has));
  }

  count : blocks_in_chains chains (queue_chain blocks 0) ≡ length (chains 0) + fin.len s.map
  count =
      let p1 : blocks_in_chains chains (queue_chain blocks 0) + length (with_value chains1 (out_chain blocks) [] 0) ≡ blocks_in_chains (with_value chains1 (out_chain blocks) []) (queue_chain blocks 0) + length (b ∷ chains1 0) = total_changed (with_value chains1 (out_chain blocks) []) 0 (b ∷ chains1 0) (queue_chain blocks 0) (omega arith) in
      let p2 : blocks_in_chains (with_value chains1 (out_chain blocks) []) (queue_chain blocks 0) ≡ blocks_in_chains chains1 (queue_chain blocks 0) = total_changed_past chains1 (out_chain blocks) [] (queue_chain blocks 0) (omega arith) in
      let p3 : blocks_in_chains chains1 (queue_chain blocks 0) ≡ blocks_in_chains (with_value h.chains (queue_chain blocks q) rest) (queue_chain blocks 0) = total_changed_past (with_value h.chains (queue_chain blocks q) rest) (out_chain blocks) (b ∷ []) (queue_chain blocks 0) (omega arith) in
      let p4 : blocks_in_chains (with_value h.chains (queue_chain blocks q) rest) (queue_chain blocks 0) ≡ blocks_in_chains h.chains (queue_chain blocks 0) = total_changed_past h.chains (queue_chain blocks q) rest (queue_chain blocks 0) (omega arith) in
      let p5 : length (with_value chains1 (out_chain blocks) [] 0) ≡ length (chains1 0) = ap length (changed_other chains1 (out_chain blocks) [] 0 (λ (e : 0 ≡ out_chain blocks). omega arith)) in
      let p6 : length (chains1 0) ≡ length (h.chains 0) = ap length (changed_other (with_value h.chains (queue_chain blocks q) rest) (out_chain blocks) (b ∷ []) 0 (λ (e : 0 ≡ out_chain blocks). omega arith) ∙ changed_other h.chains (queue_chain blocks q) rest 0 (λ (e : 0 ≡ queue_chain blocks q). omega arith)) in
      let p8 : length (chains 0) ≡ 1 + length (chains1 0) = ap length (changed_same (with_value chains1 (out_chain blocks) []) 0 (b ∷ chains1 0)) ∙ (omega arith) in
      omega (arith, h.holds.key_blocks)

  pub pop_stands : StandsForStore o blocks m5 (record s { queues = with_value s.queues q items })
  pop_stands = record {
    chains = chains;
    owner = with_value (with_value h.owner b (out_chain blocks)) b 0;
    heap = heap5;
    none_out = changed_other (with_value chains1 (out_chain blocks) []) 0 (b ∷ chains1 0) (out_chain blocks) (λ (e : out_chain blocks ≡ 0). omega arith) ∙ changed_same chains1 (out_chain blocks) [];
    room = h.room;
    sixteen = h.sixteen;
    holds = record {
      registers = λ r l. let e : m5 (register_at o r) ≡ m (register_at o r) = same (register_at o r) (λ e. omega arith) (λ e. omega arith) (λ e. omega arith) (λ e. omega arith) (λ e. omega arith) in rw e (h.holds.registers r l);
      values = λ k. let l : k % bucket_count blocks < bucket_count blocks = key_bucket blocks k in rw (chain_other (1 + k % bucket_count blocks) (omega arith) (omega arith) (λ (e : 1 + k % bucket_count blocks ≡ queue_chain blocks q). omega arith))
          (h.holds.values k ∙ sym (value_same o m m5 k (h.chains (1 + k % bucket_count blocks)) (blocks_same (h.chains (1 + k % bucket_count blocks)))));
      buckets = λ n l. rw (chain_other (1 + n) (omega arith) (omega arith) (λ (e : 1 + n ≡ queue_chain blocks q). omega arith)) (bucket_same o blocks m m5 n (h.chains (1 + n)) (blocks_same (h.chains (1 + n))) (h.holds.buckets n l));
      keys = same (keys_at o) (λ e. omega arith) (λ e. omega arith) (λ e. omega arith) (λ e. omega arith) (λ e. omega arith) ∙ h.holds.keys;
      key_blocks = count;
      queues = λ r l. changed_cases (λ (r : ℕ) (xs : List ℕ). r < 4 → IsQueue o m5 r (chains (queue_chain blocks r)) xs) s.queues q items r
          (λ _ _. rw chain_new queue_new)
          (λ ne l. rw (chain_other (queue_chain blocks r) (omega arith) (omega arith) (λ (e : queue_chain blocks r ≡ queue_chain blocks q). ne (omega arith)))
          (queue_same o m m5 r (h.chains (queue_chain blocks r)) (s.queues r) (blocks_same (h.chains (queue_chain blocks r)))
          (same (tail_at o r) (λ e. omega arith) (λ e. omega arith) (λ e. omega arith) (λ e. ne (omega arith)) (λ e. omega arith))
          (same (length_at o r) (λ e. omega arith) (λ e. ne (omega arith)) (λ e. omega arith) (λ e. omega arith) (λ e. omega arith)) (h.holds.queues r l))) l;
    };
  }

  -- The program's writes are these.

  by_link : (n : ℕ → ℕ) (l : List ℕ) (link : ℕ) → link ≡ pointer_to l → (memory_after (new_end o q b (m (first_at o b)) link) n ≡ memory_after (give_item_block o q b (m (first_at o b))) (ended o q n l)) × (program_answer (new_end o q b (m (first_at o b)) link) n ≡ Some (m (first_at o b)))
  by_link n [] link e = subst (λ (x : ℕ). (memory_after (new_end o q b (m (first_at o b)) x) n ≡ memory_after (give_item_block o q b (m (first_at o b))) (with_value n (tail_at o q) 0)) × (program_answer (new_end o q b (m (first_at o b)) x) n ≡ Some (m (first_at o b)))) (sym e) (refl, refl)
  by_link n (x ∷ l) link e = subst (λ (y : ℕ). (memory_after (new_end o q b (m (first_at o b)) y) n ≡ memory_after (give_item_block o q b (m (first_at o b))) n) × (program_answer (new_end o q b (m (first_at o b)) y) n ≡ Some (m (first_at o b)))) (sym e) (refl, refl)

  chain_is : IsChain o m (front_at o blocks (queue_chain blocks q)) (b ∷ rest)
  chain_is = subst (λ (l : List ℕ). IsChain o m (front_at o blocks (queue_chain blocks q)) l) is (h.heap.linked (queue_chain blocks q) (omega (arith, q_in)))

  pub link_is : m (link_at o b) ≡ pointer_to rest
  link_is = pointed o m (link_at o b) rest chain_is.1

  pub pops : (memory_after (front_program o q b) m ≡ m5) × (program_answer (front_program o q b) m ≡ Some (m (first_at o b)))
  pops = subst (λ (c : ℕ). (memory_after (new_end o q b (m (first_at o b)) (m (link_at o b))) (with_value m c (m (link_at o b))) ≡ m5) × (program_answer (new_end o q b (m (first_at o b)) (m (link_at o b))) (with_value m c (m (link_at o b))) ≡ Some (m (first_at o b)))) head_is
      (by_link m1 rest (m (link_at o b)) link_is)

  pub pop_acts : (program_answer (front_program o q b) m ≡ front_of (s.queues q)) × StandsForStore o blocks (memory_after (front_program o q b) m) (after_pop q s)
  pop_acts = rw (has, pops.0, pops.1) (refl, pop_stands)

  -- What the block leaves: it is out, and its item is still counted.

  length1 : m1 (length_at o q) ≡ m (length_at o q)
  length1 = changed_other m (front_at o blocks (queue_chain blocks q)) (m (link_at o b)) (length_at o q) (λ e. omega (arith, head_is))

  one_item : 1 ≤ m (length_at o q)
  one_item = omega (arith, (h.holds.queues q q_in).counted, ap length has)

  pub popped : (p : Part) → IsPartOf p m → IsPartOf (write p (head_at o q) (m (link_at o b))) m1 × IsFreeList o blocks m1 (chains1 0) × IsOut o m1 (chains1 0) b × (1 ≤ m1 (length_at o q))
  popped p part = (
    subst (λ (c : ℕ). IsPartOf (write p c (m (link_at o b))) m1) head_is (part_wrote p m (front_at o blocks (queue_chain blocks q)) (m (link_at o b)) part),
    heap_free_list o blocks m1 chains1 (with_value h.owner b (out_chain blocks)) heap1,
    heap_out o blocks m1 chains1 (with_value h.owner b (out_chain blocks)) b heap1 (changed_same (with_value h.chains (queue_chain blocks q) rest) (out_chain blocks) (b ∷ [])),
    rw length1 one_item,
  )

  pub front_inside : blocks ≤ MOST_BLOCKS → StaysBetween o (cells_at o blocks) (front_program o q b) m
  front_inside few = (
    omega arith,
    omega (arith, below.0),
    (
      omega arith,
      omega (arith, below.0),
      (omega arith, omega (arith, q_in), link_small, subst (λ (c : ℕ). StaysBetween o (cells_at o blocks) (new_end o q b (m (first_at o b)) (m (link_at o b))) (with_value m c (m (link_at o b)))) head_is (end_inside rest (m (link_at o b)) link_is)),
    ),
  )
    where
      below : Each (λ x. x < blocks) (b ∷ rest)
      below = subst (λ (l : List ℕ). Each (λ x. x < blocks) l) is (blocks_below o blocks m s h (queue_chain blocks q) (omega (arith, q_in)))

      link_small : m (link_at o b) < 4294967296
      link_small = pointer_small o blocks few m (link_at o b) rest chain_is.1 below.1

      length_same : (n : ℕ → ℕ) → n (length_at o q) ≡ m (length_at o q) → with_value (with_value n (link_at o b) (n (free_at o))) (free_at o) (b + 1) (length_at o q) ≡ m (length_at o q)
      length_same n e = changed_other (with_value n (link_at o b) (n (free_at o))) (free_at o) (b + 1) (length_at o q) (λ e. omega arith) ∙ changed_other n (link_at o b) (n (free_at o)) (length_at o q) (λ e. omega (arith, q_in)) ∙ e

      drop_inside : (n : ℕ → ℕ) → n (free_at o) < 4294967296 → n (length_at o q) ≡ m (length_at o q) → StaysBetween o (cells_at o blocks) (give_item_block o q b (m (first_at o b))) n
      drop_inside n f e = (
        omega arith,
        omega arith,
        (
          omega arith,
          omega (arith, below.0),
          f,
          (
            omega arith,
            omega arith,
            omega (arith, below.0),
            (
              omega arith,
              omega (arith, q_in),
              (omega arith, omega (arith, q_in), omega (arith, length_same n e, length_small o blocks m s h q q_in), tt),
            ),
          ),
        ),
      )

      free1 : m1 (free_at o) < 4294967296
      free1 = free_small o blocks m1 (chains1 0) (heap_free_list o blocks m1 chains1 (with_value h.owner b (out_chain blocks)) heap1) few

      end_inside : (l : List ℕ) (link : ℕ) → link ≡ pointer_to l → StaysBetween o (cells_at o blocks) (new_end o q b (m (first_at o b)) link) m1
      end_inside [] link e = subst (λ (x : ℕ). StaysBetween o (cells_at o blocks) (new_end o q b (m (first_at o b)) x) m1) (sym e)
          (omega arith, omega (arith, q_in), omega arith, drop_inside (with_value m1 (tail_at o q) 0) (rw (changed_other m1 (tail_at o q) 0 (free_at o) (λ e. omega arith)) free1) (changed_other m1 (tail_at o q) 0 (length_at o q) (λ e. omega arith) ∙ length1))
      end_inside (x ∷ l) link e = subst (λ (y : ℕ). StaysBetween o (cells_at o blocks) (new_end o q b (m (first_at o b)) y) m1) (sym e) (drop_inside m1 free1 length1)
