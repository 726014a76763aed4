-- A new item behind its queue.
use Rattle.std.proofs.Common.{◌≡◌, ℕ, zero, suc, ◌+◌, ◌%◌, ◌<◌, ◌≤◌, ◌≢◌, ◌⊎◌, inl, inr, refl, sym, ◌∙◌, ap, subst, arith, true, Some, List, [], ◌∷◌, ◌++◌, length, map, length-append}
use Rattle.std.specs.List.{AllByRecursion as Each}
use Rattle.std.specs.FinMap as fin
use Rattle.std.proofs.lemmas.List.{map-append}
use Rattle.of_mem.specs.declared.plot.TheConstants.{MOST_BLOCKS}
use Rattle.of_mem.specs.Places.{bucket_count, register_at, fresh_at, free_at, keys_at, head_at, tail_at, length_at, cells_at}
use Rattle.of_mem.specs.Programs.{with_value, program_answer, memory_after, StaysBetween}
use Rattle.of_mem.specs.Numbers.{IsNumber}
use Rattle.of_mem.specs.Stores.{out_chain, queue_chain, CellStore, StandsForStore, IsHeap, IsQueue, front_at, link_at, first_at, second_at, cell_after, blocks_in_chains, last_pointer}
use Rattle.of_mem.proofs.BucketPlaces.{key_bucket}
use Rattle.of_mem.proofs.Changes.{changed_same, changed_other, changed_cases, total_changed_past}
use Rattle.of_mem.proofs.Heaps.{front_head, front_no_block, front_no_end, each_weaker, each_append, cell_in, all_links}
use Rattle.of_mem.proofs.Moves.{heap_changed, heap_changed_out, heap_append, blocks_apart, out_owner}
use Rattle.of_mem.proofs.Frames.{SameBlocks, value_same, bucket_same, queue_same, items_same}
use Rattle.of_mem.proofs.Counts.{tail_small, length_small}
use Rattle.of_alloc.specs.Took.{HasTakenBlock}
use Rattle.of_queue.specs.QueuePrograms.{push_new, new_tail, last_cell}

-- the last pointer and the last pointer cell belong to one block
last_block : (o b : ℕ) (bs : List ℕ) → (t : ℕ) × (last_pointer (b + 1) bs ≡ t + 1) × (cell_after o (link_at o b) bs ≡ link_at o t)
last_block o b [] = (b, refl, refl)
last_block o b (c ∷ bs) = last_block o c bs

pub last_cases : (o cell : ℕ) (l : List ℕ) → ((last_pointer 0 l ≡ 0) × (cell_after o cell l ≡ cell)) ⊎ ((t : ℕ) × (last_pointer 0 l ≡ t + 1) × (cell_after o cell l ≡ link_at o t))
last_cases o cell [] = inl (refl, refl)
last_cases o cell (b ∷ bs) = inr (last_block o b bs)

pub last_pointer-append : (p b : ℕ) (l : List ℕ) → last_pointer p (l ++ b ∷ []) ≡ b + 1
last_pointer-append p b [] = refl
last_pointer-append p b (c ∷ l) = last_pointer-append (c + 1) b l

module _ (o blocks : ℕ) (m : ℕ → ℕ) (s : CellStore) (h : StandsForStore o blocks m s) (q v : ℕ) (q_in : q < 4) (v_in : IsNumber v) (b : ℕ) (m1 : ℕ → ℕ) (t : HasTakenBlock o blocks m h.chains b m1) where
  abbrev old : List ℕ
  old = h.chains (queue_chain blocks q)

  abbrev last : ℕ
  last = cell_after o (front_at o blocks (queue_chain blocks q)) (t.chains_after (queue_chain blocks q))

  abbrev m2 : ℕ → ℕ
  m2 = with_value m1 (first_at o b) v

  abbrev m3 : ℕ → ℕ
  m3 = with_value m2 (link_at o b) 0

  abbrev m4 : ℕ → ℕ
  m4 = with_value m3 last (b + 1)

  abbrev m5 : ℕ → ℕ
  m5 = with_value m4 (tail_at o q) (b + 1)

  abbrev m6 : ℕ → ℕ
  m6 = with_value m5 (length_at o q) (m5 (length_at o q) + 1)

  abbrev chains : ℕ → List ℕ
  chains = with_value (with_value t.chains_after (out_chain blocks) []) (queue_chain blocks q) (t.chains_after (queue_chain blocks q) ++ b ∷ [])

  same_chain : t.chains_after (queue_chain blocks q) ≡ old
  same_chain = t.others (queue_chain blocks q) (omega arith) (omega (arith, q_in))

  out : (b < m1 (fresh_at o)) × (t.owner b ≡ out_chain blocks)
  out = out_owner o blocks m1 t.chains_after t.owner t.heap b t.out

  heap3 : IsHeap o blocks m3 t.chains_after t.owner
  heap3 = heap_changed_out o blocks m2 t.chains_after t.owner
      (heap_changed o blocks m1 t.chains_after t.owner t.heap (first_at o b) v (λ e. omega arith) (λ c l. front_no_block o blocks c b 0 l (omega (arith, out.0, t.heap.few)) (omega arith)) (λ x e. omega arith)) b 0 (rw (changed_other m1 (first_at o b) v (fresh_at o) (λ e. omega arith)) out.0) out.1

  heap4 : IsHeap o blocks m4 chains (with_value t.owner b (queue_chain blocks q))
  heap4 = heap_append o blocks m3 t.chains_after t.owner heap3 (queue_chain blocks q) b (omega (arith, q_in)) t.out (changed_same m2 (link_at o b) 0)

  -- where no front stands
  tail_no_front : (c : ℕ) → c < out_chain blocks → front_at o blocks c ≢ tail_at o q
  tail_no_front c l = (front_no_end o blocks c q l q_in).0

  length_no_front : (c : ℕ) → c < out_chain blocks → front_at o blocks c ≢ length_at o q
  length_no_front c l = (front_no_end o blocks c q l q_in).1

  pub heap6 : IsHeap o blocks m6 chains (with_value t.owner b (queue_chain blocks q))
  heap6 = heap_changed o blocks m5 chains (with_value t.owner b (queue_chain blocks q))
      (heap_changed o blocks m4 chains (with_value t.owner b (queue_chain blocks q)) heap4 (tail_at o q) (b + 1) (λ e. omega arith) tail_no_front (λ x e. omega (arith, q_in)))
      (length_at o q) (m5 (length_at o q) + 1) (λ e. omega arith) length_no_front (λ x e. omega (arith, q_in))

  not_last : (a : ℕ) → a ≢ front_at o blocks (queue_chain blocks q) → ((x : ℕ) → a ≢ link_at o x) → a ≢ last
  not_last a n k = cell_in o (λ c. a ≢ c) (front_at o blocks (queue_chain blocks q)) (t.chains_after (queue_chain blocks q)) n (all_links o a k (t.chains_after (queue_chain blocks q)))

  -- every other cell that is no link is as it was
  same : (a : ℕ) → a ≢ free_at o → a ≢ fresh_at o → a ≢ front_at o blocks (queue_chain blocks q) → ((x : ℕ) → a ≢ link_at o x) → a ≢ first_at o b → a ≢ tail_at o q → a ≢ length_at o q → m6 a ≡ m a
  same a p1 p2 p3 p4 p5 p6 p7 =
      changed_other m5 (length_at o q) (m5 (length_at o q) + 1) a p7 ∙ changed_other m4 (tail_at o q) (b + 1) a p6 ∙ changed_other m3 last (b + 1) a (not_last a p3 p4)
      ∙ changed_other m2 (link_at o b) 0 a (p4 b) ∙ changed_other m1 (first_at o b) v a p5 ∙ t.cells a p1 p2

  head_is : front_at o blocks (queue_chain blocks q) ≡ head_at o q
  head_is = front_head o blocks q

  same_block : (x : ℕ) → x ≢ b → (m6 (first_at o x) ≡ m (first_at o x)) × (m6 (second_at o x) ≡ m (second_at o x))
  same_block x ne = (
    same (first_at o x) (λ e. omega arith) (λ e. omega arith) (λ e. omega (arith, head_is, q_in)) (λ y e. omega arith) (λ e. ne (omega arith)) (λ e. omega (arith, q_in)) (λ e. omega (arith, q_in)),
    same (second_at o x) (λ e. omega arith) (λ e. omega arith) (λ e. omega (arith, head_is, q_in)) (λ y e. omega arith) (λ e. omega arith) (λ e. omega (arith, q_in)) (λ e. omega (arith, q_in)),
  )

  new_item : m6 (first_at o b) ≡ v
  new_item = changed_other m5 (length_at o q) (m5 (length_at o q) + 1) (first_at o b) (λ e. omega (arith, q_in)) ∙ changed_other m4 (tail_at o q) (b + 1) (first_at o b) (λ e. omega (arith, q_in))
      ∙ changed_other m3 last (b + 1) (first_at o b) (not_last (first_at o b) (λ e. omega (arith, head_is, q_in)) (λ y e. omega arith)) ∙ changed_other m2 (link_at o b) 0 (first_at o b) (λ e. omega arith) ∙ changed_same m1 (first_at o b) v

  new_last : m6 (tail_at o q) ≡ b + 1
  new_last = changed_other m5 (length_at o q) (m5 (length_at o q) + 1) (tail_at o q) (λ e. omega arith) ∙ changed_same m4 (tail_at o q) (b + 1)

  new_length : m6 (length_at o q) ≡ m (length_at o q) + 1
  new_length = changed_same m5 (length_at o q) (m5 (length_at o q) + 1) ∙ ap (λ x. x + 1) (changed_other m4 (tail_at o q) (b + 1) (length_at o q) (λ e. omega arith)
      ∙ changed_other m3 last (b + 1) (length_at o q) (not_last (length_at o q) (λ e. omega (arith, head_is)) (λ y e. omega (arith, q_in))) ∙ changed_other m2 (link_at o b) 0 (length_at o q) (λ e. omega (arith, q_in))
      ∙ changed_other m1 (first_at o b) v (length_at o q) (λ e. omega (arith, q_in)) ∙ t.cells (length_at o q) (λ e. omega arith) (λ e. omega arith))

  same_blocks : (c : ℕ) → 1 ≤ c → c < out_chain blocks → SameBlocks o m m6 (h.chains c)
  same_blocks c l k = each_weaker (λ x. x ≢ b) (λ x. (m6 (first_at o x) ≡ m (first_at o x)) × (m6 (second_at o x) ≡ m (second_at o x))) same_block (h.chains c)
      (subst (λ (q : List ℕ). Each (λ x. x ≢ b) q) (t.others c l k) (blocks_apart o blocks m1 t.chains_after t.owner t.heap c b (omega arith) (λ (e : t.owner b ≡ c). omega (arith, out.1))))

  chain_new : chains (queue_chain blocks q) ≡ old ++ b ∷ []
  chain_new = changed_same (with_value t.chains_after (out_chain blocks) []) (queue_chain blocks q) (t.chains_after (queue_chain blocks q) ++ b ∷ []) ∙ ap (λ (l : List ℕ). l ++ b ∷ []) same_chain

  chain_other : (c : ℕ) → 1 ≤ c → c < out_chain blocks → c ≢ queue_chain blocks q → chains c ≡ h.chains c
  chain_other c l k ne = changed_other (with_value t.chains_after (out_chain blocks) []) (queue_chain blocks q) (t.chains_after (queue_chain blocks q) ++ b ∷ []) c ne ∙ changed_other t.chains_after (out_chain blocks) [] c (λ (e : c ≡ out_chain blocks). omega arith) ∙ t.others c l k

  chain_free : chains 0 ≡ t.chains_after 0
  chain_free = changed_other (with_value t.chains_after (out_chain blocks) []) (queue_chain blocks q) (t.chains_after (queue_chain blocks q) ++ b ∷ []) 0 (λ (e : 0 ≡ queue_chain blocks q). omega arith) ∙ changed_other t.chains_after (out_chain blocks) [] 0 (λ (e : 0 ≡ out_chain blocks). omega arith)

  queue_new : IsQueue o m6 q (chains (queue_chain blocks q)) (s.queues q ++ v ∷ [])
  queue_new =
      let k = h.holds.queues q q_in in
      rw chain_new (record {
        listed = map-append (λ (x : ℕ). m6 (first_at o x)) old (b ∷ []) ∙ (let e : map (λ x. m6 (first_at o x)) old ≡ s.queues q = items_same o m m6 old (same_blocks (queue_chain blocks q) (omega arith) (omega (arith, q_in))) ∙ k.listed in rw (e, new_item) refl);
        numbers = each_append IsNumber (s.queues q) (v ∷ []) k.numbers (v_in, tt);
        ends = new_last ∙ sym (last_pointer-append 0 b old);
        counted = new_length ∙ ap (λ x. x + 1) k.counted ∙ sym (length-append (s.queues q) (v ∷ []) ∙ (omega arith));
      })

  pub stands : StandsForStore o blocks m6 (record s { queues = with_value s.queues q (s.queues q ++ v ∷ []) })
  stands = record {
    chains = chains;
    owner = with_value t.owner b (queue_chain blocks q);
    heap = heap6;
    none_out = changed_other (with_value t.chains_after (out_chain blocks) []) (queue_chain blocks q) (t.chains_after (queue_chain blocks q) ++ b ∷ []) (out_chain blocks) (λ (e : out_chain blocks ≡ queue_chain blocks q). omega (arith, q_in)) ∙ changed_same t.chains_after (out_chain blocks) [];
    room = h.room;
    sixteen = h.sixteen;
    holds = record {
      registers = λ r l. let e : m6 (register_at o r) ≡ m (register_at o r) = same (register_at o r) (λ e. omega arith) (λ e. omega arith) (λ e. omega (arith, head_is)) (λ y e. omega arith) (λ e. omega arith) (λ e. omega arith) (λ e. omega arith) in
          rw e (h.holds.registers r l);
      values = λ k. let l : k % bucket_count blocks < bucket_count blocks = key_bucket blocks k in rw (chain_other (1 + k % bucket_count blocks) (omega arith) (omega arith) (λ (e : 1 + k % bucket_count blocks ≡ queue_chain blocks q). omega arith))
          (h.holds.values k ∙ sym (value_same o m m6 k (h.chains (1 + k % bucket_count blocks)) (same_blocks (1 + k % bucket_count blocks) (omega arith) (omega arith))));
      buckets = λ n l. rw (chain_other (1 + n) (omega arith) (omega arith) (λ (e : 1 + n ≡ queue_chain blocks q). omega arith)) (bucket_same o blocks m m6 n (h.chains (1 + n)) (same_blocks (1 + n) (omega arith) (omega arith)) (h.holds.buckets n l));
      keys = same (keys_at o) (λ e. omega arith) (λ e. omega arith) (λ e. omega (arith, head_is)) (λ y e. omega arith) (λ e. omega arith) (λ e. omega arith) (λ e. omega arith) ∙ h.holds.keys;
      key_blocks = count;
      queues = λ r l. changed_cases (λ (r : ℕ) (items : List ℕ). r < 4 → IsQueue o m6 r (chains (queue_chain blocks r)) items) s.queues q (s.queues q ++ v ∷ []) r
          (λ _ _. queue_new)
          (λ ne l. rw (chain_other (queue_chain blocks r) (omega arith) (omega arith) (λ (e : queue_chain blocks r ≡ queue_chain blocks q). ne (omega arith)))
          (queue_same o m m6 r (h.chains (queue_chain blocks r)) (s.queues r) (same_blocks (queue_chain blocks r) (omega arith) (omega arith))
          (same (tail_at o r) (λ e. omega arith) (λ e. omega arith) (λ e. omega (arith, head_is)) (λ y e. omega arith) (λ e. omega arith) (λ e. ne (omega arith)) (λ e. omega arith))
          (same (length_at o r) (λ e. omega arith) (λ e. omega arith) (λ e. omega (arith, head_is)) (λ y e. omega arith) (λ e. omega arith) (λ e. omega arith) (λ e. ne (omega arith))) (h.holds.queues r l))) l;
    };
  }
    where
      count : blocks_in_chains chains (queue_chain blocks 0) ≡ length (chains 0) + fin.len s.map
      count =
          let p1 : blocks_in_chains chains (queue_chain blocks 0) ≡ blocks_in_chains (with_value t.chains_after (out_chain blocks) []) (queue_chain blocks 0) = total_changed_past (with_value t.chains_after (out_chain blocks) []) (queue_chain blocks q) (t.chains_after (queue_chain blocks q) ++ b ∷ []) (queue_chain blocks 0) (omega arith) in
          let p2 : blocks_in_chains (with_value t.chains_after (out_chain blocks) []) (queue_chain blocks 0) ≡ blocks_in_chains t.chains_after (queue_chain blocks 0) = total_changed_past t.chains_after (out_chain blocks) [] (queue_chain blocks 0) (omega arith) in
          omega (arith, ap length chain_free, t.sums, h.holds.key_blocks)

  last_is : last_cell o q (m3 (tail_at o q)) ≡ last
  last_is = ap (last_cell o q) tail_read ∙ go (last_cases o (front_at o blocks (queue_chain blocks q)) old) ∙ ap (λ (l : List ℕ). cell_after o (front_at o blocks (queue_chain blocks q)) l) (sym same_chain)
    where
      tail_read : m3 (tail_at o q) ≡ last_pointer 0 old
      tail_read = changed_other m2 (link_at o b) 0 (tail_at o q) (λ e. omega (arith, q_in)) ∙ changed_other m1 (first_at o b) v (tail_at o q) (λ e. omega (arith, q_in)) ∙ t.cells (tail_at o q) (λ e. omega arith) (λ e. omega arith) ∙ (h.holds.queues q q_in).ends

      go : ((last_pointer 0 old ≡ 0) × (cell_after o (front_at o blocks (queue_chain blocks q)) old ≡ front_at o blocks (queue_chain blocks q))) ⊎ ((t : ℕ) × (last_pointer 0 old ≡ t + 1) × (cell_after o (front_at o blocks (queue_chain blocks q)) old ≡ link_at o t)) → last_cell o q (last_pointer 0 old) ≡ cell_after o (front_at o blocks (queue_chain blocks q)) old
      go (inl e) = ap (last_cell o q) e.0 ∙ sym (e.1 ∙ head_is)
      go (inr e) = let k : last_pointer 0 old ≡ suc e.0 = e.1 ∙ (omega arith) in ap (last_cell o q) k ∙ sym e.2

  -- the program's writes are these
  pub pushes : (memory_after (push_new o q v (Some b)) m1 ≡ m6) × (program_answer (push_new o q v (Some b)) m1 ≡ true)
  pushes = (ap (λ (x : ℕ). memory_after (new_tail o q b) (with_value m3 x (b + 1))) last_is, refl)

  below_tail : m3 (tail_at o q) ≤ blocks
  below_tail = rw (changed_other m2 (link_at o b) 0 (tail_at o q) (λ e. omega (arith, q_in)), changed_other m1 (first_at o b) v (tail_at o q) (λ e. omega (arith, q_in)), t.cells (tail_at o q) (λ e. omega arith) (λ e. omega arith)) (tail_small o blocks m s h q q_in)

  cell_inside : (p : ℕ) → p ≤ blocks → (o ≤ last_cell o q p) × (last_cell o q p < cells_at o blocks)
  cell_inside zero l = (omega arith, omega (arith, q_in))
  cell_inside (suc p) l = (omega arith, omega arith)

  -- they are inside, and each number is a word
  pub new_inside : blocks ≤ MOST_BLOCKS → StaysBetween o (cells_at o blocks) (push_new o q v (Some b)) m1
  new_inside few =
      let b_in : b < blocks = omega (arith, out.0, t.heap.few) in
      let c = cell_inside (m3 (tail_at o q)) below_tail in
      let n : with_value (with_value m3 (last_cell o q (m3 (tail_at o q))) (b + 1)) (tail_at o q) (b + 1) (length_at o q) + 1 < 4294967296 = rw last_is (omega (arith, ap (λ (x : ℕ). x) length_read, length_small o blocks m s h q q_in)) in (
        omega arith,
        omega arith,
        omega (arith, v_in),
        (
          omega arith,
          omega arith,
          omega arith,
          (
            omega arith,
            omega (arith, q_in),
            (
              c.0,
              c.1,
              omega arith,
              (
                omega arith,
                omega (arith, q_in),
                omega arith,
                (
                  omega arith,
                  omega (arith, q_in),
                  (omega arith, omega (arith, q_in), n, tt),
                ),
              ),
            ),
          ),
        ),
      )
    where
      length_read : with_value m4 (tail_at o q) (b + 1) (length_at o q) ≡ m (length_at o q)
      length_read = changed_other m4 (tail_at o q) (b + 1) (length_at o q) (λ e. omega arith)
          ∙ changed_other m3 last (b + 1) (length_at o q) (not_last (length_at o q) (λ e. omega (arith, head_is)) (λ y e. omega (arith, q_in))) ∙ changed_other m2 (link_at o b) 0 (length_at o q) (λ e. omega (arith, q_in))
          ∙ changed_other m1 (first_at o b) v (length_at o q) (λ e. omega (arith, q_in)) ∙ t.cells (length_at o q) (λ e. omega arith) (λ e. omega arith)
