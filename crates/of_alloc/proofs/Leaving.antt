-- A key's block leaves its bucket, and goes to the free list.
use Rattle.std.proofs.Common.{◌≡◌, ℕ, ◌+◌, ◌-◌, ◌%◌, ◌<◌, ◌≤◌, ◌≢◌, ◌⊎◌, inl, inr, refl, sym, ◌∙◌, ap, subst, arith, eqb, cond, None, List, [], ◌∷◌, ◌++◌, length, eq-eqb, is_some, length-append}
use Rattle.std.specs.List.{AllByRecursion as Each}
use Rattle.std.specs.Cmp.{nat_cmp_total}
use Rattle.std.specs.Ordering.{nat_cmp, eq_by_cmp}
use Rattle.std.specs.FinMap as fin
use Rattle.std.proofs.lemmas.Bool.{ne_eqb, cases_eq}
use Rattle.std.proofs.lemmas.Bool.Decides.{nat_tests}
use Rattle.of_mem.specs.declared.plot.TheConstants.{MOST_BLOCKS}
use Rattle.of_mem.specs.Places.{bucket_count, register_at, free_at, keys_at, bucket_at, tail_at, length_at, cells_at}
use Rattle.of_mem.specs.Programs.{Write, with_value, StaysBetween, IsPartOf}
use Rattle.of_mem.specs.Stores.{out_chain, queue_chain, CellStore, StandsForStore, IsHeap, IsChain, IsBucket, front_at, link_at, first_at, second_at, cell_after, value_in, blocks_in_chains}
use Rattle.of_mem.proofs.BucketPlaces.{bucket_in, bucket_no_block, bucket_no_end, key_bucket}
use Rattle.of_mem.proofs.Changes.{changed_same, changed_other, total_changed, total_changed_past}
use Rattle.of_mem.proofs.Heaps.{front_bucket, front_below, each_weaker, each_append, each_left, each_right, cell_in, all_links, chain_rest, pointer_small}
use Rattle.of_mem.proofs.Moves.{heap_changed, heap_unlink}
use Rattle.of_mem.proofs.Frames.{SameBlocks, value_same, bucket_same, queue_same, value_none, bucket_split, value_without}
use Rattle.of_mem.specs.Part.{Part, write}
use Rattle.of_mem.proofs.Counts.{blocks_below, two_total}
use Rattle.of_mem.proofs.Runs.{part_wrote}
use Rattle.of_alloc.specs.Blocks.{IsFreeList, IsOut}
use Rattle.of_alloc.specs.BlockPrograms.{give_program}
use Rattle.of_alloc.specs.Found.{HasKeyBlock}
use Rattle.of_alloc.proofs.Heaped.{give_heap, heap_free_list, heap_out}
use Rattle.of_alloc.proofs.Takings.{free_small}

pub keys_tie : (a b : ℕ) → eq_by_cmp nat_cmp a b ≡ eqb a b
keys_tie a b = grind (arith, nat_tests)

module _ (o blocks : ℕ) (m : ℕ → ℕ) (s : CellStore) (h : StandsForStore o blocks m s) (key b : ℕ) (cell : ℕ) (f : HasKeyBlock o m key (bucket_at o blocks (key % bucket_count blocks)) (h.chains (1 + key % bucket_count blocks)) cell b) where
  abbrev n : ℕ
  n = key % bucket_count blocks

  abbrev pub left : List ℕ
  left = f.before ++ f.behind

  abbrev at : ℕ
  at = cell_after o (front_at o blocks (1 + n)) f.before

  abbrev pub m1 : ℕ → ℕ
  m1 = with_value m at (m (link_at o b))

  abbrev pub m3 : ℕ → ℕ
  m3 = with_value (with_value m1 (link_at o b) (m1 (free_at o))) (free_at o) (b + 1)

  abbrev pub m4 : ℕ → ℕ
  m4 = with_value m3 (keys_at o) (m3 (keys_at o) - 1)

  abbrev pub chains1 : ℕ → List ℕ
  chains1 = with_value (with_value h.chains (1 + n) left) (out_chain blocks) (b ∷ [])

  abbrev chains : ℕ → List ℕ
  chains = with_value (with_value chains1 (out_chain blocks) []) 0 (b ∷ chains1 0)

  small : n < bucket_count blocks
  small = key_bucket blocks key

  place : cell ≡ at
  place = f.place ∙ ap (λ (a : ℕ). cell_after o a f.before) (sym (front_bucket o blocks n small))

  heap1 : IsHeap o blocks m1 chains1 (with_value h.owner b (out_chain blocks))
  heap1 = heap_unlink o blocks m h.chains h.owner h.heap (1 + n) b f.before f.behind (omega (arith, small)) f.split h.none_out

  heap4 : IsHeap o blocks m4 chains (with_value (with_value h.owner b (out_chain blocks)) b 0)
  heap4 = heap_changed o blocks m3 chains (with_value (with_value h.owner b (out_chain blocks)) b 0)
      (give_heap o blocks m1 chains1 (with_value h.owner b (out_chain blocks)) b heap1
      (changed_same (with_value h.chains (1 + n) left) (out_chain blocks) (b ∷ [])) (changed_same h.owner b (out_chain blocks)))
      (keys_at o) (m3 (keys_at o) - 1) (λ e. omega arith) (λ c l. (front_below o blocks c l).2) (λ x e. omega arith)

  -- every other cell that is no link is as it was
  same : (a : ℕ) → a ≢ free_at o → a ≢ keys_at o → a ≢ bucket_at o blocks n → ((x : ℕ) → a ≢ link_at o x) → m4 a ≡ m a
  same a p1 p2 p3 p4 =
      changed_other m3 (keys_at o) (m3 (keys_at o) - 1) a p2 ∙ changed_other (with_value m1 (link_at o b) (m1 (free_at o))) (free_at o) (b + 1) a p1 ∙ changed_other m1 (link_at o b) (m1 (free_at o)) a (p4 b)
      ∙ changed_other m at (m (link_at o b)) a (cell_in o (λ c. a ≢ c) (front_at o blocks (1 + n)) f.before (λ (e : a ≡ front_at o blocks (1 + n)). p3 (e ∙ front_bucket o blocks n small)) (all_links o a p4 f.before))

  pub blocks_same : (l : List ℕ) → Each (λ x. x < blocks) l → SameBlocks o m m4 l
  blocks_same [] k = tt
  blocks_same (x ∷ l) k = (
    (same (first_at o x) (λ e. omega arith) (λ e. omega arith) (λ e. bucket_no_block o blocks n x 0 small k.0 (omega arith) (sym e)) (λ y e. omega arith), same (second_at o x) (λ e. omega arith) (λ e. omega arith) (λ e. bucket_no_block o blocks n x 1 small k.0 (omega arith) (sym e)) (λ y e. omega arith)),
    blocks_same l k.1,
  )

  below : Each (λ x. x < blocks) (f.before ++ b ∷ f.behind)
  below = subst (λ (q : List ℕ). Each (λ x. x < blocks) q) f.split (blocks_below o blocks m s h (1 + n) (omega (arith, small)))

  left_below : Each (λ x. x < blocks) left
  left_below = each_append (λ x. x < blocks) f.before f.behind (each_left (λ x. x < blocks) f.before (b ∷ f.behind) below) (each_right (λ x. x < blocks) f.before (b ∷ f.behind) below).1

  pub chain_same : (c : ℕ) → c < out_chain blocks → SameBlocks o m m4 (h.chains c)
  chain_same c l = blocks_same (h.chains c) (blocks_below o blocks m s h c (omega arith))

  chain_new : chains (1 + n) ≡ left
  chain_new = changed_other (with_value chains1 (out_chain blocks) []) 0 (b ∷ chains1 0) (1 + n) (λ (e : 1 + n ≡ 0). omega arith) ∙ changed_other chains1 (out_chain blocks) [] (1 + n) (λ (e : 1 + n ≡ out_chain blocks). omega (arith, small))
      ∙ changed_other (with_value h.chains (1 + n) left) (out_chain blocks) (b ∷ []) (1 + n) (λ (e : 1 + n ≡ out_chain blocks). omega (arith, small)) ∙ changed_same h.chains (1 + n) left

  chain_other : (c : ℕ) → 1 ≤ c → c < out_chain blocks → c ≢ 1 + n → chains c ≡ h.chains c
  chain_other c l k ne = changed_other (with_value chains1 (out_chain blocks) []) 0 (b ∷ chains1 0) c (λ (e : c ≡ 0). omega arith) ∙ changed_other chains1 (out_chain blocks) [] c (λ (e : c ≡ out_chain blocks). omega arith)
      ∙ changed_other (with_value h.chains (1 + n) left) (out_chain blocks) (b ∷ []) c (λ (e : c ≡ out_chain blocks). omega arith) ∙ changed_other h.chains (1 + n) left c ne

  bucket_old : IsBucket o blocks m n (f.before ++ b ∷ f.behind)
  bucket_old = subst (λ (q : List ℕ). IsBucket o blocks m n q) f.split (h.holds.buckets n small)

  value_at : (k : ℕ) → fin.get (fin.remove s.map key) k ≡ value_in o m4 k (chains (1 + k % bucket_count blocks))
  value_at k = fin.get-remove nat_cmp_total s.map key k ∙ ap (λ t. cond t None (fin.get s.map k)) (keys_tie k key) ∙ go (cases_eq k key)
    where
      gone : value_in o m4 key left ≡ None
      gone = value_same o m m4 key left (blocks_same left left_below) ∙ value_none o m key left (subst (λ (x : ℕ). Each (λ z. m (first_at o z) ≢ x) left) f.same (bucket_split o blocks m n b f.before f.behind bucket_old).1)

      go : (k ≡ key) ⊎ (k ≢ key) → cond (eqb k key) None (fin.get s.map k) ≡ value_in o m4 k (chains (1 + k % bucket_count blocks))
      go (inl e) = rw (e, eq-eqb key key refl, chain_new) (sym gone)
      go (inr e) = rw (ne_eqb k key e) (h.holds.values k ∙ other (cases_eq (k % bucket_count blocks) n))
        where
          other : (k % bucket_count blocks ≡ n) ⊎ (k % bucket_count blocks ≢ n) → value_in o m k (h.chains (1 + k % bucket_count blocks)) ≡ value_in o m4 k (chains (1 + k % bucket_count blocks))
          other (inl q) = rw (q, chain_new, f.split) (sym (value_same o m m4 k left (blocks_same left left_below) ∙ value_without o m k b f.before f.behind (λ (x : m (first_at o b) ≡ k). e (sym x ∙ f.same))))
          other (inr q) = let l : k % bucket_count blocks < bucket_count blocks = key_bucket blocks k in
              rw (chain_other (1 + k % bucket_count blocks) (omega arith) (omega arith) (λ (x : 1 + k % bucket_count blocks ≡ 1 + n). q (omega arith))) (sym (value_same o m m4 k (h.chains (1 + k % bucket_count blocks)) (chain_same (1 + k % bucket_count blocks) (omega arith))))

  fewer : fin.len (fin.remove s.map key) ≡ fin.len s.map - 1
  fewer = fin.len-remove nat_cmp_total s.map key ∙ ap (λ t. cond (is_some t) (fin.len s.map - 1) (fin.len s.map)) (h.holds.values key ∙ f.value)

  count : blocks_in_chains chains (queue_chain blocks 0) ≡ length (chains 0) + fin.len (fin.remove s.map key)
  count =
      let p1 : blocks_in_chains chains (queue_chain blocks 0) + length (with_value chains1 (out_chain blocks) [] 0) ≡ blocks_in_chains (with_value chains1 (out_chain blocks) []) (queue_chain blocks 0) + length (b ∷ chains1 0) = total_changed (with_value chains1 (out_chain blocks) []) 0 (b ∷ chains1 0) (queue_chain blocks 0) (omega arith) in
      let p2 : blocks_in_chains (with_value chains1 (out_chain blocks) []) (queue_chain blocks 0) ≡ blocks_in_chains chains1 (queue_chain blocks 0) = total_changed_past chains1 (out_chain blocks) [] (queue_chain blocks 0) (omega arith) in
      let p3 : blocks_in_chains chains1 (queue_chain blocks 0) ≡ blocks_in_chains (with_value h.chains (1 + n) left) (queue_chain blocks 0) = total_changed_past (with_value h.chains (1 + n) left) (out_chain blocks) (b ∷ []) (queue_chain blocks 0) (omega arith) in
      let p4 : blocks_in_chains (with_value h.chains (1 + n) left) (queue_chain blocks 0) + length (h.chains (1 + n)) ≡ blocks_in_chains h.chains (queue_chain blocks 0) + length left = total_changed h.chains (1 + n) left (queue_chain blocks 0) (omega (arith, small)) in
      let p5 : length (with_value chains1 (out_chain blocks) [] 0) ≡ length (chains1 0) = ap length (changed_other chains1 (out_chain blocks) [] 0 (λ (e : 0 ≡ out_chain blocks). omega arith)) in
      let p6 : length (chains1 0) ≡ length (h.chains 0) = ap length (changed_other (with_value h.chains (1 + n) left) (out_chain blocks) (b ∷ []) 0 (λ (e : 0 ≡ out_chain blocks). omega arith) ∙ changed_other h.chains (1 + n) left 0 (λ (e : 0 ≡ 1 + n). omega arith)) in
      let p7 : length (h.chains (1 + n)) ≡ length f.before + (1 + length f.behind) = ap length f.split ∙ length-append f.before (b ∷ f.behind) ∙ (omega arith) in
      let p8 : length (chains 0) ≡ 1 + length (chains1 0) = ap length (changed_same (with_value chains1 (out_chain blocks) []) 0 (b ∷ chains1 0)) ∙ (omega arith) in
      omega (arith, fewer, h.holds.key_blocks, length-append f.before f.behind, two_total h.chains (queue_chain blocks 0) (1 + n) (omega arith) (omega (arith, small)))

  pub del_stands : StandsForStore o blocks m4 (record s { map = fin.remove s.map key })
  del_stands = record {
    chains = chains;
    owner = with_value (with_value h.owner b (out_chain blocks)) b 0;
    heap = heap4;
    none_out = changed_other (with_value chains1 (out_chain blocks) []) 0 (b ∷ chains1 0) (out_chain blocks) (λ (e : out_chain blocks ≡ 0). omega arith) ∙ changed_same chains1 (out_chain blocks) [];
    room = h.room;
    sixteen = h.sixteen;
    holds = record {
      registers = λ r l. let e : m4 (register_at o r) ≡ m (register_at o r) = same (register_at o r) (λ e. omega arith) (λ e. omega arith) (λ e. omega (arith, bucket_in o blocks n small)) (λ y e. omega arith) in rw e (h.holds.registers r l);
      values = value_at;
      buckets = λ x l. elim (cases_eq x n) [
        | inl e ↦ rw (e, chain_new) (bucket_same o blocks m m4 n left (blocks_same left left_below) (bucket_split o blocks m n b f.before f.behind bucket_old).0)
        | inr e ↦ rw (chain_other (1 + x) (omega arith) (omega arith) (λ (q : 1 + x ≡ 1 + n). e (omega arith))) (bucket_same o blocks m m4 x (h.chains (1 + x)) (chain_same (1 + x) (omega arith)) (h.holds.buckets x l))
      ];
      keys = changed_same m3 (keys_at o) (m3 (keys_at o) - 1) ∙ ap (λ x. x - 1) (changed_other (with_value m1 (link_at o b) (m1 (free_at o))) (free_at o) (b + 1) (keys_at o) (λ e. omega arith) ∙ changed_other m1 (link_at o b) (m1 (free_at o)) (keys_at o) (λ e. omega arith)
          ∙ changed_other m at (m (link_at o b)) (keys_at o) (cell_in o (λ c. keys_at o ≢ c) (front_at o blocks (1 + n)) f.before (λ (e : keys_at o ≡ front_at o blocks (1 + n)). omega (arith, front_bucket o blocks n small, bucket_in o blocks n small)) (all_links o (keys_at o) (λ y e. omega arith) f.before)) ∙ h.holds.keys) ∙ sym fewer;
      key_blocks = count;
      queues = λ q l. rw (chain_other (queue_chain blocks q) (omega arith) (omega arith) (λ (e : queue_chain blocks q ≡ 1 + n). omega (arith, small)))
          (queue_same o m m4 q (h.chains (queue_chain blocks q)) (s.queues q) (chain_same (queue_chain blocks q) (omega arith)) (same (tail_at o q) (λ e. omega arith) (λ e. omega arith) (λ e. (bucket_no_end o blocks n q small l).0 (sym e)) (λ y e. omega arith))
          (same (length_at o q) (λ e. omega arith) (λ e. omega arith) (λ e. (bucket_no_end o blocks n q small l).1 (sym e)) (λ y e. omega arith)) (h.holds.queues q l));
    };
  }

  -- What the block leaves: it is out, and its key is still counted.

  pub keys1 : m1 (keys_at o) ≡ m (keys_at o)
  keys1 = changed_other m at (m (link_at o b)) (keys_at o) (cell_in o (λ c. keys_at o ≢ c) (front_at o blocks (1 + n)) f.before (λ (e : keys_at o ≡ front_at o blocks (1 + n)). omega (arith, front_bucket o blocks n small, bucket_in o blocks n small)) (all_links o (keys_at o) (λ y e. omega arith) f.before))

  pub one_key : 1 ≤ m (keys_at o)
  one_key = omega (arith, h.holds.keys, h.holds.key_blocks, two_total h.chains (queue_chain blocks 0) (1 + n) (omega arith) (omega (arith, small)), ap length f.split, length-append f.before (b ∷ f.behind))

  pub unlinked : (p : Part) → IsPartOf p m → IsPartOf (write p cell (m (link_at o b))) m1 × IsFreeList o blocks m1 (chains1 0) × IsOut o m1 (chains1 0) b × (1 ≤ m1 (keys_at o))
  unlinked p is = (
    subst (λ (c : ℕ). IsPartOf (write p c (m (link_at o b))) m1) (sym place) (part_wrote p m at (m (link_at o b)) is),
    heap_free_list o blocks m1 chains1 (with_value h.owner b (out_chain blocks)) heap1,
    heap_out o blocks m1 chains1 (with_value h.owner b (out_chain blocks)) b heap1 (changed_same (with_value h.chains (1 + n) left) (out_chain blocks) (b ∷ [])),
    rw keys1 one_key,
  )

  links_inside : (l : List ℕ) → Each (λ x. x < blocks) l → Each (λ x. (o ≤ link_at o x) × (link_at o x < cells_at o blocks)) l
  links_inside l k = each_weaker (λ x. x < blocks) (λ x. (o ≤ link_at o x) × (link_at o x < cells_at o blocks)) (λ x q. (omega arith, omega arith)) l k

  pub cell_inside : (o ≤ cell) × (cell < cells_at o blocks)
  cell_inside = rw place (cell_in o (λ a. (o ≤ a) × (a < cells_at o blocks)) (front_at o blocks (1 + n)) f.before (omega (arith, front_bucket o blocks n small, bucket_in o blocks n small), omega (arith, front_bucket o blocks n small, bucket_in o blocks n small)) (links_inside f.before (each_left (λ x. x < blocks) f.before (b ∷ f.behind) below)))

  -- the pointer cell takes the block's link, and the block is given
  pub leave_inside : blocks ≤ MOST_BLOCKS → StaysBetween o (cells_at o blocks) (Write cell (m (link_at o b)) (give_program o b)) m
  leave_inside few =
      let b_in : b < blocks = (each_right (λ x. x < blocks) f.before (b ∷ f.behind) below).0 in
      let link : m (link_at o b) < 4294967296 = pointer_small o blocks few m (link_at o b) f.behind (chain_rest o m (front_at o blocks (1 + n)) b f.before f.behind (subst (λ (q : List ℕ). IsChain o m (front_at o blocks (1 + n)) q) f.split (h.heap.linked (1 + n) (omega (arith, small))))) (each_right (λ x. x < blocks) f.before (b ∷ f.behind) below).1 in
      let free : m1 (free_at o) < 4294967296 = free_small o blocks m1 (chains1 0) (heap_free_list o blocks m1 chains1 (with_value h.owner b (out_chain blocks)) heap1) few in
      let at_in : (o ≤ at) × (at < cells_at o blocks) = rw place at cell_inside in
      subst (λ (c : ℕ). StaysBetween o (cells_at o blocks) (Write c (m (link_at o b)) (give_program o b)) m) (sym place)
      (at_in.0, at_in.1, link, (omega arith, omega arith, (omega arith, omega arith, free, (omega arith, omega arith, omega arith, tt))))

  pub keys3 : m3 (keys_at o) ≡ m (keys_at o)
  keys3 = changed_other (with_value m1 (link_at o b) (m1 (free_at o))) (free_at o) (b + 1) (keys_at o) (λ e. omega arith) ∙ changed_other m1 (link_at o b) (m1 (free_at o)) (keys_at o) (λ e. omega arith) ∙ keys1

  -- the bucket's chain is the one without the block
  pub left_chain : IsChain o m4 (front_at o blocks (1 + n)) left
  left_chain = subst (λ (q : List ℕ). IsChain o m4 (front_at o blocks (1 + n)) q) chain_new (heap4.linked (1 + n) (omega (arith, small)))

  pub at_place : cell ≡ cell_after o (front_at o blocks (1 + n)) f.before
  at_place = place

  pub one_less : fin.len (fin.remove s.map key) ≡ fin.len s.map - 1
  one_less = fewer

  pub list_after : IsFreeList o blocks m1 (chains1 0)
  list_after = heap_free_list o blocks m1 chains1 (with_value h.owner b (out_chain blocks)) heap1

  pub out_after : IsOut o m1 (chains1 0) b
  out_after = heap_out o blocks m1 chains1 (with_value h.owner b (out_chain blocks)) b heap1 (changed_same (with_value h.chains (1 + n) left) (out_chain blocks) (b ∷ []))
