-- Cells that stand for a store stand for it at another place too.
use Rattle.std.proofs.Common.{◌≡◌, ◌≢◌, ℕ, ◌+◌, ◌-◌, ◌*◌, ◌%◌, ◌<◌, List, [], ◌∷◌, map, refl, sym, ap, ◌∙◌, arith}
use Rattle.std.specs.List.{AllByRecursion as Each}
use Rattle.of_mem.specs.Places.{bucket_count, buckets_behind, register_at, fresh_at, keys_at, tail_at, length_at}
use Rattle.of_mem.specs.Stores.{out_chain, queue_chain, CellStore, StandsForStore, IsChain, IsBucket, front_at, first_at, second_at, link_at, value_in}
use Rattle.of_mem.proofs.BucketPlaces.{key_bucket}
use Rattle.of_mem.proofs.Counts.{blocks_below}
use Rattle.of_mem.proofs.Heaps.{fronts, front_below}

-- ---- blocks whose cells are the same, n from u on as m from o on

abbrev Same : (o u : ℕ) → (ℕ → ℕ) → (ℕ → ℕ) → List ℕ → Type 0
Same o u m n l = Each (λ b. (n (first_at u b) ≡ m (first_at o b)) × (n (second_at u b) ≡ m (second_at o b))) l

value_shifted : (o u : ℕ) (m n : ℕ → ℕ) (key : ℕ) (l : List ℕ) → Same o u m n l → value_in u n key l ≡ value_in o m key l
value_shifted o u m n key [] h = refl
value_shifted o u m n key (b ∷ l) h = rw (h.0.0, h.0.1, value_shifted o u m n key l h.1) refl

each_not : (o u : ℕ) (m n : ℕ → ℕ) (x y : ℕ) (l : List ℕ) → Same o u m n l → x ≡ y → Each (λ z. m (first_at o z) ≢ y) l → Each (λ z. n (first_at u z) ≢ x) l
each_not o u m n x y [] h e k = tt
each_not o u m n x y (z ∷ l) h e k = ((λ (q : n (first_at u z) ≡ x). k.0 (sym h.0.0 ∙ q ∙ e)), each_not o u m n x y l h.1 e k.1)

bucket_shifted : (o u blocks : ℕ) (m n : ℕ → ℕ) (b : ℕ) (l : List ℕ) → Same o u m n l → IsBucket o blocks m b l → IsBucket u blocks n b l
bucket_shifted o u blocks m n b [] h k = tt
bucket_shifted o u blocks m n b (x ∷ l) h k =
    (rw h.0.0 k.0, rw h.0.0 k.1, rw h.0.1 k.2, each_not o u m n (n (first_at u x)) (m (first_at o x)) l h.1 h.0.0 k.3, bucket_shifted o u blocks m n b l h.1 k.4)

items_shifted : (o u : ℕ) (m n : ℕ → ℕ) (l : List ℕ) → Same o u m n l → map (λ b. n (first_at u b)) l ≡ map (λ b. m (first_at o b)) l
items_shifted o u m n [] h = refl
items_shifted o u m n (b ∷ l) h = let k : map (λ b. n (first_at u b)) l ≡ map (λ b. m (first_at o b)) l = items_shifted o u m n l h.1 in let e : n (first_at u b) ≡ m (first_at o b) = h.0.0 in rw (e, k) refl

chain_shifted : (o u : ℕ) (m n : ℕ → ℕ) (c d : ℕ) (l : List ℕ) → n d ≡ m c → Each (λ b. n (link_at u b) ≡ m (link_at o b)) l → IsChain o m c l → IsChain u n d l
chain_shifted o u m n c d [] e h k = e ∙ k
chain_shifted o u m n c d (b ∷ bs) e h k = (e ∙ k.0, chain_shifted o u m n (link_at o b) (link_at u b) bs h.0 h.1 k.1)

-- the front of a chain stands as far behind o as behind u
record IsFront (o u blocks c : ℕ) : Type 0 where
  pub far : ℕ
  pub within : far < 63 + 3 * blocks + buckets_behind blocks
  pub old : front_at o blocks c ≡ o + far
  pub new : front_at u blocks c ≡ u + far

front_of : (o u blocks c : ℕ) → c < out_chain blocks → IsFront o u blocks c
front_of o u blocks c l = record {
  far = front_at o blocks c - o;
  within = omega (arith, front_below o blocks c l);
  old = omega (arith, front_below o blocks c l);
  new = omega (arith, front_below o blocks c l, fronts o blocks c l, fronts u blocks c l);
}

-- ---- the store

module _ (o u blocks : ℕ) (m n : ℕ → ℕ) (same : (k : ℕ) → k < 63 + 3 * blocks + buckets_behind blocks → n (u + k) ≡ m (o + k)) (s : CellStore) (h : StandsForStore o blocks m s) where
  -- the cell that stands so far behind
  at : (k x y : ℕ) → k < 63 + 3 * blocks + buckets_behind blocks → x ≡ u + k → y ≡ o + k → n x ≡ m y
  at k x y l e f = ap n e ∙ same k l ∙ ap m (sym f)

  front : (c : ℕ) → c < out_chain blocks → n (front_at u blocks c) ≡ m (front_at o blocks c)
  front c l = let f = front_of o u blocks c l in at f.far (front_at u blocks c) (front_at o blocks c) (omega (arith, f.within)) f.new f.old

  links : (l : List ℕ) → Each (λ b. b < blocks) l → Each (λ b. n (link_at u b) ≡ m (link_at o b)) l
  links [] k = tt
  links (b ∷ l) k = (at (65 + 3 * b) (link_at u b) (link_at o b) (omega (arith, k.0)) (omega arith) (omega arith), links l k.1)

  blocks_same : (l : List ℕ) → Each (λ b. b < blocks) l → Same o u m n l
  blocks_same [] k = tt
  blocks_same (b ∷ l) k =
      ((at (63 + 3 * b) (first_at u b) (first_at o b) (omega (arith, k.0)) (omega arith) (omega arith), at (64 + 3 * b) (second_at u b) (second_at o b) (omega (arith, k.0)) (omega arith) (omega arith)), blocks_same l k.1)

  chain_same : (c : ℕ) → c < 1 + out_chain blocks → Same o u m n (h.chains c)
  chain_same c l = blocks_same (h.chains c) (blocks_below o blocks m s h c l)

  pub stands_shifted : StandsForStore u blocks n s
  stands_shifted =
      let fresh : n (fresh_at u) ≡ m (fresh_at o) = at 16 (fresh_at u) (fresh_at o) (omega arith) refl refl in
      record {
        chains = h.chains;
        owner = h.owner;
        heap = record {
          linked = λ c l. chain_shifted o u m n (front_at o blocks c) (front_at u blocks c) (h.chains c) (front c l) (links (h.chains c) (blocks_below o blocks m s h c (omega (arith, l)))) (h.heap.linked c l);
          owned = λ c l. rw fresh (h.heap.owned c l);
          counted = h.heap.counted ∙ sym fresh;
          few = rw fresh h.heap.few;
        };
        none_out = h.none_out;
        room = h.room;
        sixteen = h.sixteen;
        holds = record {
          registers = λ r l. let e : n (register_at u r) ≡ m (register_at o r) = at r (register_at u r) (register_at o r) (omega (arith, l)) refl refl in rw e (h.holds.registers r l);
          values = λ key. h.holds.values key ∙ sym (value_shifted o u m n key (h.chains (1 + key % bucket_count blocks)) (chain_same (1 + key % bucket_count blocks) (omega (arith, key_bucket blocks key))));
          buckets = λ b l. bucket_shifted o u blocks m n b (h.chains (1 + b)) (chain_same (1 + b) (omega (arith, l))) (h.holds.buckets b l);
          keys = at 18 (keys_at u) (keys_at o) (omega arith) refl refl ∙ h.holds.keys;
          key_blocks = h.holds.key_blocks;
          queues = λ q l. (let k = h.holds.queues q l in record {
            listed = items_shifted o u m n (h.chains (queue_chain blocks q)) (chain_same (queue_chain blocks q) (omega (arith, l))) ∙ k.listed;
            numbers = k.numbers;
            ends = at (52 + 3 * q) (tail_at u q) (tail_at o q) (omega (arith, l)) (omega arith) (omega arith) ∙ k.ends;
            counted = at (53 + 3 * q) (length_at u q) (length_at o q) (omega (arith, l)) (omega arith) (omega arith) ∙ k.counted;
          });
        };
      }
