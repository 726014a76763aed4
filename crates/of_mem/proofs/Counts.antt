-- How many blocks, keys and items cells have that stand for a store.
use Rattle.std.proofs.Common.{◌≡◌, ℕ, zero, suc, ◌+◌, ◌<◌, ◌≤◌, inl, inr, sym, ◌∙◌, ap, arith, List, [], ◌∷◌, length}
use Rattle.std.proofs.lemmas.Bool.{cases_lt}
use Rattle.std.proofs.lemmas.List.{length-map}
use Rattle.std.specs.List.{AllByRecursion as Each}
use Rattle.of_mem.specs.Places.{fresh_at, keys_at, tail_at, length_at}
use Rattle.of_mem.specs.Stores.{out_chain, queue_chain, CellStore, StandsForStore, first_at, blocks_in_chains, thing_count, last_pointer}
use Rattle.of_mem.proofs.Heaps.{each_weaker}

length_total : (chains : ℕ → List ℕ) (n c : ℕ) → c < n → length (chains c) ≤ blocks_in_chains chains n
length_total chains zero c l = absurd (omega arith)
length_total chains (suc n) c l = elim (cases_lt c n) [
  | inl k ↦ let r : length (chains c) ≤ blocks_in_chains chains n = length_total chains n c k in omega arith
  | inr k ↦ let e : c ≡ n = omega arith in rw e (omega arith)
]

-- two chains have no more blocks than all
pub two_total : (chains : ℕ → List ℕ) (n c : ℕ) → 1 ≤ c → c < n → length (chains 0) + length (chains c) ≤ blocks_in_chains chains n
two_total chains zero c k l = absurd (omega arith)
two_total chains (suc n) c k l = elim (cases_lt c n) [
  | inl q ↦ let r : length (chains 0) + length (chains c) ≤ blocks_in_chains chains n = two_total chains n c k q in omega arith
  | inr q ↦ let e : c ≡ n = omega arith in let r : length (chains 0) ≤ blocks_in_chains chains n = length_total chains n 0 (omega arith) in rw e (omega arith)
]

-- one chain more
pub chain_more : (chains : ℕ → List ℕ) (n k : ℕ) → k ≡ suc n → blocks_in_chains chains k ≡ blocks_in_chains chains n + length (chains n)
chain_more chains n k e = ap (blocks_in_chains chains) e

-- the chains of the free list and of the buckets, and those of the queues
pub queue_chains : (blocks : ℕ) (chains : ℕ → List ℕ) → blocks_in_chains chains (out_chain blocks) ≡ blocks_in_chains chains (queue_chain blocks 0) + length (chains (queue_chain blocks 0)) + length (chains (queue_chain blocks 1)) + length (chains (queue_chain blocks 2)) + length (chains (queue_chain blocks 3))
queue_chains blocks chains = omega (
  arith,
  chain_more chains (queue_chain blocks 0) (queue_chain blocks 1) (omega arith),
  chain_more chains (queue_chain blocks 1) (queue_chain blocks 2) (omega arith),
  chain_more chains (queue_chain blocks 2) (queue_chain blocks 3) (omega arith),
  chain_more chains (queue_chain blocks 3) (out_chain blocks) (omega arith),
)

-- with the blocks that are out
pub all_chains : (blocks : ℕ) (chains : ℕ → List ℕ) → blocks_in_chains chains (1 + out_chain blocks) ≡ blocks_in_chains chains (queue_chain blocks 0) + length (chains (queue_chain blocks 0)) + length (chains (queue_chain blocks 1)) + length (chains (queue_chain blocks 2)) + length (chains (queue_chain blocks 3)) + length (chains (out_chain blocks))
all_chains blocks chains = omega (arith, queue_chains blocks chains, chain_more chains (out_chain blocks) (1 + out_chain blocks) (omega arith))

module _ (o blocks : ℕ) (m : ℕ → ℕ) (s : CellStore) (h : StandsForStore o blocks m s) where
  pub blocks_below : (c : ℕ) → c < 1 + out_chain blocks → Each (λ b. b < blocks) (h.chains c)
  blocks_below c l = each_weaker (λ b. (b < m (fresh_at o)) × (h.owner b ≡ c)) (λ b. b < blocks) (λ b k. omega (arith, k.0, h.heap.few)) (h.chains c) (h.heap.owned c l)

  pub few_blocks : (c : ℕ) → c < 1 + out_chain blocks → length (h.chains c) < blocks + 1
  few_blocks c l = omega (arith, length_total h.chains (1 + out_chain blocks) c l, h.heap.counted, h.heap.few)

  pub lengths : (q : ℕ) → q < 4 → length (h.chains (queue_chain blocks q)) ≡ length (s.queues q)
  lengths q l = sym (ap length (sym (h.holds.queues q l).listed) ∙ length-map (h.chains (queue_chain blocks q)) (λ (b : ℕ). m (first_at o b)))

  -- the things and the free list are the blocks that were taken once
  pub counted : thing_count s + length (h.chains 0) ≡ m (fresh_at o)
  counted = omega (arith, all_chains blocks h.chains, h.heap.counted, h.holds.key_blocks, lengths 0 (omega arith), lengths 1 (omega arith), lengths 2 (omega arith), lengths 3 (omega arith), ap length h.none_out)

  pub keys_small : m (keys_at o) ≤ blocks
  keys_small = omega (arith, h.holds.keys, h.holds.key_blocks, all_chains blocks h.chains, h.heap.counted, h.heap.few)

  pub length_small : (q : ℕ) → q < 4 → m (length_at o q) ≤ blocks
  length_small q l = omega (arith, (h.holds.queues q l).counted, lengths q l, few_blocks (queue_chain blocks q) (omega arith))

last_below : (blocks p : ℕ) (l : List ℕ) → p ≤ blocks → Each (λ b. b < blocks) l → last_pointer p l ≤ blocks
last_below blocks p [] h k = h
last_below blocks p (b ∷ l) h k = last_below blocks (b + 1) l (omega (arith, k.0)) k.1

pub tail_small : (o blocks : ℕ) (m : ℕ → ℕ) (s : CellStore) (h : StandsForStore o blocks m s) (q : ℕ) → q < 4 → m (tail_at o q) ≤ blocks
tail_small o blocks m s h q l = rw ((h.holds.queues q l).ends) (last_below blocks 0 (h.chains (queue_chain blocks q)) (omega arith) (blocks_below o blocks m s h (queue_chain blocks q) (omega arith)))
