-- Where a fault of a chain or of a count is named, the chains cannot go on to be sound.
use Rattle.std.proofs.Common.{◌≡◌, ℕ, zero, suc, ◌+◌, ◌%◌, ◌<◌, ◌≤◌, ◌≢◌, ◌⊎◌, inl, inr, List, [], ◌∷◌, ◌++◌, length, refl, sym, ◌∙◌, ap, subst, arith}
use Rattle.std.specs.List.{AllByRecursion as Each}
use Rattle.std.proofs.lemmas.Bool.{cases_eq, cases_lt}
use Rattle.of_mem.specs.Places.{bucket_count, fresh_at, keys_at}
use Rattle.of_mem.specs.Numbers.{IsNumber}
use Rattle.of_mem.specs.Stores.{out_chain, queue_chain, IsChain, IsBucket, front_at, first_at, second_at, last_pointer, blocks_in_chains}
use Rattle.of_mem.proofs.Heaps.{each_left, each_right, chain_apart, same_chain}
use Rattle.of_mem.proofs.Frames.{bucket_split}
use Rattle.of_eval.specs.Faults.{ContainsNumber, IsMet, IsNoKey, HasPassed, HasRightCounts, ChainFault, CountFault, pointer_cell}
use Rattle.of_eval.specs.Faults.ChainFault.{Pointer, Key, Value, Item}
use Rattle.of_eval.specs.Faults.CountFault.{Keys, Tail, Length}
use Rattle.of_eval.proofs.Paths.{has_each, path_front}

-- the chains before chain n are sound
pub record Whole (o blocks : ℕ) (m : ℕ → ℕ) (n : ℕ) (chains : ℕ → List ℕ) : Type 0 where
  pub linked : (c : ℕ) → c < n → IsChain o m (front_at o blocks c) (chains c)
  pub owner : ℕ → ℕ
  pub owned : (c : ℕ) → c < n → Each (λ b. (b < m (fresh_at o)) × (owner b ≡ c)) (chains c)
  pub buckets : (k : ℕ) → k < bucket_count blocks → 1 + k < n → IsBucket o blocks m k (chains (1 + k))
  pub items : (q : ℕ) → q < 4 → queue_chain blocks q < n → Each (λ b. IsNumber (m (first_at o b))) (chains (queue_chain blocks q))

-- what the walk met agrees with chain n, which goes on with this block
pub record GoesOn (o blocks : ℕ) (m : ℕ → ℕ) (n : ℕ) (chains : ℕ → List ℕ) (b : ℕ) (rest : List ℕ) : Type 0 where
  pub below : b < m (fresh_at o)
  pub unmet : IsMet chains b → ⊥
  pub bucket : (k : ℕ) → k < bucket_count blocks → n ≡ 1 + k → IsBucket o blocks m k (chains n ++ b ∷ rest)
  pub item : (q : ℕ) → q < 4 → n ≡ queue_chain blocks q → IsNumber (m (first_at o b))

-- what a bucket says of a block in its middle
bucket_at : (o blocks : ℕ) (m : ℕ → ℕ) (k b : ℕ) (xs ys : List ℕ) → IsBucket o blocks m k (xs ++ b ∷ ys) → (m (first_at o b) % bucket_count blocks ≡ k) × IsNumber (m (first_at o b)) × IsNumber (m (second_at o b))
bucket_at o blocks m k b [] ys h = (h.0, h.1, h.2)
bucket_at o blocks m k b (x ∷ xs) ys h = bucket_at o blocks m k b xs ys h.4

no_key : (o blocks : ℕ) (m : ℕ → ℕ) (k b : ℕ) (xs ys : List ℕ) → IsBucket o blocks m k (xs ++ b ∷ ys) → IsNoKey o blocks m k xs (m (first_at o b)) → ⊥
no_key o blocks m k b xs ys h (inl n) = n (bucket_at o blocks m k b xs ys h).1
no_key o blocks m k b xs ys h (inr (inl n)) = n (bucket_at o blocks m k b xs ys h).0
no_key o blocks m k b xs ys h (inr (inr x)) = has_each (λ z. m (first_at o z) ≢ m (first_at o b)) xs x.0 (each_left (λ z. m (first_at o z) ≢ m (first_at o b)) xs ys (bucket_split o blocks m k b xs ys h).1) x.1 x.2

-- the block behind a pointer is one
pub same_block : (o : ℕ) (m : ℕ → ℕ) (cell b d : ℕ) → m cell ≡ b + 1 → m cell ≡ d + 1 → b ≡ d
same_block o m cell b d e f = omega (arith, e, f)

-- where the chain goes on, there is no fault
pub no_fault : (o blocks : ℕ) (m : ℕ → ℕ) (n : ℕ) (chains : ℕ → List ℕ) (d : ℕ) (rest : List ℕ) (cell : ℕ) → m (pointer_cell o blocks n chains) ≡ d + 1 → GoesOn o blocks m n chains d rest → ChainFault o blocks m n chains cell → ⊥
no_fault o blocks m n chains d rest cell p g (Pointer l b e bad is) = go (same_block o m (pointer_cell o blocks n chains) b d e p) bad
  where
    go : b ≡ d → (m (fresh_at o) ≤ b) ⊎ IsMet chains b → ⊥
    go s (inl q) = omega (arith, s, q, g.below)
    go s (inr q) = g.unmet (subst (IsMet chains) s q)
no_fault o blocks m n chains d rest cell p g (Key k b k_in e l bad is) =
    let s : b ≡ d = same_block o m (pointer_cell o blocks n chains) b d l.pointer p in
    no_key o blocks m k d (chains n) rest (g.bucket k k_in e) (subst (λ x. IsNoKey o blocks m k (chains n) (m (first_at o x))) s bad)
no_fault o blocks m n chains d rest cell p g (Value k b k_in e l good bad is) =
    let s : b ≡ d = same_block o m (pointer_cell o blocks n chains) b d l.pointer p in
    bad (subst (λ x. IsNumber (m (second_at o x))) (sym s) (bucket_at o blocks m k d (chains n) rest (g.bucket k k_in e)).2)
no_fault o blocks m n chains d rest cell p g (Item q b q_in e l bad is) =
    let s : b ≡ d = same_block o m (pointer_cell o blocks n chains) b d l.pointer p in
    bad (subst (λ x. IsNumber (m (first_at o x))) (sym s) (g.item q q_in e))

-- each fault of a chain has a block behind its pointer
pub fault_block : (o blocks : ℕ) (m : ℕ → ℕ) (n : ℕ) (chains : ℕ → List ℕ) (cell : ℕ) → ChainFault o blocks m n chains cell → (n < out_chain blocks) × ((b : ℕ) × (m (pointer_cell o blocks n chains) ≡ b + 1))
fault_block o blocks m n chains cell (Pointer l b e bad is) = (l, (b, e))
fault_block o blocks m n chains cell (Key k b k_in e l bad is) = (omega (arith, k_in, e), (b, l.pointer))
fault_block o blocks m n chains cell (Value k b k_in e l good bad is) = (omega (arith, k_in, e), (b, l.pointer))
fault_block o blocks m n chains cell (Item q b q_in e l bad is) = (omega (arith, q_in, e), (b, l.pointer))

-- chains that are walked to their end are those of every other walk
pub same_chains : (o blocks : ℕ) (m : ℕ → ℕ) (n k : ℕ) (chains others : ℕ → List ℕ) → HasPassed o blocks m n chains → Whole o blocks m k others → (c : ℕ) → c < n → c < k → chains c ≡ others c
same_chains o blocks m n k chains others h w c l r = same_chain o m (front_at o blocks c) (chains c) (others c) (h.linked c l) (w.linked c r)

-- a whole chain goes on where the walk stands
pub whole_goes_on : (o blocks : ℕ) (m : ℕ → ℕ) (n k : ℕ) (chains others : ℕ → List ℕ) → HasPassed o blocks m n chains → Whole o blocks m k others → n < k → (b : ℕ) (rest : List ℕ) → others n ≡ chains n ++ b ∷ rest → GoesOn o blocks m n chains b rest
whole_goes_on o blocks m n k chains others h w l b rest e =
    let own = each_right (λ x. (x < m (fresh_at o)) × (w.owner x ≡ n)) (chains n) (b ∷ rest) (subst (Each (λ x. (x < m (fresh_at o)) × (w.owner x ≡ n))) e (w.owned n l)) in
    record {
      below = own.0.0;
      unmet = λ q. met q.0 own.0.1 q.1;
      bucket = λ j j_in is. subst (IsBucket o blocks m j) (ap others (sym is) ∙ e) (w.buckets j j_in (omega (arith, is, l)));
      item = λ q q_in is. (each_right (λ x. IsNumber (m (first_at o x))) (chains n) (b ∷ rest) (subst (Each (λ x. IsNumber (m (first_at o x)))) (ap others (sym is) ∙ e) (w.items q q_in (omega (arith, is, l))))).0;
    }
  where
    apart : Each (λ x. x ≢ b) (chains n)
    apart = each_left (λ x. x ≢ b) (chains n) rest (chain_apart o m (front_at o blocks n) b (chains n) rest (subst (IsChain o m (front_at o blocks n)) e (w.linked n l)))

    met : (c : ℕ) → w.owner b ≡ n → ContainsNumber (chains c) b → ⊥
    met c own q = elim (cases_lt c n) [
      | inl i ↦
          let there : ContainsNumber (others c) b = subst (λ (x : List ℕ). ContainsNumber x b) (same_chains o blocks m n k chains others h w c i (omega (arith, i, l))) q in
          let is = has_each (λ x. (x < m (fresh_at o)) × (w.owner x ≡ c)) (others c) b (w.owned c (omega (arith, i, l))) there in
          omega (arith, is.1, own, i)
      | inr i ↦ elim (cases_eq c n) [
        | inl s ↦ has_each (λ x. x ≢ b) (chains n) b apart (subst (λ x. ContainsNumber (chains x) b) s q) refl
        | inr s ↦ subst (λ (x : List ℕ). ContainsNumber x b) (h.others c (omega (arith, i, s))) q
      ]
    ]

-- no chain with a fault is whole
pub chain_excludes : (o blocks : ℕ) (m : ℕ → ℕ) (n k : ℕ) (chains others : ℕ → List ℕ) (cell : ℕ) → HasPassed o blocks m n chains → Whole o blocks m k others → n < k → ChainFault o blocks m n chains cell → ⊥
chain_excludes o blocks m n k chains others cell h w l f = go front.0 front.1 front.2
  where
    block : (b : ℕ) × (m (pointer_cell o blocks n chains) ≡ b + 1)
    block = (fault_block o blocks m n chains cell f).1

    front : (rest : List ℕ) × (others n ≡ chains n ++ rest) × IsChain o m (pointer_cell o blocks n chains) rest
    front = path_front o m (front_at o blocks n) (chains n) (others n) h.path (w.linked n l)

    go : (rest : List ℕ) → others n ≡ chains n ++ rest → IsChain o m (pointer_cell o blocks n chains) rest → ⊥
    go [] e c = omega (arith, c, block.1)
    go (b ∷ rest) e c = no_fault o blocks m n chains b rest cell c.0 (whole_goes_on o blocks m n k chains others h w l b rest e) f

total_same : (chains others : ℕ → List ℕ) (n : ℕ) → ((c : ℕ) → c < n → chains c ≡ others c) → blocks_in_chains chains n ≡ blocks_in_chains others n
total_same chains others zero h = refl
total_same chains others (suc n) h =
    let r : blocks_in_chains chains n ≡ blocks_in_chains others n = total_same chains others n (λ c l. h c (omega arith)) in
    let e : length (chains n) ≡ length (others n) = ap length (h n (omega arith)) in
    omega (arith, r, e)

-- which counts there are
pub count_in : (o blocks : ℕ) (m : ℕ → ℕ) (n : ℕ) (chains : ℕ → List ℕ) (cell : ℕ) → CountFault o blocks m n chains cell → n < 1 + out_chain blocks
count_in o blocks m n chains cell (Keys e bad is) = omega (arith, e)
count_in o blocks m n chains cell (Tail q q_in e bad is) = omega (arith, e, q_in)
count_in o blocks m n chains cell (Length q q_in e right bad is) = omega (arith, e, q_in)

-- no count with a fault is right
pub count_excludes : (o blocks : ℕ) (m : ℕ → ℕ) (n k : ℕ) (chains others : ℕ → List ℕ) (cell : ℕ) → ((c : ℕ) → c < n → chains c ≡ others c) → HasRightCounts o blocks m k others → n ≤ k → CountFault o blocks m n chains cell → ⊥
count_excludes o blocks m n k chains others cell same h l (Keys e bad is) =
    bad (ap (λ (x : List ℕ). m (keys_at o) + length x) (same 0 (omega (arith, e))) ∙ h.keys (omega (arith, e, l)) ∙ sym (total_same chains others (queue_chain blocks 0) (λ c i. same c (omega (arith, e, i)))))
count_excludes o blocks m n k chains others cell same h l (Tail q q_in e bad is) =
    bad (h.tails q (omega (arith, e, l)) ∙ ap (last_pointer 0) (sym (same (queue_chain blocks q) (omega (arith, e)))))
count_excludes o blocks m n k chains others cell same h l (Length q q_in e right bad is) =
    bad (h.lengths q (omega (arith, e, l)) ∙ ap length (sym (same (queue_chain blocks q) (omega (arith, e)))))

pub all_same : (o blocks : ℕ) (m : ℕ → ℕ) (n k : ℕ) (chains others : ℕ → List ℕ) → HasPassed o blocks m n chains → Whole o blocks m k others → n ≤ k → (c : ℕ) → c < n → chains c ≡ others c
all_same o blocks m n k chains others h w l c i = same_chains o blocks m n k chains others h w c i (omega arith)

-- what the walk passed is whole
pub whole_passed : (o blocks : ℕ) (m : ℕ → ℕ) (n : ℕ) (chains : ℕ → List ℕ) → HasPassed o blocks m n chains → Whole o blocks m n chains
whole_passed o blocks m n chains h = record { linked = h.linked; owner = h.owner; owned = λ c l. h.owned c; buckets = λ k k_in l. h.buckets k k_in; items = λ q q_in l. h.items q q_in }

pub total_passed : (blocks : ℕ) (chains others : ℕ → List ℕ) → ((c : ℕ) → c < out_chain blocks → chains c ≡ others c) → blocks_in_chains chains (out_chain blocks) ≡ blocks_in_chains others (out_chain blocks)
total_passed blocks chains others h = total_same chains others (out_chain blocks) h
