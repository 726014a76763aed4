-- Chains of blocks, and what a write does to them.
use Rattle.std.proofs.Common.{◌≡◌, ℕ, ◌+◌, ◌*◌, ◌<◌, ◌≤◌, ◌≢◌, ◌⊎◌, inl, inr, List, [], ◌∷◌, ◌++◌, length, refl, sym, ◌∙◌, ap, subst, arith}
use Rattle.std.specs.List.{AllByRecursion as Each}
use Rattle.std.proofs.lemmas.Bool.{cases_lt}
use Rattle.std.proofs.lemmas.Bool.Decides.{nat_tests}
use Rattle.of_mem.specs.Numbers.{FitsCell}
use Rattle.of_mem.specs.declared.plot.TheConstants.{MOST_BLOCKS}
use Rattle.of_mem.specs.Places.{free_at, keys_at, bucket_count, first_bucket, bucket_at, head_at, tail_at, length_at, block_at, cells_at}
use Rattle.of_mem.specs.Programs.{with_value}
use Rattle.of_mem.specs.Stores.{IsChain, queue_chain, out_chain, front_at, link_at, cell_after}
use Rattle.of_mem.proofs.BucketPlaces.{bucket_places}
use Rattle.of_mem.proofs.Changes.{changed_same, changed_other}

pub front_free : (o blocks : ℕ) → front_at o blocks 0 ≡ free_at o
unfolding front_at
front_free o blocks = refl

pub front_bucket : (o blocks n : ℕ) → n < bucket_count blocks → front_at o blocks (1 + n) ≡ bucket_at o blocks n
unfolding front_at
front_bucket o blocks n l = grind (arith, nat_tests)

pub front_head : (o blocks q : ℕ) → front_at o blocks (queue_chain blocks q) ≡ head_at o q
unfolding front_at
front_head o blocks q = grind (arith, nat_tests)

-- where a front can stand
pub fronts : (o blocks c : ℕ) → c < out_chain blocks → ((c ≡ 0) × (front_at o blocks c ≡ o + 17)) ⊎ (((1 ≤ c) × (c < queue_chain blocks 0) × (front_at o blocks c + 1 ≡ o + first_bucket blocks + c)) ⊎ ((queue_chain blocks 0 ≤ c) × (front_at o blocks c + 3 * queue_chain blocks 0 ≡ o + 51 + 3 * c)))
unfolding front_at
fronts o blocks c l = elim (cases_lt c 1) [
  | inl a ↦ inl (omega arith, grind (arith, nat_tests))
  | inr a ↦ elim (cases_lt c (queue_chain blocks 0)) [ inl b ↦ inr (inl (a, b, grind (arith, nat_tests))) | inr b ↦ inr (inr (b, grind (arith, nat_tests))) ]
]

pub front_apart : (o blocks c d : ℕ) → c < out_chain blocks → d < out_chain blocks → front_at o blocks c ≡ front_at o blocks d → c ≡ d
front_apart o blocks c d l k e = omega (arith, fronts o blocks c l, fronts o blocks d k, bucket_places blocks)

pub front_below : (o blocks c : ℕ) → c < out_chain blocks → (o + 17 ≤ front_at o blocks c) × (front_at o blocks c < cells_at o blocks) × (front_at o blocks c ≢ keys_at o)
front_below o blocks c l = (omega (arith, fronts o blocks c l, bucket_places blocks), omega (arith, fronts o blocks c l, bucket_places blocks), (λ e. omega (arith, fronts o blocks c l, bucket_places blocks)))

-- no front is a cell of a block
pub front_no_block : (o blocks c b f : ℕ) → c < out_chain blocks → b < blocks → f < 3 → front_at o blocks c ≢ block_at o b f
front_no_block o blocks c b f l k g e = omega (arith, fronts o blocks c l, bucket_places blocks)

-- nor counts it what a queue has, or points to its last block
pub front_no_end : (o blocks c q : ℕ) → c < out_chain blocks → q < 4 → (front_at o blocks c ≢ tail_at o q) × (front_at o blocks c ≢ length_at o q)
front_no_end o blocks c q l k = ((λ e. omega (arith, fronts o blocks c l, bucket_places blocks)), (λ e. omega (arith, fronts o blocks c l, bucket_places blocks)))

pub each_weaker : (P Q : ℕ → Type 0) → ((x : ℕ) → P x → Q x) → (l : List ℕ) → Each P l → Each Q l
each_weaker P Q w [] h = tt
each_weaker P Q w (x ∷ l) h = (w x h.0, each_weaker P Q w l h.1)

pub each_append : (P : ℕ → Type 0) (xs ys : List ℕ) → Each P xs → Each P ys → Each P (xs ++ ys)
each_append P [] ys h k = k
each_append P (x ∷ xs) ys h k = (h.0, each_append P xs ys h.1 k)

pub each_left : (P : ℕ → Type 0) (xs ys : List ℕ) → Each P (xs ++ ys) → Each P xs
each_left P [] ys h = tt
each_left P (x ∷ xs) ys h = (h.0, each_left P xs ys h.1)

pub each_right : (P : ℕ → Type 0) (xs ys : List ℕ) → Each P (xs ++ ys) → Each P ys
each_right P [] ys h = h
each_right P (x ∷ xs) ys h = each_right P xs ys h.1

-- the same pointers make the same chain
pub chain_copy : (o : ℕ) (m n : ℕ → ℕ) (c d : ℕ) (l : List ℕ) → n d ≡ m c → Each (λ b. n (link_at o b) ≡ m (link_at o b)) l → IsChain o m c l → IsChain o n d l
chain_copy o m n c d [] e h k = e ∙ k
chain_copy o m n c d (b ∷ bs) e h k = (e ∙ k.0, chain_copy o m n (link_at o b) (link_at o b) bs h.0 h.1 k.1)

-- a pointer leads through one list of blocks
pub same_chain : (o : ℕ) (m : ℕ → ℕ) (c : ℕ) (l k : List ℕ) → IsChain o m c l → IsChain o m c k → l ≡ k
same_chain o m c [] [] h g = refl
same_chain o m c [] (b ∷ bs) h g = absurd (omega arith)
same_chain o m c (a ∷ xs) [] h g = absurd (omega arith)
same_chain o m c (a ∷ xs) (b ∷ bs) h g =
    let e : a ≡ b = omega arith in
    let r : xs ≡ bs = same_chain o m (link_at o b) xs bs (subst (λ (x : ℕ). IsChain o m (link_at o x) xs) e h.1) g.1 in
    cc

not_in : (o : ℕ) (m : ℕ → ℕ) (c b : ℕ) (l k : List ℕ) → IsChain o m c l → IsChain o m (link_at o b) k → length l ≤ length k → Each (λ x. x ≢ b) l
not_in o m c b [] k h g s = tt
not_in o m c b (x ∷ xs) k h g s = (
  λ (e : x ≡ b). let r : xs ≡ k = same_chain o m (link_at o b) xs k (subst (λ (y : ℕ). IsChain o m (link_at o y) xs) e h.1) g in omega (arith, ap length r),
  not_in o m (link_at o x) b xs k h.1 g (omega arith),
)

-- so no block stands in a chain twice
pub chain_once : (o : ℕ) (m : ℕ → ℕ) (c b : ℕ) (bs : List ℕ) → IsChain o m c (b ∷ bs) → Each (λ x. x ≢ b) bs
chain_once o m c b bs h = not_in o m (link_at o b) b bs bs h.1 h.1 (omega arith)

pub chain_changed : (o : ℕ) (m : ℕ → ℕ) (a v c : ℕ) (l : List ℕ) → c ≢ a → Each (λ b. link_at o b ≢ a) l → IsChain o m c l → IsChain o (with_value m a v) c l
chain_changed o m a v c l e h k = chain_copy o m (with_value m a v) c c l (changed_other m a v c e)
    (each_weaker (λ b. link_at o b ≢ a) (λ b. with_value m a v (link_at o b) ≡ m (link_at o b)) (λ b n. changed_other m a v (link_at o b) n) l h) k

-- a fact of the pointer cell behind these blocks
pub cell_in : (o : ℕ) (P : ℕ → Type 0) (cell : ℕ) (xs : List ℕ) → P cell → Each (λ b. P (link_at o b)) xs → P (cell_after o cell xs)
cell_in o P cell [] h k = h
cell_in o P cell (x ∷ xs) h k = cell_in o P (link_at o x) xs k.0 k.1

pub link_apart : (o a b : ℕ) → a ≢ b → link_at o a ≢ link_at o b
link_apart o a b n e = n (omega arith)

pub chain_unlink : (o : ℕ) (m : ℕ → ℕ) (cell b : ℕ) (xs ys : List ℕ) → IsChain o m cell (xs ++ b ∷ ys) → Each (λ x. link_at o x ≢ cell) (xs ++ b ∷ ys)
    → IsChain o (with_value m (cell_after o cell xs) (m (link_at o b))) cell (xs ++ ys)
chain_unlink o m cell b [] ys h k =
    chain_copy o m (with_value m cell (m (link_at o b))) (link_at o b) cell ys (changed_same m cell (m (link_at o b)))
    (each_weaker (λ x. link_at o x ≢ cell) (λ x. with_value m cell (m (link_at o b)) (link_at o x) ≡ m (link_at o x)) (λ x n. changed_other m cell (m (link_at o b)) (link_at o x) n) ys k.1) h.1
chain_unlink o m cell b (x ∷ xs) ys h k = (
  changed_other m (cell_after o (link_at o x) xs) (m (link_at o b)) cell (cell_in o (λ a. cell ≢ a) (link_at o x) xs (λ (e : cell ≡ link_at o x). k.0 (sym e))
      (each_weaker (λ z. link_at o z ≢ cell) (λ z. cell ≢ link_at o z) (λ z n e. n (sym e)) xs (each_left (λ z. link_at o z ≢ cell) xs (b ∷ ys) k.1))) ∙ h.0,
  chain_unlink o m (link_at o x) b xs ys h.1 (each_weaker (λ z. z ≢ x) (λ z. link_at o z ≢ link_at o x) (λ z n. link_apart o z x n) (xs ++ b ∷ ys) (chain_once o m cell x (xs ++ b ∷ ys) h)),
)

pub chain_append : (o : ℕ) (m : ℕ → ℕ) (cell b : ℕ) (l : List ℕ) → IsChain o m cell l → Each (λ x. link_at o x ≢ cell) l → link_at o b ≢ cell → Each (λ x. x ≢ b) l → m (link_at o b) ≡ 0
    → IsChain o (with_value m (cell_after o cell l) (b + 1)) cell (l ++ b ∷ [])
chain_append o m cell b [] h k n e z = (changed_same m cell (b + 1), changed_other m cell (b + 1) (link_at o b) n ∙ z)
chain_append o m cell b (x ∷ xs) h k n e z = (
  changed_other m (cell_after o (link_at o x) xs) (b + 1) cell (cell_in o (λ a. cell ≢ a) (link_at o x) xs (λ (q : cell ≡ link_at o x). k.0 (sym q))
      (each_weaker (λ y. link_at o y ≢ cell) (λ y. cell ≢ link_at o y) (λ y i q. i (sym q)) xs k.1)) ∙ h.0,
  chain_append o m (link_at o x) b xs h.1 (each_weaker (λ y. y ≢ x) (λ y. link_at o y ≢ link_at o x) (λ y i. link_apart o y x i) xs (chain_once o m cell x xs h))
      (link_apart o b x (λ (q : b ≡ x). e.0 (sym q))) e.1 z,
)

-- the block taken from the middle of a chain stands nowhere else in it
pub chain_apart : (o : ℕ) (m : ℕ → ℕ) (cell b : ℕ) (xs ys : List ℕ) → IsChain o m cell (xs ++ b ∷ ys) → Each (λ x. x ≢ b) (xs ++ ys)
chain_apart o m cell b [] ys h = chain_once o m cell b ys h
chain_apart o m cell b (x ∷ xs) ys h = (
  λ (e : x ≡ b). (each_right (λ z. z ≢ x) xs (b ∷ ys) (chain_once o m cell x (xs ++ b ∷ ys) h)).0 (sym e),
  chain_apart o m (link_at o x) b xs ys h.1,
)

-- the chain behind one of its blocks
pub chain_rest : (o : ℕ) (m : ℕ → ℕ) (cell b : ℕ) (xs ys : List ℕ) → IsChain o m cell (xs ++ b ∷ ys) → IsChain o m (link_at o b) ys
chain_rest o m cell b [] ys h = h.1
chain_rest o m cell b (x ∷ xs) ys h = chain_rest o m (link_at o x) b xs ys h.1

-- a pointer to a block is a word
pub pointer_small : (o blocks : ℕ) → blocks ≤ MOST_BLOCKS → (m : ℕ → ℕ) (cell : ℕ) (l : List ℕ) → IsChain o m cell l → Each (λ b. b < blocks) l → FitsCell (m cell)
pointer_small o blocks few m cell [] h k = omega arith
pointer_small o blocks few m cell (b ∷ l) h k = omega (arith, h.0, k.0)

-- a cell that is no link is the link of none of these
pub all_links : (o a : ℕ) → ((x : ℕ) → a ≢ link_at o x) → (l : List ℕ) → Each (λ x. a ≢ link_at o x) l
all_links o a n [] = tt
all_links o a n (x ∷ l) = (n x, all_links o a n l)
