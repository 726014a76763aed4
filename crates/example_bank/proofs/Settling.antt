-- One clerk after the other settles.
use Rattle.std.proofs.Common.{◌≡◌, ◌≢◌, ℕ, ◌+◌, ◌<◌, ◌≤◌, inl, inr, List, length, get_or, set, sym, subst, ◌∙◌, arith, vec_len}
use Rattle.std.proofs.lemmas.Bool.{cases_lt}
use Rattle.std.proofs.lemmas.List.{get_or-set_same, get_or-set_other, get_or_default}
use Rattle.of_memory.specs.declared.saved.Saved.{Saved}
use Rattle.example_bank.specs.declared.clerk.Clerk.{Clerk}
use Rattle.example_bank.specs.Clerks.{counted, IsStopped, Settles}
use Rattle.example_bank.specs.Days.{CanSettle}

module _ (first items : List Clerk) (n : ℕ) (y : Clerk) (count : length items ≡ length first) (lt : n < length first) (others : (m : ℕ) (x : Clerk) → n ≤ m → m < length first → get_or items m x ≡ get_or first m x) (value : y ≡ get_or items n y) where
  was : (x : Clerk) → y ≡ get_or first n x
  was x = value ∙ get_or_default items n y x (omega (arith, lt, count)) ∙ others n x (omega arith) lt

  pub may_settle : CanSettle first → IsStopped y.end → counted y < vec_len y.job
  may_settle can = subst (λ (u : Clerk). IsStopped u.end → counted u < vec_len u.job) (sym (was y)) (can n y lt)

  module _ (c d : Saved) (z : Clerk) where
    pub settles_next : ((m : ℕ) (x : Clerk) → m < n → Settles m c d (get_or first m x) (get_or items m x)) → Settles n c d y z
        → (m : ℕ) (x : Clerk) → m < n + 1 → Settles m c d (get_or first m x) (get_or (set items n z) m x)
    settles_next settled one m x low = elim (cases_lt m n) [
      | inl less ↦ let ne : m ≢ n = omega (arith, less) in subst (Settles m c d (get_or first m x)) (sym (get_or-set_other items n m z x ne)) (settled m x less)
      | inr high ↦
          let same : n ≡ m = omega (arith, low, high) in
          subst (λ (i : ℕ). Settles i c d (get_or first i x) (get_or (set items n z) i x)) same
          (subst (λ (u : Clerk × Clerk). Settles n c d u.0 u.1) (λ i. (was x i, sym (get_or-set_same items n z x (omega (arith, lt, count))) i)) one)
    ]

    pub others_next : (m : ℕ) (x : Clerk) → n + 1 ≤ m → m < length first → get_or (set items n z) m x ≡ get_or first m x
    others_next m x high low = let ne : m ≢ n = omega (arith, high) in get_or-set_other items n m z x ne ∙ others m x (omega (arith, high)) low
