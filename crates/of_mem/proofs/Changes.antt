-- A function with one value changed.
use Rattle.std.proofs.Common.{◌≡◌, ℕ, zero, suc, ◌+◌, ◌<◌, ◌≤◌, ◌≢◌, inl, inr, List, length, refl, arith, eq-eqb}
use Rattle.std.proofs.lemmas.Bool.{cases_eq, ne_eqb}
use Rattle.of_mem.specs.Programs.{with_value}
use Rattle.of_mem.specs.Stores.{blocks_in_chains}

pub changed_same : {A : Type 0} (m : ℕ → A) (a : ℕ) (v : A) → with_value m a v a ≡ v
unfolding with_value
changed_same m a v = rw (eq-eqb a a refl) refl

pub changed_other : {A : Type 0} (m : ℕ → A) (a : ℕ) (v : A) (x : ℕ) → x ≢ a → with_value m a v x ≡ m x
unfolding with_value
changed_other m a v x e = rw (ne_eqb x a e) refl

-- a fact at each place of a changed function
pub changed_cases : {A : Type 0} (P : ℕ → A → Type 0) (m : ℕ → A) (a : ℕ) (v : A) (x : ℕ) → (x ≡ a → P a v) → (x ≢ a → P x (m x)) → P x (with_value m a v x)
changed_cases P m a v x here there =
    elim (cases_eq x a) [
      | inl e ↦ rw (e, changed_same m a v) (here e)
      | inr e ↦ rw (changed_other m a v x e) (there e)
    ]

pub total_changed_past : (f : ℕ → List ℕ) (c : ℕ) (l : List ℕ) (n : ℕ) → n ≤ c → blocks_in_chains (with_value f c l) n ≡ blocks_in_chains f n
total_changed_past f c l zero h = refl
total_changed_past f c l (suc n) h = rw (total_changed_past f c l n (omega arith), changed_other f c l n (λ (e : n ≡ c). omega arith)) refl

pub total_changed : (f : ℕ → List ℕ) (c : ℕ) (l : List ℕ) (n : ℕ) → c < n → blocks_in_chains (with_value f c l) n + length (f c) ≡ blocks_in_chains f n + length l
total_changed f c l zero h = absurd (omega arith)
total_changed f c l (suc n) h =
    elim (cases_eq n c) [
      | inl e ↦ rw (e, changed_same f c l, total_changed_past f c l c (omega arith)) (omega arith)
      | inr e ↦ let k : blocks_in_chains (with_value f c l) n + length (f c) ≡ blocks_in_chains f n + length l = total_changed f c l n (omega (arith, e)) in rw (changed_other f c l n e) (omega arith)
    ]
