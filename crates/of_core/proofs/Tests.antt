-- What tests of numbers and of reply marks say, once they are known.
use Rattle.std.proofs.Common.{◌≡◌, ℕ, zero, suc, ◌+◌, ◌<◌, ◌≤◌, ◌⊎◌, inl, inr, refl, sym, ◌∙◌, ap, arith, Some, None, Bool, true, false, if◌then◌else◌}
use Rattle.std.proofs.lemmas.Bool.{cases_eq}
pub use Rattle.std.proofs.lemmas.Bool.{eqb-false as differ, ltb-true as is_newer, ltb-false as not_newer}
use Rattle.of_mem.specs.Meaning.{is_marked}
use Rattle.of_core.specs.Steps.{first_marked_place}

pub mark_none : (shape j n : ℕ) → first_marked_place shape j n ≡ None → (y : ℕ) → j ≤ y → y < j + n → is_marked shape y ≡ true → ⊥
mark_none shape j zero e y l u q = omega arith
mark_none shape j (suc n) e y l u q = go (is_marked shape j) refl e (cases_eq y j) (mark_none shape (j + 1) n)
  where
    go : (b : Bool) → is_marked shape j ≡ b → (if b then Some j else first_marked_place shape (j + 1) n) ≡ None → (y ≡ j) ⊎ (y ≡ j → ⊥)
        → (first_marked_place shape (j + 1) n ≡ None → (y : ℕ) → j + 1 ≤ y → y < j + 1 + n → is_marked shape y ≡ true → ⊥) → ⊥
    go true b e c f = cc
    go false b e (inl c) f = let z : true ≡ false = sym q ∙ ap (is_marked shape) c ∙ b in cc
    go false b e (inr c) f = f e y (omega arith) (omega arith) q

pub mark_some : (shape j n k : ℕ) → first_marked_place shape j n ≡ Some k → (j ≤ k) × (k < j + n) × ((y : ℕ) → j ≤ y → y < k → is_marked shape y ≡ true → ⊥) × (is_marked shape k ≡ true)
mark_some shape j zero k e = cc
mark_some shape j (suc n) k e = go (is_marked shape j) refl e (mark_some shape (j + 1) n k)
  where
    go : (b : Bool) → is_marked shape j ≡ b → (if b then Some j else first_marked_place shape (j + 1) n) ≡ Some k
        → (first_marked_place shape (j + 1) n ≡ Some k → (j + 1 ≤ k) × (k < j + 1 + n) × ((y : ℕ) → j + 1 ≤ y → y < k → is_marked shape y ≡ true → ⊥) × (is_marked shape k ≡ true))
        → (j ≤ k) × (k < j + suc n) × ((y : ℕ) → j ≤ y → y < k → is_marked shape y ≡ true → ⊥) × (is_marked shape k ≡ true)
    go true b e f = let z : j ≡ k = cc in (omega arith, omega arith, λ y l u q. omega arith, ap (is_marked shape) (sym z) ∙ b)
    go false b e f =
        let r = f e in
        (omega (arith, r.0), omega (arith, r.1), λ y l u q. away y l u q (cases_eq y j) r.2, r.3)
      where
        away : (y : ℕ) → j ≤ y → y < k → is_marked shape y ≡ true → (y ≡ j) ⊎ (y ≡ j → ⊥) → ((y : ℕ) → j + 1 ≤ y → y < k → is_marked shape y ≡ true → ⊥) → ⊥
        away y l u q (inl c) t = let z : true ≡ false = sym q ∙ ap (is_marked shape) c ∙ b in cc
        away y l u q (inr c) t = t y (omega arith) u q
