-- Lists: what holds of each element, one place of a list, and lists over the numbers below a bound.
use Rattle.std.proofs.Common.{◌≡◌, ◌≢◌, inl, inr, ℕ, zero, suc, ◌+◌, ◌<◌, List, [], ◌∷◌, ◌++◌, length, get_or, set, map, replicate, refl, sym, ap, ◌∙◌, arith, length-set, get_or-set_other}
use Rattle.std.specs.List.{AllByRecursion, range_with_len}
use Rattle.std.proofs.lemmas.Bool.Decides.{eqb_tells}
use Rattle.std.proofs.lemmas.Grind.{get_or-set_at}
use Rattle.std.proofs.lemmas.List.FromFn.{fill_by_all, length-map-range_with_len, get_or-map-range_with_len}

pub all-front : {A : Type 0} (P : A → Type 0) (xs ys : List A) → AllByRecursion P (xs ++ ys) → AllByRecursion P xs
all-front P [] ys h = tt
all-front P (x ∷ xs) ys h = (h.0, all-front P xs ys h.1)

pub all-back : {A : Type 0} (P : A → Type 0) (xs ys : List A) → AllByRecursion P (xs ++ ys) → AllByRecursion P ys
all-back P [] ys h = h
all-back P (x ∷ xs) ys h = all-back P xs ys h.1

pub all-both : {A : Type 0} (P : A → Type 0) (xs ys : List A) → AllByRecursion P xs → AllByRecursion P ys → AllByRecursion P (xs ++ ys)
all-both P [] ys h k = k
all-both P (x ∷ xs) ys h k = (h.0, all-both P xs ys h.1 k)

pub all_at : {A : Type 0} (P : A → Type 0) (xs : List A) (i : ℕ) (d : A) → i < length xs → AllByRecursion P xs → P (get_or xs i d)
all_at P [] i d lt h = absurd (omega arith)
all_at P (x ∷ xs) zero d lt h = h.0
all_at P (x ∷ xs) (suc i) d lt h = all_at P xs i d (omega arith) h.1

pub at_place : {A B : Type 0} (f : A → List B) (xs : List A) (i : ℕ) (x : A) → x ≡ get_or xs i x → i < length xs → f x ≡ get_or (map f xs) i []
at_place f [] i x e lt = absurd (omega arith)
at_place f (y ∷ ys) zero x e lt = ap f e
at_place f (y ∷ ys) (suc i) x e lt = at_place f ys i x e (omega arith)

pub map-same : {A B : Type 0} (f g : A → B) (xs : List A) → ((x : A) → f x ≡ g x) → map f xs ≡ map g xs
map-same f g [] h = refl
map-same f g (x ∷ xs) h = let first = h x in let others = map-same f g xs h in cc

-- ---- the numbers below a bound

pub map_const : {A : Type 0} (x : A) (k n : ℕ) → map (λ c. x) (range_with_len k n) ≡ replicate n x
map_const x k zero = refl
map_const x k (suc n) = ap (λ (l : List _). x ∷ l) (map_const x (k + 1) n)

pub all_below : {A : Type 0} (P : A → Type 0) (f : ℕ → A) (k n : ℕ) → ((c : ℕ) → P (f c)) → AllByRecursion P (map f (range_with_len k n))
all_below P f k zero h = tt
all_below P f k (suc n) h = (h k, all_below P f (k + 1) n h)

-- one number has another value
pub set_one : {A : Type 0} (f g : ℕ → A) (n d : ℕ) (v : A) → d < n → ((c : ℕ) → c ≢ d → g c ≡ f c) → g d ≡ v → map g (range_with_len 0 n) ≡ set (map f (range_with_len 0 n)) d v
set_one f g n d v lt other same =
    let size = length-map-range_with_len f 0 n in
    sym (fill_by_all g (set (map f (range_with_len 0 n)) d v) n v (length-set (map f (range_with_len 0 n)) d v ∙ size)
    (λ k h. elim (eqb_tells k d) [
      | inl p ↦ get_or-set_at (map f (range_with_len 0 n)) d k v v p.1 (omega (arith, size)) ∙ sym same ∙ ap g (sym p.1)
      | inr p ↦ get_or-set_other (map f (range_with_len 0 n)) d k v v p.1 ∙ get_or-map-range_with_len f 0 n k k v h (omega arith) ∙ sym (other k p.1)
    ]))
