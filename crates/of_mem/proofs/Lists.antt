-- Lemmas on lists and options that this crate and the ones above it share: what stands at a place
-- of a list of equals, a part of a list, a front of a list, and a table of a function.
use mathlib.Core.List.{IsPrefix}
use Rattle.std.proofs.Common.{◌≡◌, ℕ, zero, suc, ◌+◌, ◌-◌, ◌<◌, ◌≤◌, Option, Some, None, List, [], ◌∷◌, ◌++◌, length, take, drop, get_or, map, replicate, refl, sym, ap, ◌∙◌, arith}
use Rattle.std.specs.List.{range_with_len, slice_range}
use Rattle.std.proofs.lemmas.List.{append_assoc, ext_get_or, get_or-take, get_or-drop, length-take-le, length-drop}
use Rattle.std.proofs.lemmas.List.FromFn.{get_or-map-range_with_len, length-map-range_with_len}

equal_at : {X : Type 0} (n k : ℕ) (x : X) → get_or (replicate n x) k x ≡ x
equal_at zero k x = refl
equal_at (suc n) zero x = refl
equal_at (suc n) (suc k) x = equal_at n k x

pub zero_at : (n k : ℕ) → get_or {A = ℕ} (replicate n 0) k 0 ≡ 0
zero_at n k = equal_at n k 0

pub none_at : (n k : ℕ) → get_or {A = Option ℕ} (replicate n None) k None ≡ None
none_at n k = equal_at n k None

pub part_at : (xs : List ℕ) (a n i : ℕ) → i < n → get_or (slice_range xs a (a + n)) i 0 ≡ get_or xs (a + i) 0
part_at xs a n i l = get_or-take (a + n - a) (drop a xs) i 0 (omega arith) ∙ get_or-drop a xs i 0

pub part_long : (xs : List ℕ) (a n : ℕ) → a + n ≤ length xs → length (slice_range xs a (a + n)) ≡ n
part_long xs a n l = let e : a + n - a ≡ n = omega arith in length-take-le (a + n - a) (drop a xs) (omega (arith, length-drop a xs)) ∙ e

pub take_none : {A : Type 0} (xs : List A) → take 0 xs ≡ []
take_none [] = refl
take_none (x ∷ xs) = refl

pub prefix_trans : {A : Type 0} (xs ys zs : List A) → IsPrefix xs ys → IsPrefix ys zs → IsPrefix xs zs
prefix_trans xs ys zs p q = (p.0 ++ q.0, sym (append_assoc xs p.0 q.0) ∙ (ap (λ l. l ++ q.0) p.1 ∙ q.1))

-- an option holds one value
pub same_some : {A : Type 0} (a b : A) (x : Option A) → x ≡ Some a → x ≡ Some b → a ≡ b
same_some a b x p q = cc (p, q)

-- functions that agree below n have the same table
pub map_range_same : (f g : ℕ → ℕ) (n : ℕ) → ((k : ℕ) → k < n → f k ≡ g k) → map f (range_with_len 0 n) ≡ map g (range_with_len 0 n)
map_range_same f g n same =
    ext_get_or 0 (map f (range_with_len 0 n)) (map g (range_with_len 0 n)) (length-map-range_with_len f 0 n ∙ sym (length-map-range_with_len g 0 n))
    (λ k lt.
    let l : k < n = omega (arith, lt, length-map-range_with_len f 0 n) in
    get_or-map-range_with_len f 0 n k k 0 l (omega arith) ∙ same k l ∙ sym (get_or-map-range_with_len g 0 n k k 0 l (omega arith)))
