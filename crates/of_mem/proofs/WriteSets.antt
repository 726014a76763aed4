-- Pairs of address and number: what a look-up says of the number at an address and of a write.
use Rattle.std.proofs.Common.{◌≡◌, ℕ, zero, suc, ◌<◌, ◌==◌, Bool, true, false, List, [], ◌∷◌, ◌++◌, length, Some, None, get_or, set, refl, ap, arith, if◌then◌else◌}
use Rattle.std.proofs.lemmas.Bool.Decides.{nat_tests}
use Rattle.std.proofs.lemmas.Bool.{eq-eqb as equals, ne_eqb as differs}
use Rattle.of_mem.specs.CellMap.{value_for, put_pair, entry_address, IsAbsent}

-- where the address is absent
pub value_at-absent : (es : List (ℕ × ℕ)) (a : ℕ) → IsAbsent es a → value_for es a ≡ None
value_at-absent [] a h = refl
value_at-absent (e ∷ es) a h = rw (differs e.0 a (h 0 (omega arith))) (value_at-absent es a (λ k l. h (suc k) (omega arith)))

pub put-absent : (es : List (ℕ × ℕ)) (a v : ℕ) → IsAbsent es a → put_pair es a v ≡ es ++ (a, v) ∷ []
put-absent [] a v h = refl
put-absent (e ∷ es) a v h = rw (differs e.0 a (h 0 (omega arith))) (ap (λ (xs : List (ℕ × ℕ)). e ∷ xs) (put-absent es a v (λ k l. h (suc k) (omega arith))))

-- where it stands in entry k, and in no earlier one
pub value_at-here : (es : List (ℕ × ℕ)) (a k : ℕ) → k < length es → entry_address es k ≡ a → ((j : ℕ) → j < k → entry_address es j ≡ a → ⊥) → value_for es a ≡ Some (get_or es k (0, 0)).1
value_at-here [] a k l q h = absurd (omega arith)
value_at-here (e ∷ es) a zero l q h = rw (equals e.0 a q) refl
value_at-here (e ∷ es) a (suc k) l q h = rw (differs e.0 a (h 0 (omega arith))) (value_at-here es a k (omega arith) q (λ j m. h (suc j) (omega arith)))

pub put-here : (es : List (ℕ × ℕ)) (a v k : ℕ) → k < length es → entry_address es k ≡ a → ((j : ℕ) → j < k → entry_address es j ≡ a → ⊥) → put_pair es a v ≡ set es k (a, v)
put-here [] a v k l q h = absurd (omega arith)
put-here (e ∷ es) a v zero l q h = rw (equals e.0 a q) refl
put-here (e ∷ es) a v (suc k) l q h = rw (differs e.0 a (h 0 (omega arith))) (ap (λ (xs : List (ℕ × ℕ)). e ∷ xs) (put-here es a v k (omega arith) q (λ j m. h (suc j) (omega arith))))

-- what is found after a write
pub value_at_put : (es : List (ℕ × ℕ)) (a v b : ℕ) → value_for (put_pair es a v) b ≡ (if a == b then Some v else value_for es b)
value_at_put [] a v b = refl
value_at_put (e ∷ es) a v b = go (value_at_put es a v b) (e.0 == a) refl (a == b) refl
  where
    go : value_for (put_pair es a v) b ≡ (if a == b then Some v else value_for es b) → (same : Bool) → (e.0 == a) ≡ same → (here : Bool) → (a == b) ≡ here
        → value_for (if same then (a, v) ∷ es else e ∷ put_pair es a v) b ≡ (if here then Some v else value_for (e ∷ es) b)
    go h true p true q = rw q refl
    go h true p false q = let r : (e.0 == b) ≡ false = grind (arith, nat_tests) in rw (q, r) refl
    go h false p true q = let r : (e.0 == b) ≡ false = grind (arith, nat_tests) in rw (r, h, q) refl
    go h false p false q = rw (h, q) refl
