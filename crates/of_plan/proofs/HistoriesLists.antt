-- Lists: what holds of each element, membership, and lists in which each element stands before the later ones.
use Rattle.std.proofs.Common.{◌≡◌, ℕ, zero, suc, ◌+◌, ◌<◌, ◌≤◌, inl, inr, Bool, true, false, cond, List, [], ◌∷◌, ◌++◌, refl, sym, ap, subst, ◌∙◌, arith}
use Rattle.std.specs.Prelude.{filter, flat_map, Any, AllPairs}
use Rattle.std.specs.List.{range_with_len, AllByRecursion as Each}
use Rattle.std.proofs.Math.Nat.{eq-or-lt_of_le}
use Rattle.std.proofs.lemmas.List.Elements.{All-from_recursion, recursion_from_All}
use Rattle.std.proofs.lemmas.List.Kept.{AllPairs-cons}
use Rattle.of_plan.specs.Histories.{IsIn}

-- ---- each element

pub each_at : {X : Type 0} (P : X → Type 0) (x : X) (xs : List X) → Each P xs → IsIn x xs → P x
each_at P x [] all here = absurd here
each_at P x (y ∷ ys) all (inl same) = subst P same all.0
each_at P x (y ∷ ys) all (inr later) = each_at P x ys all.1 later

pub each_from_in : {X : Type 0} (P : X → Type 0) (xs : List X) → ((x : X) → IsIn x xs → P x) → Each P xs
each_from_in P [] h = tt
each_from_in P (y ∷ ys) h = (h y (inl refl), each_from_in P ys (λ x there. h x (inr there)))

pub each_weaker : {X : Type 0} (P Q : X → Type 0) → ((x : X) → P x → Q x) → (xs : List X) → Each P xs → Each Q xs
each_weaker P Q h [] all = tt
each_weaker P Q h (x ∷ xs) all = (h x all.0, each_weaker P Q h xs all.1)

pub each_append : {X : Type 0} (P : X → Type 0) (xs ys : List X) → Each P xs → Each P ys → Each P (xs ++ ys)
each_append P [] ys first second = second
each_append P (x ∷ xs) ys first second = (first.0, each_append P xs ys first.1 second)

each_cond : {X : Type 0} (Q : X → Type 0) (b : Bool) (x : X) (ys : List X) → (b ≡ true → Q x) → Each Q ys → Each Q (cond b (x ∷ ys) ys)
each_cond Q true x ys h all = (h refl, all)
each_cond Q false x ys h all = all

-- what passes the test
pub each_filter : {X : Type 0} (P Q : X → Type 0) (test : X → Bool) → ((x : X) → P x → test x ≡ true → Q x) → (xs : List X) → Each P xs → Each Q (filter test xs)
each_filter P Q test h [] all = tt
each_filter P Q test h (x ∷ xs) all = each_cond Q (test x) x (filter test xs) (h x all.0) (each_filter P Q test h xs all.1)

-- pieces joined end to end
pub each_over : {X : Type 0} (P : X → Type 0) (f : ℕ → List X) (a n : ℕ) → ((k : ℕ) → a ≤ k → k < a + n → Each P (f k)) → Each P (flat_map f (range_with_len a n))
each_over P f a zero h = tt
each_over P f a (suc n) h =
    each_append P (f a) (flat_map f (range_with_len (a + 1) n)) (h a (omega arith) (omega arith)) (each_over P f (a + 1) n (λ k low high. h k (omega arith) (omega arith)))

-- ---- membership

pub in_left : {X : Type 0} (x : X) (xs ys : List X) → IsIn x xs → IsIn x (xs ++ ys)
in_left x [] ys here = absurd here
in_left x (y ∷ xs) ys (inl same) = inl same
in_left x (y ∷ xs) ys (inr later) = inr (in_left x xs ys later)

pub in_right : {X : Type 0} (x : X) (xs ys : List X) → IsIn x ys → IsIn x (xs ++ ys)
in_right x [] ys here = here
in_right x (y ∷ xs) ys here = inr (in_right x xs ys here)

here_in : {X : Type 0} (b : Bool) (x y : X) (ys : List X) → y ≡ x → b ≡ true → IsIn x (cond b (y ∷ ys) ys)
here_in true x y ys same passes = inl same
here_in false x y ys same passes = absurd (cc)

later_in : {X : Type 0} (b : Bool) (x y : X) (ys : List X) → IsIn x ys → IsIn x (cond b (y ∷ ys) ys)
later_in true x y ys later = inr later
later_in false x y ys later = later

pub in_filter : {X : Type 0} (test : X → Bool) (x : X) (xs : List X) → IsIn x xs → test x ≡ true → IsIn x (filter test xs)
in_filter test x [] here passes = absurd here
in_filter test x (y ∷ ys) (inl same) passes = here_in (test y) x y (filter test ys) same (ap test same ∙ passes)
in_filter test x (y ∷ ys) (inr later) passes = later_in (test y) x y (filter test ys) (in_filter test x ys later passes)

pub in_over : {X : Type 0} (x : X) (f : ℕ → List X) (a n k : ℕ) → a ≤ k → k < a + n → IsIn x (f k) → IsIn x (flat_map f (range_with_len a n))
in_over x f a zero k low high here = absurd (omega arith)
in_over x f a (suc n) k low high here = elim (eq-or-lt_of_le low) [
  | inl same ↦ in_left x (f a) (flat_map f (range_with_len (a + 1) n)) (subst (λ (m : ℕ). IsIn x (f m)) (sym same) here)
  | inr later ↦ in_right x (f a) (flat_map f (range_with_len (a + 1) n)) (in_over x f (a + 1) n k (omega arith) (omega arith) here)
]

-- an element of which something holds
pub any_in : {X : Type 0} (P : X → Type 0) (x : X) (xs : List X) → IsIn x xs → P x → Any P xs
any_in P x [] here holds = absurd here
any_in P x (y ∷ ys) (inl same) holds = (0, y, omega arith, refl, subst P (sym same) holds)
any_in P x (y ∷ ys) (inr later) holds = let found = any_in P x ys later holds in (suc found.0, found.1, omega (arith, found.2), found.3, found.4)

-- ---- lists in which each element stands before the later ones

abbrev pub InLine : {X : Type 0} → (X → X → Type 0) → List X → Type 0
InLine R [] = Unit {0}
InLine R (x ∷ xs) = Each (R x) xs × InLine R xs

pub pairs_in_line : {X : Type 0} (R : X → X → Type 0) (xs : List X) → InLine R xs → AllPairs R xs
pairs_in_line R [] h = λ i j d lt here. absurd (omega arith)
pairs_in_line R (x ∷ xs) h = AllPairs-cons R x xs (All-from_recursion (R x) xs h.0) (pairs_in_line R xs h.1)

pub in_line_pairs : {X : Type 0} (R : X → X → Type 0) (xs : List X) → AllPairs R xs → InLine R xs
in_line_pairs R [] h = tt
in_line_pairs R (x ∷ xs) h =
    (recursion_from_All (R x) xs (λ k d lt. h 0 (suc k) d (omega arith) (omega (arith, lt))), in_line_pairs R xs (λ i j d lt here. h (suc i) (suc j) d (omega (arith, lt)) (omega (arith, here))))

pub in_line_weaker : {X : Type 0} (P : X → Type 0) (R S : X → X → Type 0) → ((x y : X) → P x → P y → R x y → S x y) → (xs : List X) → Each P xs → InLine R xs → InLine S xs
in_line_weaker P R S h [] all line = tt
in_line_weaker P R S h (x ∷ xs) all line =
    (each_from_in (S x) xs (λ y there. h x y all.0 (each_at P y xs all.1 there) (each_at (R x) y xs line.0 there)), in_line_weaker P R S h xs all.1 line.1)

pub in_line_append : {X : Type 0} (R : X → X → Type 0) (xs ys : List X) → InLine R xs → InLine R ys → Each (λ x. Each (R x) ys) xs → InLine R (xs ++ ys)
in_line_append R [] ys first second across = second
in_line_append R (x ∷ xs) ys first second across = (each_append (R x) xs ys first.0 across.0, in_line_append R xs ys first.1 second across.1)

in_line_cond : {X : Type 0} (R : X → X → Type 0) (b : Bool) (x : X) (ys : List X) → Each (R x) ys → InLine R ys → InLine R (cond b (x ∷ ys) ys)
in_line_cond R true x ys before line = (before, line)
in_line_cond R false x ys before line = line

pub in_line_filter : {X : Type 0} (R : X → X → Type 0) (test : X → Bool) (xs : List X) → InLine R xs → InLine R (filter test xs)
in_line_filter R test [] line = tt
in_line_filter R test (x ∷ xs) line = in_line_cond R (test x) x (filter test xs) (each_filter (R x) (R x) test (λ y before passes. before) xs line.0) (in_line_filter R test xs line.1)

pub in_line_over : {X : Type 0} (R : X → X → Type 0) (f : ℕ → List X) (a n : ℕ) → ((k : ℕ) → a ≤ k → k < a + n → InLine R (f k))
    → ((k m : ℕ) → a ≤ k → k < m → m < a + n → Each (λ x. Each (R x) (f m)) (f k)) → InLine R (flat_map f (range_with_len a n))
in_line_over R f a zero own across = tt
in_line_over R f a (suc n) own across =
    in_line_append R (f a) (flat_map f (range_with_len (a + 1) n)) (own a (omega arith) (omega arith))
    (in_line_over R f (a + 1) n (λ k low high. own k (omega arith) (omega arith)) (λ k m low lt high. across k m (omega arith) lt (omega arith)))
    (each_from_in (λ x. Each (R x) (flat_map f (range_with_len (a + 1) n))) (f a)
    (λ x there. each_over (R x) f (a + 1) n (λ m low high. each_at (λ y. Each (R y) (f m)) x (f a) (across a m (omega arith) (omega arith) (omega arith)) there)))

same_heads : {X : Type 0} (R : X → X → Type 0) → ((x y : X) → R x y → R y x → ⊥) → (x y : X) (xs ys : List X) → InLine R (x ∷ xs) → InLine R (y ∷ ys) → IsIn x (y ∷ ys) → IsIn y (x ∷ xs) → x ≡ y
same_heads R not_both x y xs ys first second (inl same) back = sym same
same_heads R not_both x y xs ys first second (inr there) (inl same) = same
same_heads R not_both x y xs ys first second (inr there) (inr back) = absurd (not_both x y (each_at (R x) y xs first.0 back) (each_at (R y) x ys second.0 there))

not_head : {X : Type 0} (R : X → X → Type 0) → ((x y : X) → R x y → R y x → ⊥) → (x y z : X) (ys : List X) → x ≡ y → R x z → IsIn z (y ∷ ys) → IsIn z ys
not_head R not_both x y z ys heads before (inl same) = let self : R x x = subst (R x) (sym (heads ∙ same)) before in absurd (not_both x x self self)
not_head R not_both x y z ys heads before (inr later) = later

-- two such lists with the same elements are one, where no two elements stand before each other
pub same_in_line : {X : Type 0} (R : X → X → Type 0) → ((x y : X) → R x y → R y x → ⊥) → (xs ys : List X) → InLine R xs → InLine R ys → Each (λ x. IsIn x ys) xs → Each (λ y. IsIn y xs) ys → xs ≡ ys
same_in_line R not_both [] [] first second there back = refl
same_in_line R not_both [] (y ∷ ys) first second there back = absurd back.0
same_in_line R not_both (x ∷ xs) [] first second there back = absurd there.0
same_in_line R not_both (x ∷ xs) (y ∷ ys) first second there back =
    let heads : x ≡ y = same_heads R not_both x y xs ys first second there.0 back.0 in
    let rest : xs ≡ ys = same_in_line R not_both xs ys first.1 second.1
    (each_from_in (λ z. IsIn z ys) xs (λ z here. not_head R not_both x y z ys heads (each_at (R x) z xs first.0 here) (each_at (λ w. IsIn w (y ∷ ys)) z xs there.1 here)))
    (each_from_in (λ z. IsIn z xs) ys (λ z here. not_head R not_both y x z xs (sym heads) (each_at (R y) z ys second.0 here) (each_at (λ w. IsIn w (x ∷ xs)) z ys back.1 here))) in
    cc
