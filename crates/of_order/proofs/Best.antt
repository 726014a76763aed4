-- The least of the numbers of which something holds, from a lowest on.
use Rattle.std.proofs.Common.{◌≡◌, ℕ, ◌<◌, ◌≤◌, ◌⊎◌, inl, inr, Bool, true, false, cond, leb, ltb, eqb, T, List, [], ◌∷◌, map, Option, Some, None, is_some, refl, sym, ap, subst, ◌∙◌, arith, leb-true, leb-false, ltb-true, ltb-false}
use Rattle.std.specs.Prelude.{find, ◌||◌, ◌&&◌}
use Rattle.std.proofs.Common.{Less, Equal, Greater}
use Rattle.std.specs.Ordering.{nat_cmp, eq_by_cmp, is_lt}
use Rattle.std.specs.List.{list_any}
use Rattle.std.specs.FinMap as fin
use Rattle.std.specs.FinMap.{contains_key-keys, entries_sorted}
use Rattle.std.specs.FinMap.Entries.{below_all}
use Rattle.std.proofs.lemmas.Bool.{eqb-true, eq-eqb, or_right}
use Rattle.std.proofs.lemmas.Bool.Decides.{nat_tests}
use Rattle.of_mem.specs.Walks.{better_of, lesser_of}
use Rattle.of_order.specs.Means.{least_from}

abbrev pub IsBest : ℕ → (ℕ → Type 0) → Option ℕ → Type 0
IsBest low P None = (k : ℕ) → P k → low ≤ k → ⊥
IsBest low P (Some b) = P b × (low ≤ b) × ((k : ℕ) → P k → low ≤ k → b ≤ k)

-- of the same numbers from the lowest on
pub same_best : (low : ℕ) (P Q : ℕ → Type 0) (r : Option ℕ) → ((k : ℕ) → low ≤ k → P k → Q k) → ((k : ℕ) → low ≤ k → Q k → P k) → IsBest low P r → IsBest low Q r
same_best low P Q None there back h = λ k q l. h k (back k l q) l
same_best low P Q (Some b) there back h = (there b h.1 h.0, h.1, λ k q l. h.2 k (back k l q) l)

pub one_best : (low : ℕ) (P : ℕ → Type 0) (r t : Option ℕ) → IsBest low P r → IsBest low P t → r ≡ t
one_best low P None None h k = refl
one_best low P None (Some b) h k = absurd (h b k.0 k.1)
one_best low P (Some a) None h k = absurd (k a h.0 h.1)
one_best low P (Some a) (Some b) h k = let p = h.2 b k.0 k.1 in let q = k.2 a h.0 h.1 in ap Some (omega arith)

-- one number more
lesser_best : (low k b : ℕ) (P : ℕ → Type 0) → IsBest low P (Some b) → low ≤ k → (t : Bool) → ltb b k ≡ t → IsBest low (λ q. P q ⊎ (q ≡ k)) (cond t (Some b) (Some k))
lesser_best low k b P h l true e = (inl h.0, h.1, λ q w m. elim w [ inl p ↦ h.2 q p m | inr is ↦ omega (arith, ltb-true b k e, is) ])
lesser_best low k b P h l false e = (inr refl, l, λ q w m. elim w [ inl p ↦ (let g = h.2 q p m in omega (arith, g, ltb-false b k e)) | inr is ↦ omega (arith, is) ])

more_best : (low k : ℕ) (P : ℕ → Type 0) (r : Option ℕ) → IsBest low P r → low ≤ k → IsBest low (λ q. P q ⊎ (q ≡ k)) (lesser_of k r)
more_best low k P None h l = (inr refl, l, λ q w m. elim w [ inl p ↦ absurd (h q p m) | inr is ↦ omega (arith, is) ])
more_best low k P (Some b) h l = lesser_best low k b P h l (ltb b k) refl

better_case : (low k : ℕ) (P : ℕ → Type 0) (r : Option ℕ) → IsBest low P r → (t : Bool) → ltb k low ≡ t → IsBest low (λ q. P q ⊎ (q ≡ k)) (cond t r (lesser_of k r))
better_case low k P r h true e = same_best low P (λ q. P q ⊎ (q ≡ k)) r (λ q l p. inl p) (λ q l w. elim w [ inl p ↦ p | inr is ↦ absurd (omega (arith, is, l, ltb-true k low e)) ]) h
better_case low k P r h false e = more_best low k P r h (ltb-false k low e)

pub better_best : (low k : ℕ) (P : ℕ → Type 0) (r : Option ℕ) → IsBest low P r → IsBest low (λ q. P q ⊎ (q ≡ k)) (better_of low k r)
better_best low k P r h = better_case low k P r h (ltb k low) refl

-- ---- lists of keys

-- the key is in the list
abbrev pub Has : List ℕ → ℕ → Type 0
Has ks k = list_any (eq_by_cmp nat_cmp k) ks ≡ true

pub tie : (a b : ℕ) → eq_by_cmp nat_cmp a b ≡ eqb a b
tie a b = grind (arith, nat_tests)

pub has_first : (k : ℕ) (ks : List ℕ) → Has (k ∷ ks) k
has_first k ks = rw (tie k k, eq-eqb k k refl) refl

pub has_behind : (k x : ℕ) (ks : List ℕ) → Has ks k → Has (x ∷ ks) k
has_behind k x ks h = or_right (eq_by_cmp nat_cmp k x) _ h

has_case : (k x : ℕ) (ks : List ℕ) (t : Bool) → eqb k x ≡ t → (t || list_any (eq_by_cmp nat_cmp k) ks) ≡ true → (k ≡ x) ⊎ Has ks k
has_case k x ks true e h = inl (eqb-true k x e)
has_case k x ks false e h = inr h

pub has_either : (k x : ℕ) (ks : List ℕ) → Has (x ∷ ks) k → (k ≡ x) ⊎ Has ks k
has_either k x ks h = has_case k x ks (eqb k x) refl (ap (λ (b : Bool). b || list_any (eq_by_cmp nat_cmp k) ks) (sym (tie k x)) ∙ h)

-- the best after all keys of a list
abbrev pub best_of : ℕ → Option ℕ → List ℕ → Option ℕ
best_of low r [] = r
best_of low r (k ∷ ks) = best_of low (better_of low k r) ks

pub list_best : (low : ℕ) (P : ℕ → Type 0) (r : Option ℕ) (ks : List ℕ) → IsBest low P r → IsBest low (λ q. P q ⊎ Has ks q) (best_of low r ks)
list_best low P r [] h = same_best low P (λ q. P q ⊎ Has [] q) r (λ q l p. inl p) (λ q l w. elim w [ inl p ↦ p | inr e ↦ absurd cc ]) h
list_best low P r (k ∷ ks) h = same_best low (λ q. (P q ⊎ (q ≡ k)) ⊎ Has ks q) (λ q. P q ⊎ Has (k ∷ ks) q) (best_of low (better_of low k r) ks)
    (λ q l w. elim w [
      | inl v ↦ elim v [ inl p ↦ inl p | inr is ↦ inr (subst (λ (x : ℕ). Has (x ∷ ks) q) is (has_first q ks)) ]
      | inr g ↦ inr (has_behind q k ks g)
    ])
    (λ q l w. elim w [
      | inl p ↦ inl (inl p)
      | inr g ↦ elim (has_either q k ks g) [ inl is ↦ inl (inr is) | inr g ↦ inr g ]
    ])
    (list_best low (λ q. P q ⊎ (q ≡ k)) (better_of low k r) ks (better_best low k P r h))

-- ---- a finite map's keys rise

both : (a b : Bool) → T (a && b) → T a × T b
both true b p = (tt, p)
both false b p = absurd p

less_is : (a b : ℕ) → T (is_lt (nat_cmp a b)) → a < b
less_is a b h = go (ltb a b) (eqb a b) refl h
  where
    go : (s t : Bool) → ltb a b ≡ s → T (is_lt (cond s Less (cond t Equal Greater))) → a < b
    go true t e h = ltb-true a b e
    go false true e h = absurd h
    go false false e h = absurd h

keys_above : (x : ℕ) (es : List (ℕ × ℕ)) (k : ℕ) → T (below_all nat_cmp x es) → Has (map (λ e. e.0) es) k → x < k
keys_above x [] k h has = absurd cc
keys_above x (e ∷ es) k h has =
    let p = both _ _ h in
    elim (has_either k e.0 (map (λ e. e.0) es) has) [
      | inl is ↦ omega (arith, less_is x e.0 p.0, is)
      | inr g ↦ keys_above x es k p.1 g
    ]

sorted_case : (low : ℕ) (e : ℕ × ℕ) (es : List (ℕ × ℕ)) → T (below_all nat_cmp e.0 es) → IsBest low (Has (map (λ e. e.0) es)) (find (λ k. leb low k) (map (λ e. e.0) es))
    → (t : Bool) → leb low e.0 ≡ t → IsBest low (Has (map (λ e. e.0) (e ∷ es))) (cond t (Some e.0) (find (λ k. leb low k) (map (λ e. e.0) es)))
sorted_case low e es above rest true q = (
  has_first e.0 (map (λ e. e.0) es),
  leb-true low e.0 q,
  λ k has l. elim (has_either k e.0 (map (λ e. e.0) es) has) [ inl is ↦ omega (arith, is) | inr g ↦ omega (arith, keys_above e.0 es k above g) ],
)
sorted_case low e es above rest false q = same_best low (Has (map (λ e. e.0) es)) (Has (map (λ e. e.0) (e ∷ es))) (find (λ k. leb low k) (map (λ e. e.0) es))
    (λ k l g. has_behind k e.0 (map (λ e. e.0) es) g)
    (λ k l g. elim (has_either k e.0 (map (λ e. e.0) es) g) [ inl is ↦ absurd (omega (arith, is, l, leb-false low e.0 q)) | inr g ↦ g ])
    rest

sorted_best : (low : ℕ) (es : List (ℕ × ℕ)) → T (fin.is_sorted nat_cmp es) → IsBest low (Has (map (λ e. e.0) es)) (find (λ k. leb low k) (map (λ e. e.0) es))
sorted_best low [] h = λ k g l. absurd cc
sorted_best low (e ∷ es) h = let p = both _ _ h in sorted_case low e es p.0 (sorted_best low es p.1) (leb low e.0) refl

-- the key has a value
abbrev pub Holds : fin.FinMap nat_cmp ℕ → ℕ → Type 0
Holds m k = is_some (fin.get m k) ≡ true

pub least_best : (m : fin.FinMap nat_cmp ℕ) (low : ℕ) → IsBest low (Holds m) (least_from m low)
least_best m low = same_best low (Has (fin.keys m)) (Holds m) (least_from m low) (λ k l g. contains_key-keys m k ∙ g) (λ k l g. sym (contains_key-keys m k) ∙ g)
    (sorted_best low (fin.entries m) (entries_sorted m))
