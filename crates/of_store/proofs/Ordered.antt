-- The least key from one on, and the keys that are left where those below one leave.
use Rattle.std.proofs.Common.{◌≡◌, ℕ, ◌≤◌, Bool, true, false, cond, leb, ltb, eqb, List, [], ◌∷◌, length, Option, Some, None, is_some, refl, sym, ap, ◌∙◌, arith}
use Rattle.std.specs.Prelude.{find, ◌&&◌}
use Rattle.std.specs.FinMap as fm
use Rattle.std.specs.FinMap.{nat_cmp-IsAntisymmetric, get-retain_keys, contains_key-keys, entries, entries_sorted, from_sorted, from_entries, get-from_sorted, get-from_entries, get-entries, same_map, len-entries, entries-from_sorted}
use Rattle.std.specs.FinMap.Entries.{where_key, find-where_key, is_sorted-where_key}
use Rattle.std.specs.List.{list_any, filter}
use Rattle.std.specs.Cmp.{nat_cmp_total, eq_by_cmp_equiv}
use Rattle.std.specs.Map.{keys_of}
use Rattle.std.specs.List.Sorted.{IsStrictlySortedBy}
use Rattle.std.proofs.Common.{Less, Equal, Greater}
use Rattle.std.specs.Ordering.{nat_cmp, eq_by_cmp, is_le}
use Rattle.std.proofs.lemmas.Bool.{le-leb, lt-leb, ltb-true, ltb-false, eqb-true, eqb-false, or_right}
use Rattle.of_store.specs.Store.{least_from, keys_from}
use Rattle.of_store.proofs.Maps.{keys_are}

some_there : {A : Type 0} (o : Option A) → is_some o ≡ true → (x : A) × (o ≡ Some x)
some_there None e = absurd cc
some_there (Some x) e = (x, refl)

-- ---- the keys that are left

alike : (low q x : ℕ) → nat_cmp q x ≡ Equal → leb low x ≡ leb low q
alike low q x t = ap (leb low) (sym (nat_cmp-IsAntisymmetric q x t))

left_is : (m : fm.FinMap nat_cmp ℕ) (low q : ℕ) → fm.get (keys_from m low) q ≡ cond (leb low q) (fm.get m q) None
left_is m low q = get-retain_keys m (λ k. leb low k) q (alike low q)

pub get_left : (m : fm.FinMap nat_cmp ℕ) (low q w : ℕ) → fm.get (keys_from m low) q ≡ Some w → fm.get m q ≡ Some w
get_left m low q w e = only (leb low q) (sym (left_is m low q) ∙ e)
  where
    only : (b : Bool) → cond b (fm.get m q) None ≡ Some w → fm.get m q ≡ Some w
    only true h = h
    only false h = absurd cc

one_more : (b : Bool) (e : ℕ × ℕ) (fs es : List (ℕ × ℕ)) → length fs ≤ length es → length (cond b (e ∷ fs) fs) ≤ length (e ∷ es)
one_more true e fs es h = omega (arith, h)
one_more false e fs es h = omega (arith, h)

shorter : (p : ℕ → Bool) (es : List (ℕ × ℕ)) → length (where_key nat_cmp p es) ≤ length es
shorter p [] = omega arith
shorter p (e ∷ es) = one_more (p e.0) e (where_key nat_cmp p es) es (shorter p es)

pub len_left : (m : fm.FinMap nat_cmp ℕ) (low : ℕ) → fm.len (keys_from m low) ≤ fm.len m
len_left m low =
    let fs = where_key nat_cmp (λ k. leb low k) (entries m) in
    let sorted = is_sorted-where_key nat_cmp (λ k. leb low k) (entries m) (entries_sorted m) in
    let same : keys_from m low ≡ from_sorted fs = same_map nat_cmp_total nat_cmp-IsAntisymmetric _ _ (λ q.
    left_is m low q ∙ ap (λ (o : Option ℕ). cond (leb low q) o None) (get-entries m q)
    ∙ sym (get-from_sorted nat_cmp fs q sorted ∙ find-where_key nat_cmp (λ k. leb low k) q (alike low q) (entries m))) in
    omega (arith, ap fm.len same, len-entries (from_sorted {R = nat_cmp} fs), ap length (entries-from_sorted nat_cmp fs sorted), shorter (λ k. leb low k) (entries m), len-entries m)

-- ---- the least key

nat_tied : (k : ℕ) → eq_by_cmp nat_cmp k k ≡ true
nat_tied k = (eq_by_cmp_equiv nat_cmp_total).refl k

found_in : (p : ℕ → Bool) (ks : List ℕ) (k : ℕ) → find p ks ≡ Some k → list_any (eq_by_cmp nat_cmp k) ks ≡ true
found_in p [] k e = absurd cc
found_in p (x ∷ ks) k e = elim (p x) as (λ b. cond b (Some x) (find p ks) ≡ Some k → list_any (eq_by_cmp nat_cmp k) (x ∷ ks) ≡ true) [
  | true ↦ λ h. let same : x ≡ k = cc in rw (same, nat_tied k) refl
  | false ↦ λ h. or_right (eq_by_cmp nat_cmp k x) _ (found_in p ks k h)
] e

-- the least key is in the map
pub least_there : (m : fm.FinMap nat_cmp ℕ) (low k : ℕ) → least_from m low ≡ Some k → (v : ℕ) × (fm.get m k ≡ Some v)
least_there m low k e = some_there (fm.get m k) (contains_key-keys m k ∙ found_in (λ x. leb low x) (fm.keys m) k e)

-- ---- entries, as the code's map has them

-- a key is this one or above
from_is : (low k : ℕ) → is_le (nat_cmp low k) ≡ leb low k
from_is low k = go (ltb low k) (eqb low k) refl refl
  where
    go : (a b : Bool) → ltb low k ≡ a → eqb low k ≡ b → is_le (cond a Less (cond b Equal Greater)) ≡ leb low k
    go true b l e = sym (le-leb low k (omega (arith, ltb-true low k l)))
    go false true l e = sym (le-leb low k (omega (arith, eqb-true low k e)))
    go false false l e = sym (lt-leb low k (omega (arith, ltb-false low k l, eqb-false low k e)))

-- entries from this key on
abbrev pub from_low : ℕ → List (ℕ × ℕ) → List (ℕ × ℕ)
from_low low es = filter (λ e. is_le (nat_cmp low e.0) && true) es

first_case : (low : ℕ) (x : ℕ × ℕ) (es : List (ℕ × ℕ)) (k v : ℕ) (rest : List (ℕ × ℕ)) → (from_low low es ≡ (k, v) ∷ rest → find (λ q. leb low q) (keys_of es) ≡ Some k)
    → (b : Bool) → cond (b && true) (x ∷ from_low low es) (from_low low es) ≡ (k, v) ∷ rest → cond b (Some x.0) (find (λ q. leb low q) (keys_of es)) ≡ Some k
first_case low x es k v rest h true e = let is : x ≡ (k, v) = cc in ap (λ (p : ℕ × ℕ). Some p.0) is
first_case low x es k v rest h false e = h e

first_of : (low : ℕ) (es : List (ℕ × ℕ)) (k v : ℕ) (rest : List (ℕ × ℕ)) → from_low low es ≡ (k, v) ∷ rest → find (λ q. leb low q) (keys_of es) ≡ Some k
first_of low [] k v rest e = absurd cc
first_of low (x ∷ es) k v rest e =
    ap (λ (b : Bool). cond b (Some x.0) (find (λ q. leb low q) (keys_of es))) (sym (from_is low x.0))
    ∙ first_case low x es k v rest (first_of low es k v rest) (is_le (nat_cmp low x.0)) e

none_case : (low : ℕ) (x : ℕ × ℕ) (es : List (ℕ × ℕ)) → (from_low low es ≡ [] → find (λ q. leb low q) (keys_of es) ≡ None)
    → (b : Bool) → cond (b && true) (x ∷ from_low low es) (from_low low es) ≡ [] → cond b (Some x.0) (find (λ q. leb low q) (keys_of es)) ≡ None
none_case low x es h true e = absurd cc
none_case low x es h false e = h e

none_of : (low : ℕ) (es : List (ℕ × ℕ)) → from_low low es ≡ [] → find (λ q. leb low q) (keys_of es) ≡ None
none_of low [] e = refl
none_of low (x ∷ es) e =
    ap (λ (b : Bool). cond b (Some x.0) (find (λ q. leb low q) (keys_of es))) (sym (from_is low x.0))
    ∙ none_case low x es (none_of low es) (is_le (nat_cmp low x.0)) e

pub least_first : (low : ℕ) (es : List (ℕ × ℕ)) (k v : ℕ) (rest : List (ℕ × ℕ)) → IsStrictlySortedBy nat_cmp (keys_of es) → from_low low es ≡ (k, v) ∷ rest → least_from (from_entries es) low ≡ Some k
least_first low es k v rest sorted e = ap (find (λ q. leb low q)) (keys_are es sorted) ∙ first_of low es k v rest e

pub least_none : (low : ℕ) (es : List (ℕ × ℕ)) → IsStrictlySortedBy nat_cmp (keys_of es) → from_low low es ≡ [] → least_from (from_entries es) low ≡ None
least_none low es sorted e = ap (find (λ q. leb low q)) (keys_are es sorted) ∙ none_of low es e

-- the map of the entries from this key on
pub entries_left : (low : ℕ) (es fs : List (ℕ × ℕ)) → fs ≡ filter (λ e. is_le (nat_cmp low e.0)) es → from_entries {R = nat_cmp} fs ≡ keys_from (from_entries es) low
entries_left low es fs e = same_map nat_cmp_total nat_cmp-IsAntisymmetric _ _ (λ q.
    get-from_entries nat_cmp_total fs q ∙ ap (fm.find nat_cmp q) e ∙ ap (λ (p : ℕ → Bool). fm.find nat_cmp q (where_key nat_cmp p es)) (λ i k. from_is low k i)
    ∙ find-where_key nat_cmp (λ k. leb low k) q (alike low q) es
    ∙ ap (λ (o : Option ℕ). cond (leb low q) o None) (sym (get-from_entries nat_cmp_total es q)) ∙ sym (left_is (from_entries es) low q))
