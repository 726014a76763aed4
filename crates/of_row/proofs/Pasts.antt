-- The past of a view: the events up to a step that it knows of, which are how all events begin.
use Rattle.std.proofs.Common.{◌≡◌, ℕ, ◌<◌, ◌≤◌, ◌⊎◌, inl, inr, cond, Bool, List, [], ◌∷◌, ◌++◌, length, refl, sym, ◌∙◌, ap, subst, arith, le-leb, append_assoc}
use Rattle.std.proofs.lemmas.Bool.{cases_lt, lt-leb}
use Rattle.std.proofs.lemmas.List.{append-nil, length-append}
use mathlib.Core.List.{IsPrefix}
use Rattle.of_core.specs.Events.{Event}
use Rattle.of_core.specs.Calls.{operations_begun}
use Rattle.of_core.proofs.Parts.{operations_append}
use Rattle.of_row.specs.Views.{longer_history}

pub prefix_self : {A : Type 0} (xs : List A) → IsPrefix xs xs
prefix_self xs = ([], append-nil xs)

-- the list goes on
pub prefix_more : {A : Type 0} (xs ys zs : List A) → IsPrefix xs ys → IsPrefix xs (ys ++ zs)
prefix_more {A} xs ys zs p = (p.0 ++ zs, sym (append_assoc xs p.0 zs) ∙ ap (λ (l : List A). l ++ zs) p.1)

-- of two lists that begin the same one the shorter begins the longer
between : {A : Type 0} (xs ys rs ss : List A) → xs ++ rs ≡ ys ++ ss → length xs ≤ length ys → IsPrefix xs ys
between [] ys rs ss e l = (ys, refl)
between (x ∷ xs) [] rs ss e l = absurd (omega (arith, l))
between (x ∷ xs) (y ∷ ys) rs ss e l =
    let h : x ≡ y = cc in
    let t : xs ++ rs ≡ ys ++ ss = cc in
    let p = between xs ys rs ss t (omega (arith, l)) in
    (p.0, λ i. h i ∷ p.1 i)

pub prefix_shorter : {A : Type 0} (xs ys zs : List A) → IsPrefix xs zs → IsPrefix ys zs → length xs ≤ length ys → IsPrefix xs ys
prefix_shorter xs ys zs p q l = between xs ys p.0 q.0 (p.1 ∙ sym q.1) l

-- the list begins the third, and begins with both others
abbrev IsAbove : {A : Type 0} (xs ys zs ls : List A) → Type 0
IsAbove xs ys zs ls = IsPrefix ls zs × IsPrefix xs ls × IsPrefix ys ls

-- so does the longer of the two
pub longer_past : {A : Type 0} (xs ys zs : List A) → IsPrefix xs zs → IsPrefix ys zs → IsPrefix (longer_history xs ys) zs × IsPrefix xs (longer_history xs ys) × IsPrefix ys (longer_history xs ys)
longer_past {A} xs ys zs p q = go (cases_lt (length ys) (length xs))
  where
    go : (length ys < length xs) ⊎ (length xs ≤ length ys) → IsAbove xs ys zs (longer_history xs ys)
    go (inl l) = subst (λ (t : Bool). IsAbove xs ys zs (cond t ys xs)) (sym (lt-leb (length xs) (length ys) l)) (p, prefix_self xs, prefix_shorter ys xs zs q p (omega (arith, l)))
    go (inr l) = subst (λ (t : Bool). IsAbove xs ys zs (cond t ys xs)) (sym (le-leb (length xs) (length ys) l)) (q, prefix_shorter xs ys zs p q l, prefix_self ys)

-- a past begins with no more calls of a caller
pub begun_before : (es ds : List Event) (i : ℕ) → IsPrefix es ds → length (operations_begun es i) ≤ length (operations_begun ds i)
begun_before es ds i p =
    let e : operations_begun ds i ≡ operations_begun es i ++ operations_begun p.0 i = ap (λ (l : List Event). operations_begun l i) (sym p.1) ∙ operations_append es p.0 i in
    omega (arith, ap length e, length-append (operations_begun es i) (operations_begun p.0 i))
