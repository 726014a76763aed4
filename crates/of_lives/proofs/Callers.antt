-- The entries of one caller among all of them.
use Rattle.std.proofs.Common.{◌≡◌, ℕ, ◌<◌, ◌≤◌, inl, inr, Bool, true, false, cond, eqb, List, [], ◌∷◌, refl, sym, ap, ◌∙◌, arith}
use Rattle.std.specs.Prelude.{filter}
use Rattle.std.specs.List.{AllByRecursion as Each}
use Rattle.std.proofs.lemmas.Bool.{eq-eqb}
use Rattle.std.proofs.lemmas.Bool.Decides.{eqb_tells}
pub use Rattle.std.proofs.lemmas.Bool.{eqb-true as is_caller}
use Rattle.of_plan.specs.Report.{Entry}
use Rattle.of_plan.specs.Histories.{IsIn}
use Rattle.of_plan.proofs.HistoriesLists.{each_at, each_from_in, each_filter, in_filter, InLine}

abbrev pub is_of : ℕ → Entry → Bool
is_of c e = eqb e.caller c

is_other : (a b : ℕ) → a < b → eqb a b ≡ false
is_other a b lt = elim (eqb_tells a b) [
  | inl here ↦ absurd (omega (arith, lt, here.1))
  | inr other ↦ other.0
]

-- an entry is one of its caller's
pub own_entry : (e : Entry) (es : List Entry) → IsIn e es → IsIn e (filter (is_of e.caller) es)
own_entry e es here = in_filter (is_of e.caller) e es here (eq-eqb e.caller e.caller refl)

-- an entry of a caller is one of all
pub among_all : (c : ℕ) (es : List Entry) (e : Entry) → IsIn e (filter (is_of c) es) → IsIn e es × (e.caller ≡ c)
among_all c es e there =
    each_at (λ f. IsIn f es × (f.caller ≡ c)) e (filter (is_of c) es)
    (each_filter (λ f. IsIn f es) (λ f. IsIn f es × (f.caller ≡ c)) (is_of c) (λ f here test. (here, is_caller f.caller c test)) es (each_from_in (λ f. IsIn f es) es (λ f here. here))) there

-- there is none of a caller that is behind all of theirs
pub none_of : (n c : ℕ) (es : List Entry) → Each (λ e. e.caller < n) es → n ≤ c → filter (is_of c) es ≡ []
none_of n c [] all past = refl
none_of n c (e ∷ es) all past =
    ap (λ (b : Bool). cond b (e ∷ filter (is_of c) es) (filter (is_of c) es)) (is_other e.caller c (omega (arith, all.0, past)))
    ∙ none_of n c es all.1 past

head_line : (R : Entry → Entry → Type 0) (b : Bool) (x : Entry) (ys : List Entry) → b ≡ true → InLine R (cond b (x ∷ ys) ys) → Each (R x) ys
head_line R true x ys is line = line.0
head_line R false x ys is line = absurd (cc)

rest_line : (R : Entry → Entry → Type 0) (b : Bool) (x : Entry) (ys : List Entry) → InLine R (cond b (x ∷ ys) ys) → InLine R ys
rest_line R true x ys line = line.1
rest_line R false x ys line = line

-- what is in line caller by caller is so among all
pub merged : (R : Entry → Entry → Type 0) (es : List Entry) → ((c : ℕ) → InLine R (filter (is_of c) es)) → InLine (λ e f. e.caller ≡ f.caller → R e f) es
merged R [] lines = tt
merged R (e ∷ es) lines = (
  each_from_in (λ f. e.caller ≡ f.caller → R e f) es (λ f there same.
      each_at (R e) f (filter (is_of e.caller) es) (head_line R (is_of e.caller e) e (filter (is_of e.caller) es) (eq-eqb e.caller e.caller refl) (lines e.caller))
      (in_filter (is_of e.caller) f es there (eq-eqb f.caller e.caller (sym same)))),
  merged R es (λ c. rest_line R (is_of c e) e (filter (is_of c) es) (lines c)),
)
