-- Indices that go up one by one: they rise, lie between the first and the last, and leave none out.
use Rattle.std.proofs.Common.{◌≡◌, ℕ, suc, ◌+◌, ◌<◌, ◌≤◌, inl, inr, List, [], ◌∷◌, length, get_or, map, refl, ap, ◌∙◌, arith}
use Rattle.std.specs.List.{range_with_len, AllByRecursion as Each}
use Rattle.std.proofs.lemmas.Bool.{cases_eq}
use Rattle.of_plan.specs.Report.{Entry}
use Rattle.of_plan.specs.Histories.{IsIn}
use Rattle.of_plan.proofs.HistoriesLists.{each_weaker, InLine}

-- the first has the lower index
abbrev pub Rises : Entry → Entry → Type 0
Rises e f = e.index < f.index

abbrev pub indices_of : List Entry → List ℕ
indices_of es = map (λ e. e.index) es

-- the indices are n, n + 1, and so on
abbrev pub OneByOne : ℕ → List Entry → Type 0
OneByOne n es = indices_of es ≡ range_with_len n (length es)

abbrev tail_of : List ℕ → List ℕ
tail_of [] = []
tail_of (x ∷ xs) = xs

-- the first of them is n
first_is : (n : ℕ) (e : Entry) (es : List Entry) → OneByOne n (e ∷ es) → e.index ≡ n
first_is n e es is = ap (λ (xs : List ℕ). get_or xs 0 0) is

-- and the others go on from there
others_are : (n : ℕ) (e : Entry) (es : List Entry) → OneByOne n (e ∷ es) → OneByOne (n + 1) es
others_are n e es is = ap tail_of is

-- none is below the first
pub from_first : (n : ℕ) (es : List Entry) → OneByOne n es → Each (λ e. n ≤ e.index) es
from_first n [] is = tt
from_first n (e ∷ es) is =
    let first = first_is n e es is in
    let others = from_first (n + 1) es (others_are n e es is) in (
      omega (arith, first),
      each_weaker (λ (f : Entry). n + 1 ≤ f.index) (λ (f : Entry). n ≤ f.index) (λ f low. omega (arith, low)) es others,
    )

-- they rise
pub rise : (n : ℕ) (es : List Entry) → OneByOne n es → InLine Rises es
rise n [] is = tt
rise n (e ∷ es) is =
    let first = first_is n e es is in
    let others = others_are n e es is in (
      each_weaker (λ (f : Entry). n + 1 ≤ f.index) (Rises e) (λ f low. omega (arith, low, first)) es (from_first (n + 1) es others),
      rise (n + 1) es others,
    )

-- none is behind the last
pub upto_last : (n : ℕ) (es : List Entry) → OneByOne n es → Each (λ e. e.index + 1 ≤ n + length es) es
upto_last n [] is = tt
upto_last n (e ∷ es) is =
    let first = first_is n e es is in
    let others = upto_last (n + 1) es (others_are n e es is) in (
      omega (arith, first),
      each_weaker (λ (f : Entry). f.index + 1 ≤ n + 1 + length es) (λ (f : Entry). f.index + 1 ≤ n + suc (length es)) (λ f high. omega (arith, high)) es others,
    )

-- each index between is there
pub has_index : (n x : ℕ) (es : List Entry) → OneByOne n es → n ≤ x → x < n + length es → (e : Entry) × IsIn e es × (e.index ≡ x)
has_index n x [] is low high = absurd (omega (arith, low, high))
has_index n x (e ∷ es) is low high = elim (cases_eq n x) [
  | inl same ↦ (e, inl refl, first_is n e es is ∙ same)
  | inr other ↦
      let found = has_index (n + 1) x es (others_are n e es is) (omega (arith, low, other)) (omega (arith, high)) in
      (found.0, inr found.1, found.2)
]
