-- A reply that cells hold is shown to C as its marks and its cells say.
use mir.Val.{bool_byte}
use Rattle.std.proofs.Common.{◌≡◌, ◌≢◌, ℕ, ◌+◌, ◌<◌, ◌/◌, ◌%◌, ◌==◌, inl, inr, List, ◌∷◌, length, drop, get_or, set, Bool, true, false, Option, refl, sym, ◌∙◌, ap, subst, arith}
use Rattle.std.specs.Bool.{then_some}
use Rattle.std.proofs.lemmas.Bool.{cases_eq}
use Rattle.std.proofs.lemmas.Bool.Decides.{nat_tests}
use Rattle.std.proofs.lemmas.List.{drop_more, drop-drop, get_or-drop, get_or-set_same, get_or-set_other}
use Rattle.of_eval.specs.Reading.{marked_in}
use Rattle.of_c.specs.Replies.{given_flag, flag_number}

-- the numbers shown at the places below n are what `give` makes of the values there
abbrev pub ShowsFirst : (Option ℕ → ℕ) → (n : ℕ) → (values : List (Option ℕ)) → (shown : List ℕ) → Type 0
ShowsFirst give n values shown = (i : ℕ) (d : Option ℕ) (e : ℕ) → i < n → get_or shown i e ≡ give (get_or values i d)

pub shows_more : (give : Option ℕ → ℕ) (n : ℕ) (vs : List (Option ℕ)) (shown : List ℕ) (x : ℕ) → n < length shown → ((d : Option ℕ) → x ≡ give (get_or vs n d)) → ShowsFirst give n vs shown → ShowsFirst give (n + 1) vs (set shown n x)
shows_more give n vs shown x l is h i d e k = elim (cases_eq i n) [
  | inl same ↦ subst (λ (j : ℕ). get_or (set shown n x) j e ≡ give (get_or vs j d)) (sym same) (get_or-set_same shown n x e l ∙ is d)
  | inr other ↦ get_or-set_other shown n i x e other ∙ h i d e (omega (arith, other, k))
]

-- the marks that are left say what the values from place n on are
module _ (marks : ℕ) (cs : List ℕ) (rest n : ℕ) (here : n < length cs) (left : marked_in rest (drop n cs) ≡ drop n (marked_in marks cs)) where
  from_here : then_some (rest % 2 == 1) (get_or cs n 0) ∷ marked_in (rest / 2) (drop (n + 1) cs) ≡ drop n (marked_in marks cs)
  from_here = sym (ap (marked_in rest) (drop_more cs n 0 here)) ∙ left

  pub value_is : (d : Option ℕ) → then_some (rest % 2 == 1) (get_or cs n 0) ≡ get_or (marked_in marks cs) n d
  value_is d = ap (λ (vs : List (Option ℕ)). get_or vs 0 d) from_here ∙ get_or-drop n (marked_in marks cs) 0 d ∙ ap (λ (k : ℕ). get_or (marked_in marks cs) k d) (omega arith)

  pub left_is : marked_in (rest / 2) (drop (n + 1) cs) ≡ drop (n + 1) (marked_in marks cs)
  left_is = ap (drop 1) from_here ∙ drop-drop 1 n (marked_in marks cs)

pub flag_is : (rest cell : ℕ) → rest % 2 ≡ given_flag (then_some (rest % 2 == 1) cell)
flag_is rest cell = go (rest % 2 == 1) refl
  where
    go : (t : Bool) → (rest % 2 == 1) ≡ t → rest % 2 ≡ given_flag (then_some t cell)
    go true e = grind (arith, nat_tests)
    go false e = let even : rest % 2 ≢ 1 = grind (arith, nat_tests) in omega (arith, even)

pub shows_flag : (b : Bool) → bool_byte b ≡ flag_number b
shows_flag true = refl
shows_flag false = refl
