-- The lines of a text by their places.
use Rattle.std.proofs.Common.{◌≡◌, ℕ, zero, suc, ◌+◌, ◌-◌, ◌<◌, List, [], ◌∷◌, length, get_or, drop, Option, Some, None, false, inl, inr, refl, sym, ap, ◌∙◌, arith}
use Rattle.std.specs.Prelude.{MatchOption, is_some}
use denote.Ref.{Bor}
use Rattle.std.proofs.lemmas.List.{get_or-drop, drop-drop, length-drop}
use Rattle.std.proofs.lemmas.Bool.Decides.{eqb_tells, leb_tells}
use Rattle.of_script.specs.Text.{text_words}
use Rattle.of_plan.specs.declared.above.Wanted.{Wanted}
use Rattle.of_plan.specs.Above.{said, line_at}
use Rattle.of_plan.specs.Lines.{text_lines}

-- the line that comes next is the one at this place
pub next_at : (ls : List (List ℕ)) (at : ℕ) (line : List ℕ) (rest : List (List ℕ)) → drop at ls ≡ line ∷ rest → get_or ls at [] ≡ line
next_at ls at line rest e =
    let place : at ≡ at + 0 = omega arith in
    ap (λ (n : ℕ). get_or ls n []) place ∙ sym (get_or-drop at ls 0 []) ∙ ap (λ (l : List (List ℕ)). get_or l 0 []) e

-- and the others come after it
pub after_next : (ls : List (List ℕ)) (at : ℕ) (line : List ℕ) (rest : List (List ℕ)) → drop at ls ≡ line ∷ rest → drop (at + 1) ls ≡ rest
after_next ls at line rest e = sym (drop-drop 1 at ls) ∙ ap (drop 1) e

none_past : (line : List ℕ) (n : ℕ) → 0 < n → get_or (line ∷ []) n [] ≡ []
none_past line zero lt = absurd (omega (arith, lt))
none_past line (suc n) lt = refl

-- past the last one nothing is
pub past_last : (ls : List (List ℕ)) (at k : ℕ) (line : List ℕ) → drop at ls ≡ line ∷ [] → at < k → get_or ls k [] ≡ []
past_last ls at k line e lt =
    let place : k ≡ at + (k - at) = omega (arith, lt) in
    ap (λ (n : ℕ). get_or ls n []) place ∙ sym (get_or-drop at ls (k - at) []) ∙ ap (λ (l : List (List ℕ)). get_or l (k - at) []) e ∙ none_past line (k - at) (omega (arith, lt))

-- how many there are
pub count_at_last : (ls : List (List ℕ)) (at : ℕ) (line : List ℕ) → drop at ls ≡ line ∷ [] → length ls ≡ at + 1
count_at_last ls at line e = omega (arith, length-drop at ls, ap length e)

-- without a newline after it, a line is the last
pub last_left : (o : Option (Bor (List ℕ))) (ls : List (List ℕ)) (line : List ℕ) → MatchOption o (ls ≡ line ∷ []) (λ rest. ls ≡ line ∷ text_lines rest.now) → is_some o ≡ false → ls ≡ line ∷ []
last_left None ls line parts e = parts
last_left (Some rest) ls line parts e = absurd cc

-- ---- what the lines up to one say

-- none before it says it, and it doesn't
pub none_more : (wanted : Wanted) (ls : List (List ℕ)) (at : ℕ) (line : List ℕ) (rest : List (List ℕ)) → drop at ls ≡ line ∷ rest → ((k : ℕ) → k < at → said wanted (text_words (line_at ls k)) ≡ None) → said wanted (text_words line) ≡ None → (k : ℕ) → k < at + 1 → said wanted (text_words (line_at ls k)) ≡ None
none_more wanted ls at line rest e before here k lt = elim (eqb_tells k at) [
  | inl same ↦ ap (λ (n : ℕ). said wanted (text_words (line_at ls n))) same.1 ∙ ap (λ (l : List ℕ). said wanted (text_words l)) (next_at ls at line rest e) ∙ here
  | inr other ↦ before k (omega (arith, lt, other.1))
]

-- and past the last one there is nothing
pub nothing_says : (wanted : Wanted) (ls : List (List ℕ)) (at k : ℕ) (line : List ℕ) → drop at ls ≡ line ∷ [] → ((n : ℕ) → n < at → said wanted (text_words (line_at ls n)) ≡ None) → said wanted (text_words line) ≡ None → said wanted (text_words (line_at ls k)) ≡ None
nothing_says wanted ls at k line e before here = elim (leb_tells k at) [
  | inl there ↦ none_more wanted ls at line [] e before here k (omega (arith, there.1))
  | inr past ↦ ap (λ (l : List ℕ). said wanted (text_words l)) (past_last ls at k line e past.1) ∙ nothing wanted
]
  where
    nothing : (w : Wanted) → said w (text_words []) ≡ None
    nothing w = refl
