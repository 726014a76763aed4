-- Titles, and the pieces at which there is none.
use Rattle.std.proofs.Common.{◌≡◌, inr, ℕ, List, [], ◌∷◌, Option, Some, None, refl, sym, ap, subst, ◌∙◌}
use Rattle.std.specs.Prelude.{codes, MatchOption, IfSome}
use Rattle.of_script.specs.Text.{text_words, EndsWith}
use Rattle.of_plan.specs.declared.parser.feed.Bad.{Bad}
use Rattle.of_plan.specs.declared.pieces.Piece.{Piece}
use Rattle.of_plan.specs.declared.reason.Reason.{Reason}
use Rattle.of_plan.specs.declared.reason.Reason.TheVariants.{TitleExpected}
use Rattle.of_plan.specs.Pieces.{IsBad, IsNextWord, first_word}
use Rattle.of_plan.specs.Fed.{TooMany, IsTitleFault}
use Rattle.of_plan.proofs.BadPieces.{lift_next}

abbrev plan : List ℕ
plan = codes "plan"

abbrev one : List ℕ
one = codes "1"

left : (ws : List (List ℕ)) → plan ∷ one ∷ ws ≡ plan ∷ one ∷ [] → ws ≡ []
left ws e = cc

-- a word after a title, or none
pub title_more : (o : Option Bad) (line after : List ℕ) → EndsWith line after → text_words line ≡ plan ∷ one ∷ text_words after → MatchOption o (text_words after ≡ []) (λ bad. first_word (text_words after) ≡ [] → ⊥) → IfSome o (λ bad. IsNextWord after bad.piece) → IfSome o (λ bad. bad.reason ≡ TooMany)
    → MatchOption o (text_words line ≡ plan ∷ one ∷ []) (λ bad. (text_words line ≡ plan ∷ one ∷ [] → ⊥) × IsBad line bad.piece (IsTitleFault bad.reason))
title_more None line after ends words none next reason = words ∙ ap (λ (v : List (List ℕ)). plan ∷ one ∷ v) none
title_more (Some bad) line after ends words none next reason = (
  λ e. none (ap first_word (left (text_words after) (sym words ∙ e))),
  lift_next after line bad.piece (IsTitleFault bad.reason) (plan ∷ one ∷ []) next ends words
      (subst (λ (r : Reason). IsTitleFault r (plan ∷ one ∷ []) (first_word (text_words after))) (sym reason) (refl, none)),
)

not_first : (ws : List (List ℕ)) (w : List ℕ) → ((others : List (List ℕ)) → ws ≡ w ∷ others → ⊥) → (w ≡ [] → ⊥) → first_word ws ≡ w → ⊥
not_first [] w h some e = some (sym e)
not_first (v ∷ vs) w h some e = h vs (ap (λ (u : List ℕ). u ∷ vs) e)

-- another word than the version
pub title_other : (line after : List ℕ) (b : Piece) → EndsWith line after → text_words line ≡ plan ∷ text_words after → IsNextWord after b → ((others : List (List ℕ)) → text_words after ≡ one ∷ others → ⊥) → (text_words line ≡ plan ∷ one ∷ [] → ⊥) × IsBad line b (IsTitleFault TitleExpected)
title_other line after b ends words next other = (
  λ e. other [] (behind (text_words after) (sym words ∙ e)),
  lift_next after line b (IsTitleFault TitleExpected) (plan ∷ []) next ends words (inr (refl, not_first (text_words after) one other (λ e. cc))),
)
  where
    behind : (ws : List (List ℕ)) → plan ∷ ws ≡ plan ∷ one ∷ [] → ws ≡ one ∷ []
    behind ws e = cc
