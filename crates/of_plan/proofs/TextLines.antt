-- The lines of a text that is made of lines, and those that are kept.
use Rattle.std.proofs.Common.{◌≡◌, inl, inr, ℕ, Bool, true, false, not, cond, eqb, List, [], ◌∷◌, ◌++◌, refl, sym, ap, subst, ◌∙◌}
use Rattle.std.specs.List.{AllByRecursion, onto_first, join_with_byte}
use Rattle.std.proofs.lemmas.Bool.Decides.{eqb_tells}
use Rattle.std.proofs.lemmas.List.Elements.{All-from_recursion}
use Rattle.std.proofs.lemmas.List.Splits.{slice_split-cons_yes, slice_split-cons_no, slice_split_none, slice_split_at}
use Rattle.of_script.specs.Text.{text_words}
use Rattle.of_plan.specs.Lines.{text_lines, unskipped_words, is_skipped}

grown : (b : Bool) (w : List (List ℕ)) (all front back : List (List (List ℕ))) → all ≡ front ++ back → cond (not b) (w ∷ all) all ≡ cond (not b) (w ∷ front) front ++ back
grown true w all front back e = e
grown false w all front back e = ap (λ (l : List (List (List ℕ))). w ∷ l) e

pub kept-append : (xs ys : List (List ℕ)) → unskipped_words (xs ++ ys) ≡ unskipped_words xs ++ unskipped_words ys
kept-append [] ys = refl
kept-append (x ∷ xs) ys = grown (is_skipped (text_words x)) (text_words x) _ _ _ (kept-append xs ys)

abbrev pub NoNewline : List ℕ → Type 0
NoNewline l = AllByRecursion (λ b. eqb b 10 ≡ false) l

onto_clean : (b : ℕ) (ls : List (List ℕ)) → eqb b 10 ≡ false → AllByRecursion NoNewline ls → AllByRecursion NoNewline (onto_first b ls)
onto_clean b [] h k = ((h, tt), tt)
onto_clean b (l ∷ ls) h k = ((h, k.0), k.1)

pub lines_clean : (text : List ℕ) → AllByRecursion NoNewline (text_lines text)
lines_clean [] = (tt, tt)
lines_clean (b ∷ text) = elim (eqb_tells b 10) [
  | inl p ↦ subst (AllByRecursion NoNewline) (sym (slice_split-cons_yes (λ x. eqb x 10) b text p.0)) (tt, lines_clean text)
  | inr p ↦ subst (AllByRecursion NoNewline) (sym (slice_split-cons_no (λ x. eqb x 10) b text p.0)) (onto_clean b (text_lines text) p.0 (lines_clean text))
]

lines_join : (l : List ℕ) (ls : List (List ℕ)) → AllByRecursion NoNewline (l ∷ ls) → text_lines (join_with_byte 10 (l ∷ ls)) ≡ l ∷ ls
lines_join l [] h = slice_split_none (λ b. eqb b 10) l (All-from_recursion _ l h.0)
lines_join l (k ∷ ls) h = slice_split_at (λ b. eqb b 10) l 10 (join_with_byte 10 (k ∷ ls)) (All-from_recursion _ l h.0) refl ∙ ap (λ (x : List (List ℕ)). l ∷ x) (lines_join k ls h.1)

pub lines_join_all : (xs : List (List ℕ)) (l : List ℕ) (ls : List (List ℕ)) → AllByRecursion NoNewline (xs ++ l ∷ ls) → text_lines (join_with_byte 10 (xs ++ l ∷ ls)) ≡ xs ++ l ∷ ls
lines_join_all [] l ls h = lines_join l ls h
lines_join_all (x ∷ xs) l ls h = lines_join x (xs ++ l ∷ ls) h

pub kept-cons : (l : List ℕ) (ls : List (List ℕ)) → is_skipped (text_words l) ≡ false → unskipped_words (l ∷ ls) ≡ text_words l ∷ unskipped_words ls
kept-cons l ls h = rw h refl

pub kept-skipped : (l : List ℕ) (ls : List (List ℕ)) → is_skipped (text_words l) ≡ true → unskipped_words (l ∷ ls) ≡ unskipped_words ls
kept-skipped l ls h = rw h refl
