-- Words of one line: names and numbers. Printed with a space between two they are read again.
use Rattle.std.proofs.Common.{◌≡◌, inl, inr, ℕ, ◌^◌, ◌<◌, Bool, true, false, not, ◌&&◌, eqb, List, [], ◌∷◌, ◌++◌, length, refl, ap, ◌∙◌, append_assoc, arith}
use Rattle.std.specs.Prelude.{codes, decimal}
use Rattle.std.specs.List.{AllByRecursion, join_with_byte}
use Rattle.std.specs.Str.Parse.{AllDigits}
use Rattle.std.proofs.lemmas.Bool.Decides.{eqb_tells}
use Rattle.std.proofs.lemmas.List.Elements.{All-from_recursion}
use Rattle.std.proofs.lemmas.List.Splits.{slice_split_at}
use Rattle.std.proofs.lemmas.Str.Parse.{digit_from_value}
use Rattle.std.proofs.lemmas.Fmt.{digits_decimal}
use Rattle.of_script.specs.Text.{text_words, is_gap}
use Rattle.of_script.proofs.Again.{NoGaps, IsWord, decimal_is_word, words-join}
use Rattle.of_script.proofs.Numbers.{digit_texts}
use Rattle.of_plan.specs.Lines.{text_lines, unskipped_words, is_skipped}
use Rattle.of_plan.proofs.Lists.{all-both}
use Rattle.of_plan.proofs.TextLines.{NoNewline, kept-cons}

both : (a b : Bool) → (a && b) ≡ true → (a ≡ true) × (b ≡ true)
both true b e = (refl, e)
both false b e = absurd cc

no_is : (b : Bool) → not b ≡ true → b ≡ false
no_is true e = absurd cc
no_is false e = refl

abbrev pub clean : List ℕ → Bool
clean [] = true
clean (b ∷ bs) = not (eqb b 10) && clean bs

pub clean_is : (bs : List ℕ) → clean bs ≡ true → NoNewline bs
clean_is [] e = tt
clean_is (b ∷ bs) e = let h = both (not (eqb b 10)) (clean bs) e in (no_is (eqb b 10) h.0, clean_is bs h.1)

abbrev pub gapless : List ℕ → Bool
gapless [] = true
gapless (b ∷ bs) = not (is_gap b) && gapless bs

gapless_is : (bs : List ℕ) → gapless bs ≡ true → NoGaps bs
gapless_is [] e = tt
gapless_is (b ∷ bs) e = let h = both (not (is_gap b)) (gapless bs) e in (no_is (is_gap b) h.0, gapless_is bs h.1)

-- a word of one line
pub record Plain (w : List ℕ) : Type 0 where
  pub word : IsWord w
  pub clean : NoNewline w

pub plain_name : (w : List ℕ) → 0 < length w → gapless w ≡ true → clean w ≡ true → Plain w
plain_name w some one two = record { word = record { some = some; no_gaps = gapless_is w one }; clean = clean_is w two }

digits_clean : (ds : List ℕ) → AllDigits 10 ds → NoNewline ds
digits_clean [] h = tt
digits_clean (c ∷ cs) h =
    let r = digit_from_value c h.0 in
    (elim (eqb_tells c 10) [ inl p ↦ absurd (let e = p.1 in omega (arith, r.0)) | inr p ↦ p.0 ], digits_clean cs h.1)

pub plain_number : (n : ℕ) → n < 2 ^ 64 → Plain (decimal n)
plain_number n fits = record { word = decimal_is_word n fits; clean = digits_clean (decimal n) (digit_texts.to _ (digits_decimal digit_texts n fits)) }

abbrev pub Plains : List (List ℕ) → Type 0
Plains ws = AllByRecursion Plain ws

pub plain_words : (ws : List (List ℕ)) → Plains ws → AllByRecursion IsWord ws
plain_words [] h = tt
plain_words (w ∷ ws) h = (h.0.word, plain_words ws h.1)

pub join_clean : (ws : List (List ℕ)) → Plains ws → NoNewline (join_with_byte 32 ws)
join_clean [] h = tt
join_clean (w ∷ []) h = h.0.clean
join_clean (w ∷ v ∷ ws) h = all-both (λ b. eqb b 10 ≡ false) w (32 ∷ join_with_byte 32 (v ∷ ws)) h.0.clean (refl, join_clean (v ∷ ws) h.1)

-- a line of plain words, printed before other lines
pub line_first : (ws : List (List ℕ)) (rest : List ℕ) → Plains ws → is_skipped ws ≡ false → unskipped_words (text_lines ((join_with_byte 32 ws ++ codes "\n") ++ rest)) ≡ ws ∷ unskipped_words (text_lines rest)
line_first ws rest h stays =
    let line = join_with_byte 32 ws in
    let same : text_words line ≡ ws = words-join ws (plain_words ws h) in
    ap unskipped_words (ap text_lines (append_assoc line (codes "\n") rest) ∙ slice_split_at (λ b. eqb b 10) line 10 rest (All-from_recursion _ line (join_clean ws h)) refl)
    ∙ kept-cons line (text_lines rest) (ap is_skipped same ∙ stays)
    ∙ ap (λ (v : List (List ℕ)). v ∷ unskipped_words (text_lines rest)) same
