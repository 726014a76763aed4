-- A number that ends at a gap, or with the bytes, is the first word.
use Rattle.std.proofs.Common.{◌≡◌, ◌≢◌, ℕ, zero, suc, ◌<◌, ◌≤◌, true, false, List, length, get_or, take, drop, inl, inr, Some, refl, sym, ap, ◌∙◌, arith}
use Rattle.std.specs.Str.Parse.{AllDigits, digits_value}
use Rattle.std.proofs.lemmas.Str.Parse.{digit_at}
use Rattle.std.proofs.lemmas.List.{get_or-take, length-take-le}
use Rattle.std.proofs.lemmas.Bool.Decides.{eqb_tells}
use Rattle.of_script.specs.Text.{text_words, is_gap}
use Rattle.of_script.specs.Reading.{next_number}
use Rattle.of_script.proofs.Words.{words-run}
use Rattle.of_script.proofs.Numbers.{IsNumber, number_of_some, digit_texts}

digit_no_gap : (b : ℕ) → 48 ≤ b → b ≤ 57 → is_gap b ≡ false
digit_no_gap b low high = elim (eqb_tells b 32) [
  | inl p ↦ absurd (omega (arith, p.1))
  | inr p ↦ elim (eqb_tells b 59) [
    | inl q ↦ absurd (omega (arith, q.1))
    | inr q ↦ rw (p.0, q.0) refl
  ]
]

digits_no_gap : (n : ℕ) (bytes : List ℕ) → n ≤ length bytes → AllDigits 10 (take n bytes) → (k : ℕ) → k < n → is_gap (get_or bytes k 0) ≡ false
digits_no_gap n bytes within digits k lt =
    let d = digit_at (take n bytes) k digits (omega (arith, length-take-le n bytes within)) in
    let e = get_or-take n bytes k 0 lt in
    digit_no_gap (get_or bytes k 0) (omega (arith, d, e)) (omega (arith, d, e))

no_zero_first : (n : ℕ) (bytes : List ℕ) → n ≤ length bytes → 0 < n → (1 < n → get_or bytes 0 0 ≢ 48) → get_or (take n bytes) 0 0 ≡ 48 → length (take n bytes) ≡ 1
no_zero_first zero bytes within some h e = absurd (omega (arith, some))
no_zero_first (suc zero) bytes within some h e = length-take-le 1 bytes within
no_zero_first (suc (suc n)) bytes within some h e = absurd (h (omega arith) (sym (get_or-take (suc (suc n)) bytes 0 0 some) ∙ e))

-- digits with no 0 in front of others
pub number_first : (most n : ℕ) (bytes : List ℕ) → 0 < n → n ≤ length bytes → AllDigits 10 (take n bytes) → (1 < n → get_or bytes 0 0 ≢ 48) → (n < length bytes → is_gap (get_or bytes n 0) ≡ true) → digits_value 10 (take n bytes) ≤ most → next_number most (text_words bytes) ≡ Some (digits_value 10 (take n bytes), text_words (drop n bytes))
number_first most n bytes some within digits no_zero there small =
    let is : IsNumber (take n bytes) = record { digits = digit_texts.from _ digits; some = omega (arith, length-take-le n bytes within); no_zero = no_zero_first n bytes within some no_zero } in
    ap (next_number most) (words-run n bytes some within (digits_no_gap n bytes within digits) there) ∙ rw (number_of_some most (take n bytes) is small) refl
