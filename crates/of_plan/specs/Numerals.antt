-- Which words are numerals.
use Rattle.std.specs.Prelude.{◌≡◌, ℕ, ◌<◌, List, length, slice_index, true}
use Rattle.std.specs.Str.{all_ascii_digits}

-- the word is digits, at least one, with no 0 in front of others
pub record IsNumeral (word : List ℕ) : Type 0 where
  pub digits : all_ascii_digits word ≡ true
  pub some : 0 < length word
  pub no_zero : slice_index word 0 ≡ 48 → length word ≡ 1
