-- A piece of a line that is at fault, and the words before it.
use Rattle.std.specs.Prelude.{◌≡◌, ◌⊎◌, ℕ, List, [], ◌∷◌, ◌++◌, length}
use Rattle.of_script.specs.Text.{text_words, EndsWith}
use Rattle.of_plan.specs.declared.pieces.Piece.{Piece}

-- the piece is the word after the words `before`, and the bytes `after` hold the others; or there
-- is no further word, and the piece and `after` are empty
abbrev pub IsWholePiece : (words before : List (List ℕ)) (piece after : List ℕ) → Type 0
IsWholePiece words before piece after =
    (words ≡ before ++ piece ∷ text_words after)
    ⊎ ((words ≡ before) × (piece ≡ []) × (after ≡ []))

-- `b` is a whole word of the bytes, or their end; and the fact `Is` holds of the words before this
-- word and of the word itself
pub record IsBad (bytes : List ℕ) (b : Piece) (Is : List (List ℕ) → List ℕ → Type 0) : Type 0 where
  pub before : List (List ℕ)
  pub piece : List ℕ
  pub after : List ℕ
  pub parts : EndsWith bytes (piece ++ after)
  pub size : b.size ≡ length piece
  pub left : b.left ≡ length after
  pub whole : IsWholePiece (text_words bytes) before piece after
  pub is : Is before piece

-- the first of these words; empty if there is none
abbrev pub first_word : List (List ℕ) → List ℕ
first_word [] = []
first_word (w ∷ ws) = w

-- the piece is the first word of these bytes, or their end if they have no word
abbrev pub IsNextWord : (bytes : List ℕ) → Piece → Type 0
IsNextWord bytes b =
    IsBad bytes b (λ before piece. (before ≡ []) × (piece ≡ first_word (text_words bytes)))
