-- The two parts of an input.
use Rattle.std.specs.Prelude.{◌≡◌, ◌⊎◌, ℕ, List, [], ◌∷◌, ◌++◌, All, codes}
use Rattle.of_script.specs.Text.{text_words}
use Rattle.of_plan.specs.Lines.{text_lines}

-- the only word of the line is `end`
abbrev pub IsEndLine : List ℕ → Type 0
IsEndLine line = text_words line ≡ codes "end" ∷ []

-- the text ends with its first end line and the newline of that line
pub record StopsAtEnd (text : List ℕ) : Type 0 where
  pub before : List (List ℕ)
  pub last : List ℕ
  pub each : text_lines text ≡ before ++ last ∷ [] ∷ []
  pub none_before : All (λ line. IsEndLine line → ⊥) before
  pub end : IsEndLine last

-- no line of the text that has a newline is an end line
pub record NeverEnds (text : List ℕ) : Type 0 where
  pub before : List (List ℕ)
  pub last : List ℕ
  pub each : text_lines text ≡ before ++ last ∷ []
  pub none : All (λ line. IsEndLine line → ⊥) before

-- the text is these two parts; the first ends with the first end line that has a newline, and if
-- there is none, it is the whole text
pub record AreParts (text first second : List ℕ) : Type 0 where
  pub whole : text ≡ first ++ second
  pub cut : StopsAtEnd first ⊎ (NeverEnds text × (second ≡ []))

-- a text has only one pair of parts
abbrev pub HasOneCut : Type 0
HasOneCut =
    (text first second one other : List ℕ) → AreParts text first second → AreParts text one other
    → (first ≡ one) × (second ≡ other)
