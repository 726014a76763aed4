-- The bad line of a text, for any set of texts: the first line with which no text of the set
-- begins.
use Rattle.std.specs.Prelude.{◌≡◌, ℕ, ◌≤◌, ◌<◌, ◌⊎◌, List, length, take}
use Rattle.of_plan.specs.Lines.{text_lines}

-- the first `j` lines of the text are also the first `j` lines of some text of the set
pub record BeginsSomeText (Is : List ℕ → Type 0) (text : List ℕ) (j : ℕ) : Type 0 where
  pub other : List ℕ
  pub is : Is other
  pub same : take j (text_lines text) ≡ take j (text_lines other)

-- line `j`, counted from 1, is the first with which no text of the set begins; or it is the last
-- line, if the text only stops too early
pub record IsBadLine (Is : List ℕ → Type 0) (text : List ℕ) (j : ℕ) : Type 0 where
  pub first : 1 ≤ j
  pub last : j ≤ length (text_lines text)
  pub before : (k : ℕ) → k < j → BeginsSomeText Is text k
  pub there : (BeginsSomeText Is text j → ⊥) ⊎ (j ≡ length (text_lines text))

-- the text isn't in the set, and this is its bad line
pub record HasBadLine (Is : List ℕ → Type 0) (text : List ℕ) (line : ℕ) : Type 0 where
  pub bad : IsBadLine Is text line
  pub none : Is text → ⊥
