-- How code reads a text line by line, whatever the lines are: what the words of a line say, and
-- what a line leads to.
use Rattle.std.specs.Prelude.{◌≡◌, ℕ, ◌⊎◌, true, false, List, [], ◌∷◌, Option, Some, None}
use Rattle.of_script.specs.Reading.{◌>>=◌}
use Rattle.of_plan.specs.Lines.{is_skipped}

-- a kind of lines, the words of each line, and which lines are in range
pub record Language : Type 1 where
  pub Line : Type 0
  pub words_of : Line → List (List ℕ)
  pub InRange : Line → Type 0

-- how lines of a language are read: what a reading has found so far, and what it has found after
-- one more line; None if this line may not come next
pub record Reader (L : Language) : Type 1 where
  pub Progress : Type 0
  pub next : Progress → L.Line → Option Progress

-- what a reading has found after these lines; None if one of them may not come next
abbrev pub after_lines : (L : Language) (R : Reader L) → R.Progress → List L.Line
    → Option R.Progress
after_lines L R p [] = Some p
after_lines L R p (l ∷ ls) = R.next p l >>= λ q. after_lines L R q ls

-- the words are those of this line, which is in range and isn't skipped
pub record SpellsLine (L : Language) (ws : List (List ℕ)) (l : L.Line) : Type 0 where
  pub kept : is_skipped ws ≡ false
  pub words : ws ≡ L.words_of l
  pub range : L.InRange l

-- either the words are a skipped line, and the reading `p` stays as it was; or they are a line of
-- the language, and the reading after it is `q`
abbrev pub ReadsLine : (L : Language) (R : Reader L) → List (List ℕ) → R.Progress → R.Progress
    → Type 0
ReadsLine L R ws p q =
    ((is_skipped ws ≡ true) × (p ≡ q))
    ⊎ ((l : L.Line) × SpellsLine L ws l × (R.next p l ≡ Some q))

-- the words are not skipped, and are no line that may come next at `p`
pub record RefusesLine (L : Language) (R : Reader L) (ws : List (List ℕ)) (p : R.Progress)
    : Type 0 where
  pub kept : is_skipped ws ≡ false
  pub none : (l : L.Line) → L.InRange l → ws ≡ L.words_of l → R.next p l ≡ None
