-- A text that is read line by line.
use Rattle.std.proofs.Common.{◌≡◌, ℕ, List, [], ◌∷◌, ◌++◌, Option, Some, None, sym, ap, ◌∙◌, append_assoc}
use Rattle.std.specs.Prelude.{MatchOption}
use denote.Ref.{Bor}
use Rattle.of_script.specs.Text.{text_words}
use Rattle.of_plan.specs.Lines.{text_lines}
use Rattle.of_check.specs.Claims.{lines_of, onto_read, read_lines}

-- the line that is cut off, and those that are left
pub lines_cut : (o : Option (Bor (List ℕ))) (ls : List (List ℕ)) (line : List ℕ) → MatchOption o (ls ≡ line ∷ []) (λ rest. ls ≡ line ∷ text_lines rest.now) → ls ≡ line ∷ lines_of o
lines_cut None ls line parts = parts
lines_cut (Some rest) ls line parts = parts

-- one line more is read
pub read_next : {X : Type 0} (read : List (List ℕ) → Option X) (xs : List X) (ls : List (List ℕ)) (line : List ℕ) (rest : List (List ℕ)) (x : X) → ls ≡ line ∷ rest → read (text_words line) ≡ Some x → (xs ++ x ∷ []) ++ read_lines read rest ≡ xs ++ read_lines read ls
read_next {X = X} read xs ls line rest x here is =
    append_assoc xs (x ∷ []) (read_lines read rest)
    ∙ ap (λ (ys : List X). xs ++ ys) (sym (ap (read_lines read) here ∙ ap (λ (o : Option X). onto_read o (read_lines read rest)) is))
