-- What functions answer that read a number or an instruction from the front of a text.
use Rattle.std.specs.Prelude.{◌≡◌, ℕ, List, MatchOption, Option, Some, None}
use denote.Ref.{Bor}
use Rattle.of_script.specs.declared.instr.Instr.{Instr}
use Rattle.of_script.specs.Text.{text_words}

-- the answer is the wanted number and the text whose words are the other words, or None if None is
-- wanted
abbrev pub HasReadNumber : Option (ℕ × List (List ℕ)) → Option (ℕ × Bor (List ℕ)) → Type 0
HasReadNumber wanted answer =
    MatchOption answer (wanted ≡ None) (λ x. wanted ≡ Some (x.0, text_words x.1.now))

-- the answer is the wanted instruction and the text whose words are the other words, or None if
-- None is wanted
abbrev pub HasReadFront : Option (Instr × List (List ℕ)) → Option (Instr × Bor (List ℕ)) → Type 0
HasReadFront wanted answer =
    MatchOption answer (wanted ≡ None) (λ x. wanted ≡ Some (x.0, text_words x.1.now))
