-- Texts one after another.
use Rattle.std.specs.Prelude.{ℕ, zero, suc, List}
use Rattle.of_plan.specs.Parts.{AreParts}

-- `part` is the part of the text with this number, counted from 1; the parts come one after another
abbrev pub IsPart : (number : ℕ) → (text part : List ℕ) → Type 0
IsPart zero text part = ⊥
IsPart (suc zero) text part = (rest : List ℕ) × AreParts text part rest
IsPart (suc (suc n)) text part =
    (first : List ℕ) × (rest : List ℕ) × AreParts text first rest × IsPart (suc n) rest part
