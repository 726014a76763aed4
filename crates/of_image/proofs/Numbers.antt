-- Where a number is wanted that may be more than 0, the first word is read.
use Rattle.std.proofs.Common.{◌≡◌, ℕ, ◌≤◌, inl, inr, List, refl, arith}
use Rattle.std.proofs.lemmas.Bool.Decides.{eqb_tells}
use Rattle.of_script.specs.Reading.{slot_and_rest, next_number}

pub slot_number : (most : ℕ) (ws : List (List ℕ)) → 1 ≤ most → slot_and_rest most ws ≡ next_number most ws
slot_number most ws some = elim (eqb_tells most 0) [ inl zero ↦ absurd (omega (arith, zero.1, some)) | inr other ↦ rw other.0 refl ]
