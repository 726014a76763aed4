use Rattle.std.proofs.Common.{◌≡◌, ℕ, zero, suc, List, [], ◌∷◌, get_or, map, Option, Some, None, refl, ap}
use Rattle.std.specs.Option.{unwrap_or}
use Rattle.of_eval.proofs.laws.replies_are_held.Goals as goal

-- a number that is there is written
written_number : (vs : List (Option ℕ)) (i v : ℕ) → get_or vs i None ≡ Some v → get_or (map (λ o. unwrap_or o 0) vs) i 0 ≡ v
written_number [] i v e = absurd cc
written_number (x ∷ vs) zero v e = ap (λ (o : Option ℕ). unwrap_or o 0) e
written_number (x ∷ vs) (suc i) v e = written_number vs i v e

pub returns : goal.returns
returns c r whole = (whole, record { shape = refl; numbers = written_number r.values })
