-- What a look at a cell says of what is known.
use Rattle.std.proofs.Common.{◌≡◌, Bool, true, false, Option, Some, None, is_some, ℕ}

-- a number that isn't there is none
pub unknown_there : (o : Option ℕ) → is_some o ≡ false → o ≡ None
unknown_there None e = cc
unknown_there (Some v) e = absurd (let z : ◌≡◌ {A = Bool} true false = e in cc)
