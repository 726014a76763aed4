-- How many turns of a count are left.
use Rattle.std.proofs.Common.{◌≡◌, ℕ, suc, ◌+◌, ◌-◌, ◌<◌, ◌≤◌, arith}

-- there is one left
pub turn : (n i : ℕ) → i < n → n - i ≡ suc (n - (i + 1))
turn n i l = omega arith

pub none_left : (n i : ℕ) → n ≤ i → n - i ≡ 0
none_left n i l = omega arith

pub whole : (n : ℕ) → n ≡ n - 0
whole n = omega arith
