-- What a brake shows: how often it denied a step, and how many steps are left.
use Rattle.std.specs.Prelude.{◌≡◌, ℕ, ◌≤◌, ◌+◌, ◌-◌, ◌^◌, ◌==◌, min, Bool, true, false, Option, Some, None, List}
use Rattle.std.specs.List.{list_any}

-- the next number of a count of 64 bits, which stays at 2 ^ 64 - 1 once it is there
abbrev pub saturating_next : ℕ → ℕ
saturating_next n = min (n + 1) (2 ^ 64 - 1)

-- the count rose from `before` to `now`, or it is at its greatest number, 2 ^ 64 - 1
abbrev pub HasRisen : (before now : ℕ) → Type 0
HasRisen before now = saturating_next before ≤ now

-- after a brake was armed with `stop`, it has `stop` steps left, if it reports its steps left;
-- otherwise it reports none before and after
abbrev pub IsArmedWith : (before : Option (Option ℕ)) → (stop : Option ℕ)
    → (after : Option (Option ℕ)) → Type 0
IsArmedWith None stop after = after ≡ None
IsArmedWith (Some left) stop after = after ≡ Some stop

-- The brake denies the ask exactly if no step is left; a granted ask takes one step off. If the
-- steps left are None, there is no limit, and every ask is granted.
abbrev pub ChargesAskFrom : (before after : Option ℕ) → (granted : Bool) → Type 0
ChargesAskFrom None after granted = (after ≡ None) × (granted ≡ true)
ChargesAskFrom (Some left) after true = (n : ℕ) × (left ≡ n + 1) × (after ≡ Some n)
ChargesAskFrom (Some left) after false = (left ≡ 0) × (after ≡ Some 0)

-- if the brake reports its steps left, the ask is denied or takes one step off; whether the brake
-- reports its steps left never changes
abbrev pub ChargesAsk : (before after : Option (Option ℕ)) → (granted : Bool) → Type 0
ChargesAsk None after granted = after ≡ None
ChargesAsk (Some left) None granted = ⊥
ChargesAsk (Some left) (Some rest) granted = ChargesAskFrom left rest granted

-- whether the number is in the list
abbrev pub is_listed : ℕ → List ℕ → Bool
is_listed n xs = list_any (λ m. m == n) xs

-- if the brake counts the answered calls, this count went up by one
abbrev pub HasHeardAnswer : (before after : Option ℕ) → Type 0
HasHeardAnswer None after = after ≡ None
HasHeardAnswer (Some n) after = after ≡ Some (saturating_next n)

-- if the brake counts how often it is asked, this count went up by one
abbrev pub Asked : (before after : Option ℕ) → Type 0
Asked None after = after ≡ None
Asked (Some n) after = after ≡ Some (saturating_next n)
