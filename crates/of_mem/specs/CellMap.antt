-- Maps from addresses to numbers: lists of pairs of an address and its number, in order of first
-- writing.
use Rattle.std.specs.Prelude.{◌≡◌, ℕ, ◌<◌, ◌==◌, List, [], ◌∷◌, ◌++◌, length, Option, Some, None, if◌then◌else◌}
use Rattle.std.proofs.Common.{get_or}

-- the number of the first pair with address a; None if no pair has it
abbrev pub value_for : List (ℕ × ℕ) → ℕ → Option ℕ
value_for [] a = None
value_for (e ∷ es) a = if e.0 == a then Some e.1 else value_for es a

-- the list after number v is written at address a: the first pair with this address gets v, and if
-- there is none, (a, v) is added at the end
abbrev pub put_pair : List (ℕ × ℕ) → ℕ → ℕ → List (ℕ × ℕ)
put_pair [] a v = (a, v) ∷ []
put_pair (e ∷ es) a v = if e.0 == a then (a, v) ∷ es else e ∷ put_pair es a v

-- the list as it is if the address has an entry in it; otherwise the list with (a, v) added at the
-- end
abbrev pub with_last_pair : List (ℕ × ℕ) → ℕ → ℕ → Option ℕ → List (ℕ × ℕ)
with_last_pair es a v None = es ++ (a, v) ∷ []
with_last_pair es a v (Some place) = es

-- the first list after all pairs of the second are written into it, in order
abbrev pub put_all : List (ℕ × ℕ) → List (ℕ × ℕ) → List (ℕ × ℕ)
put_all es [] = es
put_all es (d ∷ ds) = put_all (put_pair es d.0 d.1) ds

-- the address of entry k, counted from 0
abbrev pub entry_address : List (ℕ × ℕ) → ℕ → ℕ
entry_address es k = (get_or es k (0, 0)).0

-- no entry has address a
abbrev pub IsAbsent : List (ℕ × ℕ) → ℕ → Type 0
IsAbsent es a = (k : ℕ) → k < length es → entry_address es k ≡ a → ⊥

-- entry k exists and has address a
abbrev pub IsEntryFor : List (ℕ × ℕ) → ℕ → ℕ → Type 0
IsEntryFor es a k = (k < length es) × (entry_address es k ≡ a)
