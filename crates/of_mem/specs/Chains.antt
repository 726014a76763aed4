-- How the code finds an address among the entries. Each address has a home, its remainder by the
-- number of homes. The entries of one home are linked from the last to the first, and for each home
-- the number of its last entry is noted. An entry's number is its index plus 1. No public contract
-- uses these definitions.
use Rattle.std.specs.Prelude.{◌≡◌, ℕ, zero, suc, ◌<◌, ◌≤◌, ◌⊎◌, ◌==◌, ◌%◌, if◌then◌else◌, List, length, map}
use Rattle.std.proofs.Common.{get_or}
use Rattle.of_mem.specs.declared.index.Entry.{Entry}
use Rattle.of_mem.specs.CellMap.{entry_address}
use Rattle.of_mem.specs.Numbers.{FitsCell}

-- the pair of each entry: an address and the number written there
abbrev pub pairs_of : List Entry → List (ℕ × ℕ)
pairs_of es = map (λ (e : Entry). e.pair) es

-- for each entry, what it notes as the number of the last earlier entry with the same home
abbrev pub olders_of : List Entry → List ℕ
olders_of es = map (λ (e : Entry). e.older) es

-- the number of the last of the first n entries with the home h: its index plus 1; 0 if none of
-- them has this home
abbrev pub latest : (homes : ℕ) → List (ℕ × ℕ) → (home n : ℕ) → ℕ
latest homes es h zero = 0
latest homes es h (suc n) =
    if entry_address es n % homes == h then suc n else latest homes es h n

-- the note with the index k, 0 if there is none
abbrev pub note_at : List ℕ → ℕ → ℕ
note_at ns k = get_or ns k 0

-- for each home that some entry has, the note is the number of the home's last entry
abbrev pub HasFronts : (homes : ℕ) → List (ℕ × ℕ) → List ℕ → Type 0
HasFronts homes es fs =
    (h : ℕ) → h < homes → (latest homes es h (length es) ≡ 0)
    ⊎ (note_at fs h ≡ latest homes es h (length es))

-- for each entry, the note is the number of the last earlier entry with the same home, or 0
abbrev pub HasChains : (homes : ℕ) → List (ℕ × ℕ) → List ℕ → Type 0
HasChains homes es os =
    (k : ℕ) → k < length es → note_at os k ≡ latest homes es (entry_address es k % homes) k

-- The invariant of a write-set: no address is in two entries, every entry is found from the note of
-- its home, and the list's capacity is enough for an entry at each address below `room`.
pub record IsChained (homes room : ℕ) (es : List (ℕ × ℕ)) (os fs : List ℕ)
    (capacity : ℕ) : Type 0 where
  pub fits : FitsCell room
  pub spare : room ≤ capacity
  pub homes_noted : length fs ≡ homes
  pub linked : length os ≡ length es
  pub below : (k : ℕ) → k < length es → entry_address es k < room
  pub once : (j k : ℕ) → j < length es → k < length es
      → entry_address es j ≡ entry_address es k → j ≡ k
  pub fronts : HasFronts homes es fs
  pub chains : HasChains homes es os
