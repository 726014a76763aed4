-- The known number and the newest number of each cell, kept only for cells that were touched.
use Rattle.std.specs.Prelude.{◌≡◌, ℕ, Bool, true, false, List, [], ◌∷◌, Option, Some, None}
use Rattle.std.proofs.Common.{get_or, set, replicate}

pub record TouchedCells : Type 0 where
  -- the known number of each cell, or None
  pub known : List (Option ℕ)
  -- the newest number of each cell, or None
  pub newest : List (Option ℕ)

-- n cells, none of which has a number
abbrev pub no_cells : ℕ → TouchedCells
no_cells n = record { known = replicate n None; newest = replicate n None }

-- A list of n cells, each with one of its two numbers, as `part` chooses. The cell that entry k of
-- es names has a number of entry k of hs, and every other cell has none.
abbrev pub slots_of : (Option ℕ × Option ℕ → Option ℕ) → ℕ → List (ℕ × ℕ)
    → List (Option ℕ × Option ℕ) → List (Option ℕ)
slots_of part n [] hs = replicate n None
slots_of part n (e ∷ es) [] = replicate n None
slots_of part n (e ∷ es) (h ∷ hs) = set (slots_of part n es hs) e.0 (part h)

-- A list of n cells with the known and the newest number of each. The cell that entry k of es names
-- has the numbers of entry k of hs, and every other cell has none.
abbrev pub cells_of : ℕ → List (ℕ × ℕ) → List (Option ℕ × Option ℕ) → TouchedCells
cells_of n es hs = record {
  known = slots_of (λ (h : Option ℕ × Option ℕ). h.0) n es hs;
  newest = slots_of (λ (h : Option ℕ × Option ℕ). h.1) n es hs;
}

-- If the flag is true, the cell a had no number, and v became its known and its newest number.
-- Otherwise nothing changed.
abbrev pub Meets : (old new : TouchedCells) → (address number : ℕ) → Bool → Type 0
Meets old new a v true =
    (get_or old.known a None ≡ None) × (get_or old.newest a None ≡ None)
    × (new ≡ record { known = set old.known a (Some v); newest = set old.newest a (Some v) })
Meets old new a v false = new ≡ old
