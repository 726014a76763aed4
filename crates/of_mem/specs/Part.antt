-- Partial memory: the known number of each cell, the writes of a batch over these, and the writes
-- of a script over both.
use Rattle.std.specs.Prelude.{◌≡◌, ℕ, Bool, true, false, Result, MatchResult, List, [], ◌∷◌, Option, Some, None}
use Rattle.std.proofs.Common.{get_or, set, replicate}
use Rattle.of_mem.specs.declared.part.Need.{Need}
use Rattle.of_mem.specs.CellMap.{value_for, put_pair, put_all}

-- `known` has a number or None for each cell. `batch` and `script` have the writes, each a cell and
-- its number, in order of first writing.
pub record Part : Type 0 where
  pub known : List (Option ℕ)
  pub batch : List (ℕ × ℕ)
  pub script : List (ℕ × ℕ)

-- the partial memory of n cells in which no cell is known and nothing is written
abbrev pub empty_part : ℕ → Part
empty_part n = record { known = replicate n None; batch = []; script = [] }

-- the script's writes move to the batch; they replace the batch's writes to the same cells
abbrev pub keep : Part → Part
keep p = record p { batch = put_all p.batch p.script; script = [] }

-- the first number if there is one, otherwise the second
abbrev pub newer_of : Option ℕ → Option ℕ → Option ℕ
newer_of None old = old
newer_of (Some v) old = Some v

-- the newest number of cell a: the script's write, or else the batch's, or else the known number;
-- None if there is none of these
unfoldable pub newest_at : Part → ℕ → Option ℕ
newest_at p a =
    newer_of (value_for p.script a) (newer_of (value_for p.batch a) (get_or p.known a None))

-- the partial memory after the number v of cell a becomes known
abbrev pub learn : Part → ℕ → ℕ → Part
learn p a v = record p { known = set p.known a (Some v) }

-- the partial memory after the script writes number v to cell a
unfoldable pub write : Part → ℕ → ℕ → Part
write p a v = record p { script = put_pair p.script a v }

-- a read of cell a answered the cell's newest number; or its error names the cell, and no number of
-- the cell is known
abbrev pub ReadsAt : Part → ℕ → Result ℕ Need → Type 0
ReadsAt p a result =
    MatchResult result (λ v. newest_at p a ≡ Some v)
    (λ need. (newest_at p a ≡ None) × (need.addr ≡ a))

-- each cell known in the second list is known with the same number in the first
abbrev pub Extends : List (Option ℕ) → List (Option ℕ) → Type 0
Extends more known = (a v : ℕ) → get_or known a None ≡ Some v → get_or more a None ≡ Some v

-- the partial memory as it is, or without the script's writes if the flag is true
abbrev pub visible : Bool → Part → Part
visible true p = record p { script = [] }
visible false p = p

-- the same partial memory with this list of known cells in place of its own
abbrev pub with_known : List (Option ℕ) → Part → Part
with_known more p = record p { known = more }

-- the known cells with these writes put over them; if two writes are to one cell, the first of them
-- counts
abbrev pub overlaid : List (Option ℕ) → List (ℕ × ℕ) → List (Option ℕ)
overlaid known [] = known
overlaid known (e ∷ es) = set (overlaid known es) e.0 (Some e.1)
