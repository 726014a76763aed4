-- The definitions that contracts use of a row, with a shape in place of the numbers of callers and
-- data cells.
use Rattle.std.specs.Prelude.{◌≡◌, ℕ, false, List, slice_index}
use Rattle.of_cell.specs.declared.shape.Shape.{Shape}
use Rattle.of_recover.specs.Row.{IsDurableRow, is_open}
use Rattle.of_recover.specs.Recovered.{recovered_words}
use Rattle.of_recover.specs.Renumbered.{renumbered_words, renumbering_writes}
use Rattle.of_recover.specs.Writes.{recovery_writes}

-- the list has a word for each cell of the shape
abbrev pub IsShapeRow : Shape → List ℕ → Type 0
IsShapeRow shape words = IsDurableRow shape.callers shape.cells words

-- the current transaction of this row is not open
abbrev pub IsClosed : Shape → List ℕ → Type 0
IsClosed shape words = is_open shape.callers (slice_index words) ≡ false

-- the row that a recovery makes of this row
abbrev pub row_after_recovery : Shape → List ℕ → List ℕ
row_after_recovery shape words = recovered_words shape.callers shape.cells words

-- the writes that a recovery of this row makes, in order
abbrev pub recovery_writes_of : Shape → List ℕ → List (ℕ × ℕ)
recovery_writes_of shape words = recovery_writes shape.callers shape.cells (slice_index words)

-- the row that a renumbering makes of this row
abbrev pub row_after_renumbering : Shape → List ℕ → List ℕ
row_after_renumbering shape words = renumbered_words shape.callers shape.cells words

-- the writes that a renumbering of this row makes, in order
abbrev pub renumbering_writes_of : Shape → List ℕ → List (ℕ × ℕ)
renumbering_writes_of shape words = renumbering_writes shape.callers shape.cells words
