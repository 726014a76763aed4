-- The cells of a shape have different numbers, and the words of its table different places.
use Rattle.std.proofs.Common.{◌≡◌, ℕ, ◌+◌, ◌*◌, ◌<◌, ◌≤◌, ◌⊎◌, inl, inr, refl, ap, arith}
use Rattle.std.proofs.lemmas.Bool.{cases_order}
use Rattle.of_cell.specs.Cells.{log_room}
use Rattle.of_cell.specs.Named.{Current, Request, DataCell, LogCount, LogAddr, LogValue, CellsDiffer, CellsBelow, CellWord, DurableWord, ScriptWord, Announcement, Members, WordPlacesDiffer, PlacesBelow}

-- of n rows of width k, row i ends where the last ends, or before
pub row_within : (i n k : ℕ) → i < n → i * k + k ≤ n * k
row_within i n k h = grind arith

-- rows of width k don't overlap
pub same_row : (i j k x y : ℕ) → x < k → y < k → i * k + x ≡ j * k + y → (i ≡ j) × (x ≡ y)
same_row i j k x y hx hy e = go (cases_order i j)
  where
    go : (i ≡ j) ⊎ (i < j) ⊎ (j < i) → (i ≡ j) × (x ≡ y)
    go (inl same) = (same, (let f : i * k ≡ j * k = ap (λ (r : ℕ). r * k) same in omega arith))
    go (inr (inl less)) = absurd (omega (arith, row_within i j k less))
    go (inr (inr more)) = absurd (omega (arith, row_within j i k more))

pub cells_below : (callers cells : ℕ) → CellsBelow callers cells
cells_below n m Current h = omega arith
cells_below n m (Request i) h = omega arith
cells_below n m (DataCell a) h = omega arith
cells_below n m (LogCount i) h = omega (arith, row_within i n (2 * log_room n m + 1) h)
cells_below n m (LogAddr i j) h = omega (arith, row_within i n (2 * log_room n m + 1) h.0)
cells_below n m (LogValue i j) h = omega (arith, row_within i n (2 * log_room n m + 1) h.0)

-- two log cells of one number are one word of one log
same_log : (n m i j x y : ℕ) → x < 2 * log_room n m + 1 → y < 2 * log_room n m + 1 → n + 1 + m + i * (2 * log_room n m + 1) + x ≡ n + 1 + m + j * (2 * log_room n m + 1) + y → (i ≡ j) × (x ≡ y)
same_log n m i j x y hx hy e = same_row i j (2 * log_room n m + 1) x y hx hy (omega arith)

pub cells_differ : (callers cells : ℕ) → CellsDiffer callers cells
cells_differ n m Current Current h k e = refl
cells_differ n m (Request i) (Request j) h k e = ap Request (omega arith)
cells_differ n m (DataCell a) (DataCell b) h k e = ap DataCell (omega arith)
cells_differ n m (LogCount i) (LogCount j) h k e = ap LogCount (same_log n m i j 0 0 (omega arith) (omega arith) e).0
cells_differ n m (LogCount i) (LogAddr j b) h k e = absurd (omega (arith, (same_log n m i j 0 (2 * b + 1) (omega arith) (omega arith) e).1))
cells_differ n m (LogCount i) (LogValue j b) h k e = absurd (omega (arith, (same_log n m i j 0 (2 * b + 2) (omega arith) (omega arith) e).1))
cells_differ n m (LogAddr i a) (LogCount j) h k e = absurd (omega (arith, (same_log n m i j (2 * a + 1) 0 (omega arith) (omega arith) e).1))
cells_differ n m (LogAddr i a) (LogAddr j b) h k e = let s = same_log n m i j (2 * a + 1) (2 * b + 1) (omega arith) (omega arith) e in let t : a ≡ b = omega (arith, s.1) in cc (s.0)
cells_differ n m (LogAddr i a) (LogValue j b) h k e = absurd (omega (arith, (same_log n m i j (2 * a + 1) (2 * b + 2) (omega arith) (omega arith) e).1))
cells_differ n m (LogValue i a) (LogCount j) h k e = absurd (omega (arith, (same_log n m i j (2 * a + 2) 0 (omega arith) (omega arith) e).1))
cells_differ n m (LogValue i a) (LogAddr j b) h k e = absurd (omega (arith, (same_log n m i j (2 * a + 2) (2 * b + 1) (omega arith) (omega arith) e).1))
cells_differ n m (LogValue i a) (LogValue j b) h k e = let s = same_log n m i j (2 * a + 2) (2 * b + 2) (omega arith) (omega arith) e in let t : a ≡ b = omega (arith, s.1) in cc (s.0)
cells_differ n m c d h k e = absurd (omega arith)

pub places_below : (callers instrs cells : ℕ) → PlacesBelow callers instrs cells
places_below n l m (CellWord c) h = omega arith
places_below n l m (DurableWord c) h = omega arith
places_below n l m (ScriptWord i x) h = omega (arith, row_within i n (l + 1) h.0)
places_below n l m (Announcement i) h = omega (arith, row_within i n (l + 1) h)
places_below n l m Members h = omega arith

-- two script words or announcements of one place are one
same_said : (d l i j x y : ℕ) → x < l + 1 → y < l + 1 → d + d + i * (l + 1) + x ≡ d + d + j * (l + 1) + y → (i ≡ j) × (x ≡ y)
same_said d l i j x y hx hy e = same_row i j (l + 1) x y hx hy (omega arith)

pub places_differ : (callers instrs cells : ℕ) → WordPlacesDiffer callers instrs cells
places_differ n l m (CellWord c) (CellWord d) h k e = ap CellWord e
places_differ n l m (DurableWord c) (DurableWord d) h k e = ap DurableWord (omega arith)
places_differ n l m (ScriptWord i x) (ScriptWord j y) h k e = let s = same_said _ l i j x y (omega arith) (omega arith) e in cc (s.0, s.1)
places_differ n l m (ScriptWord i x) (Announcement j) h k e = absurd (omega (arith, (same_said _ l i j x l (omega arith) (omega arith) e).1))
places_differ n l m (ScriptWord i x) Members h k e = absurd (omega (arith, row_within i n (l + 1) h.0))
places_differ n l m (Announcement i) (ScriptWord j y) h k e = absurd (omega (arith, (same_said _ l i j l y (omega arith) (omega arith) e).1))
places_differ n l m (Announcement i) (Announcement j) h k e = ap Announcement (same_said _ l i j l l (omega arith) (omega arith) e).0
places_differ n l m (Announcement i) Members h k e = absurd (omega (arith, row_within i n (l + 1) h))
places_differ n l m Members (ScriptWord j y) h k e = absurd (omega (arith, row_within j n (l + 1) k.0))
places_differ n l m Members (Announcement j) h k e = absurd (omega (arith, row_within j n (l + 1) k))
places_differ n l m Members Members h k e = refl
places_differ n l m v w h k e = absurd (omega arith)
