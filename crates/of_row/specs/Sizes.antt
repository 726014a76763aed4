-- What a row is made for: its shape, its limit and its work.
use Rattle.std.specs.Prelude.{◌≡◌, ◌≤◌, ℕ}
use Rattle.of_cell.specs.declared.shape.Shape.{Shape}
use Rattle.of_mem.specs.declared.work.TheConstants.{MOST_INSTRS}
use Rattle.of_row.specs.declared.sizes.Sizes.TheInside.{Inside}

pub record Sizes (W : Type 0) : Type 0 where
  pub shape : Shape
  -- the last sequence that may be committed
  pub limit : ℕ
  -- the work, which runs the operations
  pub work : W

abbrev pub sizes_value : {W : Type 0} → Inside W → Sizes W
sizes_value m = record { shape = m.shape; limit = m.limit; work = m.work }

-- the shape has the callers and data cells that the work needs, and room for the script words of
-- the longest operation; the sequence after the limit still fits into a word
pub record SizesFit {W : Type 0} (many size : W → ℕ) (m : Sizes W) : Type 0 where
  pub callers : m.shape.callers ≡ many m.work
  pub instrs : m.shape.instrs ≡ MOST_INSTRS
  pub cells : m.shape.cells ≡ size m.work
  pub limit : m.limit ≤ 4294967294
