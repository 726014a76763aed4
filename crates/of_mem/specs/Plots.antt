-- The data cells of a plot: how many there are, and which cell is for what.
use Rattle.std.specs.Prelude.{◌≡◌, ◌<◌, ℕ}
use Rattle.of_mem.specs.declared.plot.Plot.{Plot}
use Rattle.of_mem.specs.declared.plot.TheConstants.{REGISTERS, QUEUES}
use Rattle.of_mem.specs.Places.{base_of, cells_at, ticket_cell_at, shape_at, reply_at, register_at, fresh_at, free_at, keys_at, bucket_count, bucket_at, head_at, tail_at, length_at, block_at}

-- the address of the first cell after the callers' own cells
abbrev pub base : Plot → ℕ
base p = base_of p.callers p.instrs

-- how many data cells the plot has: the callers' own cells and the cells of the store
abbrev pub data_cell_count : Plot → ℕ
data_cell_count p = cells_at (base p) p.blocks

-- The use of a data cell: what it is for. The numbers name a caller, a number of its reply, a
-- register, a bucket, a queue, or a block and its field.
pub data DataPlace : Type 0 where
  Ticket : ℕ → DataPlace
  Shape : ℕ → DataPlace
  Reply : ℕ → ℕ → DataPlace
  Register : ℕ → DataPlace
  Fresh : DataPlace
  Free : DataPlace
  Keys : DataPlace
  Bucket : ℕ → DataPlace
  Head : ℕ → DataPlace
  Tail : ℕ → DataPlace
  Length : ℕ → DataPlace
  Block : ℕ → ℕ → DataPlace

-- the plot has a data cell for this use: the numbers in the use are in range
abbrev pub HasPlace : Plot → DataPlace → Type 0
HasPlace p (Ticket caller) = caller < p.callers
HasPlace p (Shape caller) = caller < p.callers
HasPlace p (Reply caller place) = (caller < p.callers) × (place < p.instrs)
HasPlace p (Register r) = r < REGISTERS
HasPlace p Fresh = Unit {0}
HasPlace p Free = Unit {0}
HasPlace p Keys = Unit {0}
HasPlace p (Bucket b) = b < bucket_count p.blocks
HasPlace p (Head q) = q < QUEUES
HasPlace p (Tail q) = q < QUEUES
HasPlace p (Length q) = q < QUEUES
HasPlace p (Block b field) = (b < p.blocks) × (field < 3)

-- the address of the data cell for this use
abbrev pub cell_for : Plot → DataPlace → ℕ
cell_for p (Ticket caller) = ticket_cell_at p.instrs caller
cell_for p (Shape caller) = shape_at p.instrs caller
cell_for p (Reply caller place) = reply_at p.instrs caller place
cell_for p (Register r) = register_at (base p) r
cell_for p Fresh = fresh_at (base p)
cell_for p Free = free_at (base p)
cell_for p Keys = keys_at (base p)
cell_for p (Bucket b) = bucket_at (base p) p.blocks b
cell_for p (Head q) = head_at (base p) q
cell_for p (Tail q) = tail_at (base p) q
cell_for p (Length q) = length_at (base p) q
cell_for p (Block b field) = block_at (base p) b field

-- data cells for different uses have different addresses, all below the number of data cells
pub record CellPlacesDiffer (p : Plot) : Type 0 where
  pub below : (x : DataPlace) → HasPlace p x → cell_for p x < data_cell_count p
  pub differ : (x y : DataPlace) → HasPlace p x → HasPlace p y → cell_for p x ≡ cell_for p y → x ≡ y
