-- What is known of the cells of a queue between the parts of a push or of a pop.
use Rattle.std.specs.Prelude.{◌≡◌, ℕ, ◌+◌, ◌<◌, ◌≤◌, List, ◌∷◌, length, Some}
use Rattle.of_mem.specs.declared.plot.Plot.{Plot}
use Rattle.of_mem.specs.declared.plot.TheConstants.{QUEUES}
use Rattle.of_mem.specs.Numbers.{FitsCell}
use Rattle.of_mem.specs.Places.{tail_at, length_at}
use Rattle.of_mem.specs.Plots.{base, data_cell_count}
use Rattle.of_mem.specs.Part.{Part, newest_at}
use Rattle.of_mem.specs.Programs.{IsPartOf}
use Rattle.of_mem.specs.Stores.{queue_chain, CellStore}
use Rattle.of_mem.specs.Calls.{PlotStandsForStore}
use Rattle.of_alloc.specs.Blocks.{HasOut}

-- q is the number of a queue, and block b is one of the plot's. If they are known, the pointer to
-- the last block of queue q is at most the number of blocks, and the count of its items can grow by
-- 1 and still fit into a cell.
pub record CanAppend (plot : Plot) (p : Part) (q b : ℕ) : Type 0 where
  pub fits : length p.known ≡ data_cell_count plot
  pub queue : q < QUEUES
  pub below : b < plot.blocks
  pub tail : (t : ℕ) → newest_at p (tail_at (base plot) q) ≡ Some t → t ≤ plot.blocks
  pub items : (n : ℕ) → newest_at p (length_at (base plot) q) ≡ Some n → FitsCell (n + 1)

-- the count of items of queue q, if it is known, is at least 1, so 1 can be taken off
pub record CanCount (plot : Plot) (p : Part) (q : ℕ) : Type 0 where
  pub fits : length p.known ≡ data_cell_count plot
  pub queue : q < QUEUES
  pub items : (n : ℕ) → newest_at p (length_at (base plot) q) ≡ Some n → 1 ≤ n

-- the partial memory agrees with some memory that stands for a store, and in it block b is the
-- first of queue q
pub record IsFront (plot : Plot) (p : Part) (q b : ℕ) : Type 0 where
  pub fits : length p.known ≡ data_cell_count plot
  pub queue : q < QUEUES
  pub memory : ℕ → ℕ
  pub store : CellStore
  pub part : IsPartOf p memory
  pub stands : PlotStandsForStore plot memory store
  pub rest : List ℕ
  pub front : stands.chains (queue_chain plot.blocks q) ≡ b ∷ rest

-- block b is out, and the count of items of queue q still includes the item that it held
pub record IsPopped (plot : Plot) (p : Part) (q b : ℕ) : Type 0 where
  pub queue : q < QUEUES
  pub block : HasOut plot p b
  pub items : 1 ≤ block.memory (length_at (base plot) q)
