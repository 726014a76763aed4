-- When data cells stand for a store of scripts.
use Rattle.std.specs.Prelude.{◌≡◌, ℕ, length}
use Rattle.of_mem.specs.declared.plot.Plot.{Plot}
use Rattle.of_mem.specs.Plots.{base, data_cell_count}
use Rattle.of_mem.specs.Part.{Part}
use Rattle.of_mem.specs.Programs.{IsPartOf}
use Rattle.of_mem.specs.Stores.{CellStore, StandsForStore}
use Rattle.of_store.specs.Store.{Store, IsState, queue}

-- the store s as plain data, in the form in which cells stand for it
abbrev pub cell_store : Store → CellStore
cell_store s = record {
  registers = s.registers;
  map = s.keys;
  queues = λ q. queue s q;
  room = s.room;
}

-- The cells from `o` on stand for the store s, which is in range and has room for `blocks` keys and
-- items.
pub record IsStored (o blocks : ℕ) (m : ℕ → ℕ) (s : Store) : Type 0 where
  pub state : IsState s
  pub stands : StandsForStore o blocks m (cell_store s)

-- the partial memory has as many cells as the plot, and agrees with some memory that stands for a
-- store
pub record HasState (plot : Plot) (p : Part) : Type 0 where
  pub fits : length p.known ≡ data_cell_count plot
  pub memory : ℕ → ℕ
  pub state : Store
  pub part : IsPartOf p memory
  pub stored : IsStored (base plot) plot.blocks memory state
