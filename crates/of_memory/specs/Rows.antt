-- A row of scripts: cells that stand for a store.
use Rattle.std.specs.Prelude.{◌≡◌, ℕ, ◌≤◌, List, length, map}
use Rattle.of_cell.specs.Words.{payload_of}
use Rattle.of_cell.specs.declared.word.TheConstants.{GREATEST_LIMIT}
use Rattle.of_mem.specs.ProgramWork.{memory_of}
use Rattle.of_script.specs.declared.instr.TheConstants.{MOST_INSTRS}
use Rattle.of_store.specs.Store.{Store}
use Rattle.of_eval.specs.declared.scripts.Scripts.{Scripts}
use Rattle.of_eval.specs.Scripts.{store_at, scripts_data_cells, scripts_meaning}
use Rattle.of_eval.specs.Stored.{IsStored}
use Rattle.of_eval.specs.Faults.{AllOwnCellsAreSound}
use Rattle.of_core.specs.TableMoment.{TableStart}
use Rattle.of_row.specs.declared.row.Row.{Row}
use Rattle.of_row.specs.Rows.{key_of}
use Rattle.of_cells.specs.Serving as generic
use Rattle.of_cells.specs.Serving.{cells_at_start}

-- data cells with these numbers stand for this store
abbrev pub StandFor : Scripts → (cells : List ℕ) → Store → Type 0
StandFor w cells s = IsStored (store_at w) w.blocks (memory_of cells) s

-- data cells with these numbers hold a reply to the last call of each caller that has made one
abbrev pub HoldLastReplies : Scripts → (cells : List ℕ) → Type 0
HoldLastReplies w cells = AllOwnCellsAreSound MOST_INSTRS (memory_of cells) w.callers

-- the data cells of the start stand for this store
abbrev pub StandsAt : Scripts → TableStart → Store → Type 0
StandsAt w B s = StandFor w (map payload_of B.cells) s

-- the data cells of the start hold a reply to the last call of each caller that has made one
abbrev pub HoldsLastReplies : Scripts → TableStart → Type 0
HoldsLastReplies w B = HoldLastReplies w (map payload_of B.cells)

-- how many calls a caller had made before the row's start
abbrev pub made_before : Row Scripts → ℕ → ℕ
made_before r n = generic.made_before scripts_meaning r n

-- The row has the callers and the data cells of its scripts, and its limit is in range. The data
-- cells with which it started stand for some store, and hold a reply to the last call of each
-- caller.
pub record IsScriptsRow (r : Row Scripts) : Type 0 where
  pub callers : (key_of r).callers ≡ (key_of r).work.callers
  pub cells : (key_of r).cells ≡ scripts_data_cells (key_of r).work
  pub some_limit : 1 ≤ (key_of r).limit
  pub few_limit : (key_of r).limit ≤ GREATEST_LIMIT
  pub size : length (cells_at_start scripts_meaning r) ≡ scripts_data_cells (key_of r).work
  pub store : Store
  pub stands : StandFor (key_of r).work (cells_at_start scripts_meaning r) store
  pub replies : HoldLastReplies (key_of r).work (cells_at_start scripts_meaning r)
