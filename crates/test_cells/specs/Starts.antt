-- The durable words of one caller without blocks that has stored a number in a register; and tables
-- that may start from these words.
use Rattle.std.specs.Prelude.{ℕ, List, ◌∷◌, ◌++◌}
use Rattle.std.proofs.Common.{replicate, lit≤}
use Rattle.of_cell.specs.Words.{pack}
use Rattle.of_core.specs.Table.{setup_of}
use Rattle.of_core.specs.Starts.{IsStartRow}
use Rattle.of_eval.specs.declared.scripts.Scripts.{Scripts}
use Rattle.of_eval.specs.Scripts.{scripts_data_cells, scripts_meaning, LawfulCells}

-- the work of one caller on a store without blocks
abbrev pub alone : Scripts
alone = record {
  callers = 1;
  blocks = 0;
  some_callers = lit≤ tt;
  few_callers = lit≤ tt;
  few_blocks = lit≤ tt;
}

-- durable words after the caller's first call, which has left 7 in register 3: the words that were
-- written have the sequence `seq`, and the caller's request is `request`
abbrev pub stored_row : (seq request : ℕ) → List ℕ
stored_row s request =
    pack s 0 ∷ request ∷ pack s 1 ∷ pack s 65536 ∷ pack s 0
    ∷ (replicate 18 0 ++ (pack s 7 ∷ replicate 222 0))

-- a table for these scripts, with this limit, may start from the row of durable words
abbrev pub MayStartFrom : Scripts → (limit : ℕ) → List ℕ → Type 0
MayStartFrom scripts limit row =
    IsStartRow
    (setup_of scripts.callers (scripts_data_cells scripts) limit (scripts_meaning scripts))
    (LawfulCells scripts) row
