-- What a row of scripts holds at any moment, of the row of a memory.
use Rattle.std.proofs.Common.{◌≡◌, ℕ, subst}
use Rattle.of_eval.specs.declared.scripts.Scripts.{Scripts}
use Rattle.of_eval.specs.Scripts.{scripts_data_cells, scripts_meaning, LawfulCells}
use Rattle.of_core.specs.Table.{setup_of}
use Rattle.of_core.specs.Starts.{IsDurable}
use Rattle.of_row.specs.declared.row.Row.{Row}
use Rattle.of_row.specs.Rows.{key_of}
use Rattle.of_row.specs.Rule.{MeetsRule}
use Rattle.of_caller.specs.PlanRows.{start_of_row}
use Rattle.of_memory.specs.declared.memory.Memory.{Memory}
use Rattle.of_memory.specs.Memories.{IsMemory, row_of, limit_of}
use Rattle.of_memory.specs.Moments.{EachRunsScripts, WordsHoldHistory, HoldsWordsAlways}

module _ (m : Memory) (is : IsMemory m) where
  abbrev r : Row Scripts
  r = row_of m

  abbrev w : Scripts
  w = (key_of r).work

  sizes : ◌≡◌ {A = ℕ × ℕ} ((key_of r).callers, (key_of r).cells) (w.callers, scripts_data_cells w)
  sizes i = (is.row.callers i, is.row.cells i)

  pub memory_holds : WordsHoldHistory (key_of (row_of m)).work (limit_of m) → HoldsWordsAlways m
  memory_holds law s rule each words durable =
      law (start_of_row r) s
      (subst (λ (k : ℕ × ℕ). MeetsRule (setup_of k.0 k.1 (limit_of m) (scripts_meaning w)) (LawfulCells w) (start_of_row r) s) sizes rule)
      (subst (λ (k : ℕ × ℕ). EachRunsScripts (setup_of k.0 k.1 (limit_of m) (scripts_meaning w)) s) sizes each)
      is.row.replies is.row.some_limit is.row.few_limit words
      (subst (λ (k : ℕ × ℕ). IsDurable (setup_of k.0 k.1 (limit_of m) (scripts_meaning w)) s.words words) sizes durable)
