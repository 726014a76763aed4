-- Where memories of scripts start: empty, or where a closed one has ended.
use Rattle.std.proofs.Common.{◌≡◌, ℕ, ◌≤◌, List, replicate, get_or, sym, ap, subst, ◌∙◌, length}
use Rattle.std.proofs.lemmas.List.{length-map, length-replicate}
use Rattle.of_cell.specs.declared.word.TheConstants.{GREATEST_LIMIT}
use Rattle.of_mem.specs.ProgramWork.{memory_of}
use Rattle.of_mem.proofs.Lists.{zero_at}
use Rattle.of_store.specs.Store.{Store, empty_store}
use Rattle.of_eval.specs.declared.scripts.Scripts.{Scripts}
use Rattle.of_eval.specs.Scripts.{store_at, scripts_data_cells, scripts_meaning, LawfulCells}
use Rattle.of_eval.specs.SoundScripts.{empty_is_stored}
use Rattle.of_cells.specs.Saving.{IsSavedCells}
use Rattle.of_cells.specs.Memories.{cell_count_of}
use Rattle.of_memory.specs.declared.memory.Memory.{Memory}
use Rattle.of_memory.specs.declared.saved.Saved.{Saved}
use Rattle.of_memory.specs.Rows.{IsScriptsRow, StandFor, HoldLastReplies}
use Rattle.of_memory.specs.Saving.{IsSaved, saved_scripts, saved_cells, saved_callers, saved_limit}
use Rattle.of_memory.specs.Memories.{StartsWith, row_of, scripts_work_of, callers_of, limit_of, cells_before}

-- no cell has a number
module _ (w : Scripts) (cells : List ℕ) (zeros : cells ≡ replicate (scripts_data_cells w) 0) where
  none_at : (a : ℕ) → get_or cells a 0 ≡ 0
  none_at a = ap (λ (xs : List ℕ). get_or xs a 0) zeros ∙ zero_at (scripts_data_cells w) a

  pub empty_stands : StandFor w cells (empty_store w.blocks)
  empty_stands = empty_is_stored (store_at w) w.blocks w.few_blocks (memory_of cells) none_at

  -- no call was made
  no_replies : HoldLastReplies w cells
  no_replies n low = record { none = λ zero. none_at _; some = λ not. absurd (not (none_at _)) }

module _ (m : Memory) (w : Scripts) (work : scripts_work_of m ≡ w) (callers : callers_of m ≡ w.callers) (cells : cell_count_of m.cells ≡ scripts_data_cells w) (some : 1 ≤ limit_of m) (few : limit_of m ≤ GREATEST_LIMIT) where
  scripts_row : (s : Store) → length (cells_before m) ≡ scripts_data_cells w → StandFor w (cells_before m) s → HoldLastReplies w (cells_before m) → IsScriptsRow (row_of m)
  scripts_row s size stands replies = record {
    callers = callers ∙ ap (λ (x : Scripts). x.callers) (sym work);
    cells = cells ∙ ap scripts_data_cells (sym work);
    some_limit = some;
    few_limit = few;
    size = size ∙ ap scripts_data_cells (sym work);
    store = s;
    stands = subst (λ (x : Scripts). StandFor x (cells_before m) s) (sym work) stands;
    replies = subst (λ (x : Scripts). HoldLastReplies x (cells_before m)) (sym work) replies;
  }

  module _ (zeros : cells_before m ≡ replicate (scripts_data_cells w) 0) where
    pub empty_row : IsScriptsRow (row_of m)
    empty_row = scripts_row (empty_store w.blocks) (ap length zeros ∙ length-replicate (scripts_data_cells w) 0) (empty_stands w (cells_before m) zeros) (no_replies w (cells_before m) zeros)

    pub empty_start : StartsWith m (empty_store w.blocks)
    empty_start = subst (λ (x : Scripts). StandFor x (cells_before m) (empty_store w.blocks)) (sym work) (empty_stands w (cells_before m) zeros)

-- the cells of what is saved
pub saved_size : (d : Saved) → IsSavedCells (λ w. w.callers) scripts_data_cells scripts_meaning LawfulCells d.cells → length (saved_cells d) ≡ scripts_data_cells (saved_scripts d)
saved_size d is = length-map _ _ ∙ is.row.may_start.start.size ∙ is.cells

module _ (m : Memory) (d : Saved) (is : IsSaved d) (work : scripts_work_of m ≡ saved_scripts d) (callers : callers_of m ≡ saved_callers d) (cells : cell_count_of m.cells ≡ scripts_data_cells (saved_scripts d)) (limit : limit_of m ≡ saved_limit d) (same : cells_before m ≡ saved_cells d) where
  pub saved_row : IsScriptsRow (row_of m)
  saved_row =
      let lawful = is.saved.row.may_start.lawful in
      scripts_row m (saved_scripts d) work (callers ∙ is.saved.callers) cells (subst (λ (n : ℕ). 1 ≤ n) (sym limit) is.some_limit) (subst (λ (n : ℕ). n ≤ GREATEST_LIMIT) (sym limit) is.saved.few_limit)
      lawful.0
      (ap length same ∙ saved_size d is.saved)
      (subst (λ (xs : List ℕ). StandFor (saved_scripts d) xs lawful.0) (sym same) lawful.1)
      (subst (HoldLastReplies (saved_scripts d)) (sym same) is.replies)
