-- What the durable words of a memory hold at any moment of its row.
use Rattle.std.proofs.Common.{◌≡◌, ℕ, ◌<◌, List, sym, ap, subst, ◌∙◌}
use Rattle.of_mem.specs.Meaning.{Meaning}
use Rattle.of_recover.specs.Recovered.{recovered_words}
use Rattle.of_core.specs.Laws.{setup_for}
use Rattle.of_core.specs.Table.{setup_of}
use Rattle.of_core.specs.Starts.{IsStartRow}
use Rattle.of_row.specs.declared.row.Row.{Row}
use Rattle.of_row.specs.Keys.{FitsWork}
use Rattle.of_row.specs.Rows.{key_of, setup_at, row_start}
use Rattle.of_cells.specs.declared.memory.CellMemory.{CellMemory}
use Rattle.of_cells.specs.declared.saved.SavedCells.{SavedCells}
use Rattle.of_cells.specs.Memories.{row_of}
use Rattle.of_cells.specs.Moments.{HoldsHistory, RowsHoldHistory, numbers_found}
use Rattle.of_cells.specs.Saving.{HistoryLeads, OwnCellsStay, saved_cells, own_ticket}
use Rattle.of_cells.specs.Serving.{cells_at_start, made_before}
use Rattle.of_cells.specs.Words.{HoldsWordsAlways, WordsHold}

module _ {W : Type 0} (many size : W → ℕ) (meaning : W → Meaning) (lawful : W → List ℕ → Type 0) (m : CellMemory W) (w : W) (l : ℕ) (work_is : w ≡ (key_of (row_of m)).work) (limit_is : l ≡ (key_of (row_of m)).limit)
    (fit : FitsWork many size (key_of (row_of m))) (law : RowsHoldHistory (lawful w) (setup_for many size meaning l w)) where
  abbrev r : Row W
  r = row_of m

  law_here : RowsHoldHistory (lawful (key_of r).work) (setup_at meaning r)
  law_here = subst (λ (k : (W × ℕ) × (ℕ × ℕ)). RowsHoldHistory (lawful k.0.0) (setup_of k.0.1 k.1.0 k.1.1 (meaning k.0.0)))
      (λ i. ((work_is i, (ap many work_is ∙ sym fit.0) i), ((ap size work_is ∙ sym fit.1) i, limit_is i))) law

  cells_found : (words : List ℕ) (d : SavedCells W) → WordsHold many size (key_of r).work words d → numbers_found (key_of r).callers (key_of r).cells words ≡ saved_cells d
  cells_found words d holds = (λ i. numbers_found (fit.0 i) (fit.1 i) words) ∙ sym holds.cells

  pub words_always : HoldsWordsAlways many size meaning lawful m
  words_always s rule words durable =
      let holds : HoldsHistory (setup_at meaning r) (lawful (key_of r).work) (row_start meaning r) s words = law_here (row_start meaning r) s rule words durable in
      record {
        starts = λ long. (
          (key_of r).limit,
          subst (λ (k : ℕ × ℕ). IsStartRow (setup_of k.0 k.1 (key_of r).limit (meaning (key_of r).work)) (lawful (key_of r).work) (recovered_words k.0 k.1 words)) (λ i. (fit.0 i, fit.1 i)) holds.row,
        );
        history = holds.history;
        sequences = holds.sequences;
        leads = λ d is. subst (λ (xs : List ℕ). HistoryLeads (meaning (key_of r).work) (key_of r).callers (made_before meaning r) (cells_at_start meaning r) xs holds.history holds.sequences) (cells_found words d is) holds.leads;
        views = holds.views;
        free = holds.free;
        own = λ d is. subst (λ (xs : List ℕ). (n : ℕ) → n < (key_of r).callers → own_ticket xs n ≡ made_before meaning r n → OwnCellsStay (cells_at_start meaning r) xs n) (cells_found words d is) holds.own;
      }
