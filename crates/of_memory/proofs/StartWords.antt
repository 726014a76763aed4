-- Durable words from which a table may start have an image, and so they are taken.
use Rattle.std.proofs.Common.{◌≡◌, ℕ, ◌≤◌, inl, List, length, get_or, map, refl, sym, ap, subst, ◌∙◌, arith}
use Rattle.of_cell.specs.Words.{seq_of, payload_of}
use Rattle.of_mem.specs.Places.{base_of, cells_at}
use Rattle.of_mem.specs.ProgramWork.{memory_of, meaning_of}
use Rattle.of_script.specs.declared.instr.TheConstants.{MOST_INSTRS}
use Rattle.of_recover.specs.Row.{current_seq, is_open}
use Rattle.of_recover.specs.Recovered.{recovered_words}
use Rattle.of_recover.proofs.Rows.{length-recovered}
use Rattle.of_recover.proofs.Kept.{others_kept}
use Rattle.of_eval.specs.declared.scripts.Scripts.{Scripts}
use Rattle.of_eval.specs.Scripts.{scripts_data_cells, StandsForSome, is_success, script_reads}
use Rattle.of_eval.specs.ScriptPrograms.{script_program}
use Rattle.of_eval.specs.Faults.{AllOwnCellsAreSound}
use Rattle.of_core.specs.Table.{setup_of}
use Rattle.of_core.specs.Starts.{IsStartRow, start_from_durable}
use Rattle.of_report.specs.ImageRow.{recovered_row}
use Rattle.of_report.specs.Image.{Image, IsRestored}
use Rattle.of_memory.specs.Words.{AreCountsOf, AreStartWords, durable_count, row_with, words_found}
use Rattle.of_memory.proofs.Texts.{start_is_lawful}

module _ (w : Scripts) (limit : ℕ) (words : List ℕ) (h : AreStartWords w limit words) where
  pub start_words_long : length words ≡ durable_count w.callers w.blocks
  start_words_long = sym (length-recovered w.callers (scripts_data_cells w) words) ∙ h.row.long

  -- what recovery finds in them
  abbrev pub start_image : Image
  start_image = record {
    row = recovered_row MOST_INSTRS (row_with w.callers w.blocks words);
    seq = current_seq (λ c. get_or words c 0);
    replayed = is_open w.callers (λ c. get_or words c 0);
    store = h.row.may_start.lawful.0;
  }

  pub start_restored : IsRestored MOST_INSTRS (row_with w.callers w.blocks words) start_image
  start_restored = record {
    row = refl;
    seq = refl;
    replayed = refl;
    lawful = start_is_lawful w limit (words_found w words) h.row h.replies h.row.may_start.lawful.0 h.row.may_start.lawful.1;
  }

  -- recovery keeps the current transaction
  pub start_within : current_seq (λ c. get_or words c 0) ≤ limit
  start_within =
      let kept = ap seq_of (others_kept w.callers (scripts_data_cells w) words start_words_long 0 (omega (arith, start_words_long)) (inl (omega arith)) (λ e. omega (arith, e))) in
      omega (arith, kept, h.row.may_start.limit)

-- whether they are start words depends on the counts alone
pub same_counts : (w v : Scripts) (limit : ℕ) (words : List ℕ) → AreCountsOf w v.callers v.blocks → AreStartWords w limit words → AreStartWords v limit words
same_counts w v limit words same h = record {
  row = subst (λ (k : ℕ × ℕ). IsStartRow (setup_of k.0 (cells_at (base_of k.0 MOST_INSTRS) k.1) limit (meaning_of is_success script_reads (script_program (base_of k.0 MOST_INSTRS) k.1))) (λ (xs : List ℕ). StandsForSome (base_of k.0 MOST_INSTRS) k.1 (memory_of xs)) (recovered_words k.0 (cells_at (base_of k.0 MOST_INSTRS) k.1) words)) counts h.row;
  replies = subst (λ (k : ℕ × ℕ). let cells = cells_at (base_of k.0 MOST_INSTRS) k.1 in AllOwnCellsAreSound MOST_INSTRS (memory_of (map payload_of (start_from_durable k.0 cells (recovered_words k.0 cells words)).cells)) k.0) counts h.replies;
  some_limit = h.some_limit;
  few_limit = h.few_limit;
}
  where
    counts : ◌≡◌ {A = ℕ × ℕ} (w.callers, w.blocks) (v.callers, v.blocks)
    counts i = (same.callers_are i, same.blocks_are i)
