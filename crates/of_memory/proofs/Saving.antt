-- What is saved: what it holds depends on the numbers of the data cells.
use Rattle.std.proofs.Common.{◌≡◌, ℕ, ◌≤◌, ◌<◌, nat_lt, true, if◌then◌else◌, List, get_or, refl, sym, ap, subst, ◌∙◌, arith}
use Rattle.std.proofs.lemmas.Bool.Decides.{nat_tests}
use Rattle.std.proofs.lemmas.List.FromFn.{fill_by_all}
use Rattle.of_mem.specs.declared.work.RawReply.{RawReply}
use Rattle.of_mem.specs.Places.{base_of, ticket_cell_at}
use Rattle.of_mem.specs.ProgramWork.{memory_of}
use Rattle.of_script.specs.declared.instr.TheConstants.{MOST_INSTRS}
use Rattle.of_eval.specs.declared.scripts.Scripts.{Scripts}
use Rattle.of_eval.specs.Scripts.{scripts_data_cells, scripts_meaning, LawfulCells}
use Rattle.of_eval.specs.Stored.{IsStored}
use Rattle.of_eval.specs.Lawful.{reply_in, reply_number}
use Rattle.of_cells.specs.Saving as generic
use Rattle.of_memory.specs.declared.saved.Saved.{Saved}
use Rattle.of_memory.specs.Rows.{HoldLastReplies}
use Rattle.of_memory.specs.Saving.{IsSaved, HoldReply, saved_scripts, saved_cells, saved_callers, saved_limit}
use Rattle.of_memory.specs.Texts.{SavesSame}

pub same_numbers : (d e : Saved) → saved_callers e ≡ saved_callers d → (saved_scripts e).callers ≡ (saved_scripts d).callers → (saved_scripts e).blocks ≡ (saved_scripts d).blocks → saved_cells e ≡ saved_cells d → SavesSame d e
same_numbers d e count callers blocks numbers = record {
  callers = count;
  store = λ s h. subst (λ (k : (ℕ × ℕ) × List ℕ). IsStored (base_of k.0.0 MOST_INSTRS) k.0.1 (memory_of k.1) s) (λ i. ((sym callers i, sym blocks i), sym numbers i)) h;
  tickets = λ n. ap (λ (xs : List ℕ). get_or xs (ticket_cell_at MOST_INSTRS n) 0) numbers;
  replies = λ n r h. subst (λ (xs : List ℕ). HoldReply xs n r) (sym numbers) h;
}

module _ (d e : Saved) (same : generic.SavesSame d.cells e.cells) where
  pub saves_same : SavesSame d e
  saves_same = same_numbers d e same.callers (ap (λ (w : Scripts). w.callers) same.work) (ap (λ (w : Scripts). w.blocks) same.work) same.cells

  pub still_saved : IsSaved d → generic.IsSavedCells (λ w. w.callers) scripts_data_cells scripts_meaning LawfulCells e.cells → 1 ≤ saved_limit e → IsSaved e
  still_saved is saved some = record {
    saved = saved;
    replies = subst (λ (k : Scripts × List ℕ). HoldLastReplies k.0 k.1) (λ i. (sym same.work i, sym same.cells i)) is.replies;
    some_limit = some;
  }

-- a cell of a reply
pub within : (k n v : ℕ) → k < n → v ≡ (if nat_lt k n then v else 0)
within k n v l = let e : nat_lt k n ≡ true = grind (arith, nat_tests) in rw e refl

-- the reply in a caller's own cells
pub reply_is : (d : Saved) (n : ℕ) (raw : RawReply) → generic.IsReplyIn d.cells n raw → raw ≡ reply_in MOST_INSTRS (memory_of (saved_cells d)) n
reply_is d n raw h =
    let values = fill_by_all (reply_number MOST_INSTRS (memory_of (saved_cells d)) n) raw.values MOST_INSTRS 0 h.long (λ k l. h.numbers k (omega (arith, l)) ∙ within k MOST_INSTRS _ (omega (arith, l))) in
    λ i. record { shape = h.shape i; values = values i }
