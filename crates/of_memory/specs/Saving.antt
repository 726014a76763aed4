-- What a closed memory leaves.
use Rattle.std.specs.Prelude.{◌≡◌, ◌⊎◌, ℕ, ◌≤◌, List}
use Rattle.of_mem.specs.declared.work.TheConstants.{MOST_INSTRS}
use Rattle.of_mem.specs.ProgramWork.{memory_of}
use Rattle.of_store.specs.Store.{Store, Reply}
use Rattle.of_eval.specs.declared.scripts.Scripts.{Scripts}
use Rattle.of_eval.specs.Scripts.{scripts_data_cells, LawfulCells, scripts_meaning}
use Rattle.of_eval.specs.Lawful.{reply_in}
use Rattle.of_cells.specs.Saving as generic
use Rattle.of_memory.specs.declared.saved.Saved.{Saved}
use Rattle.of_memory.specs.History.{HistoryEntry, HasEntry}
use Rattle.of_memory.specs.Calls.{HoldsResponse}
use Rattle.of_memory.specs.Rows.{StandFor, HoldLastReplies}

-- the work of the closed memory: scripts, with its numbers of callers and blocks
abbrev pub saved_scripts : Saved → Scripts
saved_scripts d = generic.saved_work d.cells

-- the numbers of the saved data cells
abbrev pub saved_cells : Saved → List ℕ
saved_cells d = generic.saved_cells d.cells

-- the last sequence that may be committed, in a memory that goes on from what is saved
abbrev pub saved_limit : Saved → ℕ
saved_limit d = generic.saved_limit d.cells

-- the last sequence that was committed in what is saved
abbrev pub saved_seq : Saved → ℕ
saved_seq d = generic.saved_seq d.cells

-- how many callers the saved memory has
abbrev pub saved_callers : Saved → ℕ
saved_callers d = generic.saved_callers d.cells

-- how many calls of a caller are saved: the ticket of the caller's last saved call
abbrev pub saved_ticket : Saved → ℕ → ℕ
saved_ticket d n = generic.saved_ticket d.cells n

-- a memory may go on from what is saved; this holds a store and a reply to each caller's last call,
-- and its limit is at least 1
pub record IsSaved (d : Saved) : Type 0 where
  pub saved : generic.IsSavedCells (λ w. w.callers) scripts_data_cells scripts_meaning LawfulCells
      d.cells
  pub replies : HoldLastReplies (saved_scripts d) (saved_cells d)
  pub some_limit : 1 ≤ saved_limit d

-- what is saved holds this store
abbrev pub SavedHolds : Saved → Store → Type 0
SavedHolds d s = StandFor (saved_scripts d) (saved_cells d) s

-- data cells with these numbers hold this reply to the last call of caller n
abbrev pub HoldReply : (cells : List ℕ) → (n : ℕ) → Reply → Type 0
HoldReply cells n response = HoldsResponse (reply_in MOST_INSTRS (memory_of cells) n) response

-- Caller n had made `before` calls. The data cells show the caller's last call since then: either
-- there was none; or the history has a call of the caller with the ticket that is in the cells, and
-- the cells hold its reply.
abbrev pub TellLast : (cells : List ℕ) → List HistoryEntry → (n before : ℕ) → Type 0
TellLast cells h n before =
    (generic.own_ticket cells n ≡ before)
    ⊎ ((e : HistoryEntry) × HasEntry h e × (e.caller ≡ n) × (e.ticket ≡ generic.own_ticket cells n)
    × HoldReply cells n e.reply)

-- what is saved holds this reply to the last call of caller n
abbrev pub HoldsReply : Saved → ℕ → Reply → Type 0
HoldsReply d n response = HoldReply (saved_cells d) n response
