-- A memory that is closed, and goes on with sequences that begin at 0 again.
use Rattle.std.specs.Prelude.{◌≡◌, ℕ, ◌<◌, []}
use Rattle.of_store.specs.Store.{Store}
use Rattle.of_memory.specs.declared.memory.Memory.{Memory}
use Rattle.of_memory.specs.declared.saved.Saved.{Saved}
use Rattle.of_memory.specs.declared.error.RenumberError.{RenumberError}
use Rattle.of_memory.specs.declared.error.RenumberError.TheVariants.{InUse, OutOfMemory}
use Rattle.of_memory.specs.Memories.{callers_of, limit_of, StartsWith, tickets_before, HasMadeOf}
use Rattle.of_memory.specs.Memories.{HasNoneOpen, HasNoHandleOut, HasHandleOut, HasHistory}
use Rattle.of_memory.specs.Saving.{IsSaved, SavedHolds, saved_callers, saved_limit, saved_seq}
use Rattle.of_memory.specs.Saving.{saved_ticket}

-- the memory m goes on from what was saved: m starts with the saved callers, limit, store and
-- tickets, and none of its callers has made a call
pub record GoesOnFromSaved (d : Saved) (m : Memory) : Type 0 where
  pub callers : callers_of m ≡ saved_callers d
  pub limit : limit_of m ≡ saved_limit d
  pub store : (s : Store) → SavedHolds d s → StartsWith m s
  pub tickets : (n : ℕ) → n < saved_callers d → tickets_before m n ≡ saved_ticket d n
  pub none : (n : ℕ) → n < saved_callers d → HasMadeOf m n []
  pub idle : HasNoneOpen m

-- No handle of the memory m was out, and d is what was saved of m, with its callers and its limit;
-- a memory may go on from d. One serial history, with each call that was answered, leads to d. The
-- last committed sequence in d is 0.
pub record LeavesRenumbered (m : Memory) (d : Saved) : Type 0 where
  pub here : HasNoHandleOut m
  pub saved : IsSaved d
  pub history : HasHistory m d
  pub callers : saved_callers d ≡ callers_of m
  pub limit : saved_limit d ≡ limit_of m
  pub seq : saved_seq d ≡ 0

-- the memory that is handed back is as it was before, and one of its handles is out
pub record IsInUse (before now : Memory) : Type 0 where
  pub same : now ≡ before
  pub out : HasHandleOut before

-- why no memory is made that goes on with sequences from 0: a handle is out, or memory ran out
abbrev pub IsRenumberCause : Memory → RenumberError → Type 0
IsRenumberCause m (InUse k) = IsInUse m k
IsRenumberCause m (OutOfMemory d) = LeavesRenumbered m d
