-- Days at the bank.
use Rattle.std.specs.Prelude.{◌≡◌, ℕ, ◌+◌, ◌<◌, ◌≤◌, List, length, Option, Some, None, Bool, true, false, vec_len}
use Rattle.std.proofs.Common.{get_or}
use Rattle.std.specs.List.{All}
use Rattle.of_store.specs.Store.{Store}
use Rattle.of_cells.specs.declared.error.RunError.{RunError}
use Rattle.of_cells.specs.declared.error.RunError.TheVariants.{Stopped, Spent as NoneLeft, InCall, NoCall, NoTicket}
use Rattle.of_memory.specs.declared.saved.Saved.{Saved}
use Rattle.of_memory.specs.History.{HistoryEntry, IsSerial, store_after}
use Rattle.of_memory.specs.Saving.{SavedHolds, saved_ticket}
use Rattle.example_bank.specs.declared.clerk.Clerk.{Clerk}
use Rattle.example_bank.specs.Calls.{calls_of}
use Rattle.example_bank.specs.Clerks.{Counts, HasCause, IsThrough, IsStopped, counted, Settles}

-- A serial history of the clerks' transfers leads from the store s to the saved one. By its calls
-- in this history, in their order, each clerk has gone on with its job, and it has counted these
-- calls by their replies. The history has calls of clerks only.
pub record LeadsBy (s : Store) (d : Saved) (xs ys : List Clerk) (h : List HistoryEntry)
    : Type 0 where
  pub serial : IsSerial s h
  pub ends : SavedHolds d (store_after s h)
  pub callers : All (λ (e : HistoryEntry). e.caller < length xs) h
  pub each : (n : ℕ) (z : Clerk) → n < length xs
      → Counts (get_or xs n z) (get_or ys n z) (calls_of n h)

-- whatever store was saved before, `LeadsBy` holds of it and of some history
abbrev pub GoOnWithJobs : (before now : Saved) → (xs ys : List Clerk) → Type 0
GoOnWithJobs c d xs ys =
    (s : Store) → SavedHolds c s → (h : List HistoryEntry) × LeadsBy s d xs ys h

-- 1 if a call of the clerk was open in the evening, and otherwise 0
abbrev pub open_in : Option RunError → ℕ
open_in None = 0
open_in (Some (Stopped asked)) = 1
open_in (Some (NoneLeft seq)) = 0
open_in (Some InCall) = 0
open_in (Some NoCall) = 0
open_in (Some NoTicket) = 0

abbrev pub one_if : Bool → ℕ
one_if true = 1
one_if false = 0

-- Why the clerk of number n has made no more transfers on a day, and what it has counted on that
-- day: the calls that were answered, and the transfer in which it was stopped, unless this transfer
-- is pending.
pub record HasEnded (c : Saved) (n : ℕ) (x z : Clerk) : Type 0 where
  pub through : IsThrough z
  pub cause : HasCause x.steps (saved_ticket c n) z.answered z.end
  pub pending : one_if z.pending ≤ open_in z.end
  pub counts : counted z + one_if z.pending ≡ counted x + z.answered + open_in z.end

abbrev pub HaveEnded : (before : Saved) → (xs zs : List Clerk) → Type 0
HaveEnded c xs zs =
    (n : ℕ) (d : Clerk) → n < length xs → HasEnded c n (get_or xs n d) (get_or zs n d)

-- each clerk that was stopped has a transfer left in its job
abbrev pub CanSettle : List Clerk → Type 0
CanSettle ys =
    (n : ℕ) (x : Clerk) → n < length ys → IsStopped (get_or ys n x).end
    → counted (get_or ys n x) < vec_len (get_or ys n x).job

-- each clerk below this number has counted the transfer in which it was stopped
pub record HaveSettled (upto : ℕ) (c d : Saved) (ys zs : List Clerk) : Type 0 where
  pub count : length zs ≡ length ys
  pub each : (n : ℕ) (x : Clerk) → n < upto → Settles n c d (get_or ys n x) (get_or zs n x)
