-- A clerk, its job, and what it has done of the job.
use Rattle.std.specs.Prelude.{◌≡◌, ℕ, ◌+◌, ◌<◌, ◌≤◌, List, [], ◌++◌, length, map, take, Option, Some, None, true, false, vec_len, ◌⊎◌}
use Rattle.std.specs.List.{All}
use Rattle.std.proofs.Common.{get_or}
use Rattle.of_script.specs.declared.instr.Instr.{Instr}
use Rattle.of_store.specs.Store.{Reply}
use Rattle.of_cells.specs.declared.error.RunError.{RunError}
use Rattle.of_cells.specs.declared.error.RunError.TheVariants.{Stopped, Spent as NoneLeft, InCall, NoCall, NoTicket}
use Rattle.of_memory.specs.declared.handle.Handle.{Handle}
use Rattle.of_memory.specs.declared.saved.Saved.{Saved}
use Rattle.of_memory.specs.History.{Made}
use Rattle.of_memory.specs.Handles.{HasMade, HasOpen, HasCallOpen, tickets_behind}
use Rattle.of_memory.specs.Saving.{HoldsReply, saved_ticket}
use Rattle.example_bank.specs.declared.clerk.Clerk.{Clerk}
use Rattle.example_bank.specs.Transfers.{transfer_script}
use Rattle.example_bank.specs.Calls.{Call, replied_in, IsNotLost, scripts_in, made_in, aborted_in, was_made, was_aborted}

-- the scripts of the clerk's transfers, in the order of its job
abbrev pub scripts_of : Clerk → List (List Instr)
scripts_of c = map (λ t. transfer_script t.from t.to t.amount) c.job.items

-- how many transfers of its job the clerk has counted, as made or as aborted
abbrev pub counted : Clerk → ℕ
counted c = c.made + c.aborted

abbrev pub next_script : Clerk → List Instr
next_script c = get_or (scripts_of c) (counted c) []

-- The clerk x is now y, and has counted these calls besides those that it had counted before. They
-- are the next transfers of its job, in the job's order.
pub record Counts (x y : Clerk) (cs : List Call) : Type 0 where
  pub job : y.job ≡ x.job
  pub front : take (counted x) (scripts_of x) ++ scripts_in cs ≡ take (counted y) (scripts_of x)
  pub made : y.made ≡ x.made + made_in cs
  pub aborted : y.aborted ≡ x.aborted + aborted_in cs

-- ---- why a clerk has made no more transfers

-- the clerk's last call was stopped
abbrev pub IsStopped : Option RunError → Type 0
IsStopped None = ⊥
IsStopped (Some (Stopped asked)) = Unit {0}
IsStopped (Some (NoneLeft seq)) = ⊥
IsStopped (Some InCall) = ⊥
IsStopped (Some NoCall) = ⊥
IsStopped (Some NoTicket) = ⊥

-- no call of the clerk was spent: each was answered or is open
abbrev pub IsNotSpent : Option RunError → Type 0
IsNotSpent None = Unit {0}
IsNotSpent (Some (Stopped asked)) = Unit {0}
IsNotSpent (Some (NoneLeft seq)) = ⊥
IsNotSpent (Some InCall) = Unit {0}
IsNotSpent (Some NoCall) = Unit {0}
IsNotSpent (Some NoTicket) = Unit {0}

-- the clerk has ended before its job was done
abbrev pub IsEarly : Option RunError → Type 0
IsEarly None = ⊥
IsEarly (Some e) = Unit {0}

-- The cause is there for which a clerk has ended early. If it was stopped, its call had made all
-- its steps. If it lacks a ticket, its number had made as many calls as it ever may.
abbrev pub HasCause : (steps before answered : ℕ) → Option RunError → Type 0
HasCause steps before answered None = Unit {0}
HasCause steps before answered (Some (Stopped asked)) = asked ≡ steps + 1
HasCause steps before answered (Some (NoneLeft seq)) = Unit {0}
HasCause steps before answered (Some InCall) = ⊥
HasCause steps before answered (Some NoCall) = ⊥
HasCause steps before answered (Some NoTicket) = before + answered + 1 < 4294967296 → ⊥

-- ---- a clerk that works with a handle

-- The clerk x has worked with a handle for a day, and is now y; the handle is now k. The clerk has
-- counted the answered calls of the handle, none of the handle's calls was lost, and no transfer is
-- pending. If the handle has an open call, the clerk was stopped, and this call is the next transfer
-- of its job. If the clerk has ended early, its job isn't done, and the cause for its ending is there
-- (`HasCause`).
pub record HasWorked (x y : Clerk) (k : Handle) : Type 0 where
  pub made : List Made
  pub has : HasMade k made
  pub none_lost : All (λ (m : Made). IsNotLost m.ended) made
  pub counts : Counts x y (replied_in made)
  pub answered : y.answered ≡ length (replied_in made)
  pub whole : IsNotSpent y.end → y.answered ≡ length made
  pub open_call : (script : List Instr) → HasOpen k script
      → IsStopped y.end × (script ≡ next_script y)
  pub left : IsEarly y.end → counted y < vec_len y.job
  pub cause : HasCause x.steps (tickets_behind k) y.answered y.end
  pub steps : y.steps ≡ x.steps
  pub pending : y.pending ≡ false

-- the clerk has counted its whole job, unless it has ended early
abbrev pub IsThrough : Clerk → Type 0
IsThrough c = c.end ≡ None → counted c ≡ vec_len c.job

-- what a clerk promises of its work, if its handle had made no call before: `HasWorked` and
-- `IsThrough`
abbrev pub WorksOn : (before : Clerk) → Handle → (now : Clerk) → Handle → Type 0
WorksOn x h y k = HasMade h [] → (HasCallOpen h → ⊥) → HasWorked x y k × IsThrough y

-- if `HasWorked` was true of the clerk y and its handle, it is true of z and the handle now
abbrev pub GoesOn : (before : Clerk) → Handle → (now : Clerk) → Handle → Type 0
GoesOn y h z k = (x : Clerk) → HasWorked x y h → HasWorked x z k

-- ---- the transfer in which a clerk was stopped

-- the clerk y is now z, and has counted a transfer with this reply
pub record CountsReply (r : Reply) (y z : Clerk) : Type 0 where
  pub made : z.made ≡ y.made + was_made r
  pub aborted : z.aborted ≡ y.aborted + was_aborted r

abbrev pub CountsNone : (before now : Clerk) → Type 0
CountsNone y z = (z.made ≡ y.made) × (z.aborted ≡ y.aborted)

-- the transfer in which the clerk was stopped took no effect: what was saved last has no call of
-- the clerk beyond its answered ones. The clerk counts nothing, and the transfer is pending
pub record IsPending (n : ℕ) (c d : Saved) (y z : Clerk) : Type 0 where
  pub ticket : saved_ticket d n ≤ saved_ticket c n + y.answered
  pub none : CountsNone y z
  pub pending : z.pending ≡ true

-- the transfer in which the clerk was stopped took effect: what was saved last has one call of the
-- clerk beyond its answered ones. The clerk counts this call by its reply
pub record IsFinished (n : ℕ) (c d : Saved) (y z : Clerk) : Type 0 where
  pub ticket : saved_ticket c n + y.answered < saved_ticket d n
  pub one : (r : Reply) → HoldsReply d n r → CountsReply r y z
  pub more : counted z ≡ counted y + 1
  pub pending : z.pending ≡ y.pending

abbrev pub SettlesEnd : ℕ → (before after : Saved) → Clerk → Clerk → Option RunError → Type 0
SettlesEnd n c d y z None = CountsNone y z × (z.pending ≡ y.pending)
SettlesEnd n c d y z (Some (Stopped asked)) = IsPending n c d y z ⊎ IsFinished n c d y z
SettlesEnd n c d y z (Some (NoneLeft seq)) = CountsNone y z × (z.pending ≡ y.pending)
SettlesEnd n c d y z (Some InCall) = CountsNone y z × (z.pending ≡ y.pending)
SettlesEnd n c d y z (Some NoCall) = CountsNone y z × (z.pending ≡ y.pending)
SettlesEnd n c d y z (Some NoTicket) = CountsNone y z × (z.pending ≡ y.pending)

-- in the evening the clerk of number n counts the transfer in which it was stopped, if this
-- transfer took effect
pub record Settles (n : ℕ) (c d : Saved) (y z : Clerk) : Type 0 where
  pub job : z.job ≡ y.job
  pub answered : z.answered ≡ y.answered
  pub end : z.end ≡ y.end
  pub counts : SettlesEnd n c d y z y.end
