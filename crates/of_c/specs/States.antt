-- What C reads of what a memory has left.
use Rattle.std.specs.Prelude.{◌≡◌, ℕ, ◌<◌, Option}
use Rattle.of_script.specs.declared.instr.Reply.{Reply}
use Rattle.of_store.specs.Store.{Store}
use Rattle.of_store.specs.Replies.{reply_value_of}
use Rattle.of_memory.specs.declared.saved.Saved.{Saved}
use Rattle.of_memory.specs.Saving.{SavedHolds, HoldsReply, saved_callers, saved_ticket}
use Rattle.of_c.specs.declared.held.Held.{Held}
use Rattle.of_c.specs.declared.reply.CReply.{CReply}
use Rattle.of_c.specs.Replies.{ShowsReply}
use Rattle.of_c.specs.Slots.{HoldsSaved}

-- something is held that a memory has left, and P holds of the store that it holds
pub record HoldsStore (held : Option Held) (P : Store → Type 0) : Type 0 where
  pub left : Saved
  pub is : HoldsSaved held left
  pub store : Store
  pub holds : SavedHolds left store
  pub so : P store

-- something is held that a memory has left; it has a caller of this number, and P holds of it
pub record HasCallerWith (held : Option Held) (number : ℕ) (P : Saved → Type 0) : Type 0 where
  pub left : Saved
  pub is : HoldsSaved held left
  pub there : number < saved_callers left
  pub so : P left

-- the reply for C shows the reply to the last saved call of this caller, and that call's ticket
pub record ShowsLast (number : ℕ) (r : CReply) (left : Saved) : Type 0 where
  pub ticket : r.ticket ≡ saved_ticket left number
  pub reply : Reply
  pub held : HoldsReply left number (reply_value_of reply)
  pub shows : ShowsReply reply r
