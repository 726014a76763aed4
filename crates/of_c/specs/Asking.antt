-- What C reads of a number's last call, in an open memory while other calls go on.
use Rattle.std.specs.Prelude.{ℕ, List, Option}
use Rattle.of_script.specs.declared.instr.Reply.{Reply}
use Rattle.of_store.specs.Replies.{reply_value_of}
use Rattle.of_memory.specs.declared.memory.Memory.{Memory}
use Rattle.of_memory.specs.Asking.{WasSoMeanwhile, WasBusyMeanwhile, HoldNone, HoldOnly}
use Rattle.of_c.specs.declared.held.Held.{Held}
use Rattle.of_c.specs.declared.reply.CReply.{CReply}
use Rattle.of_c.specs.Replies.{ShowsReply}
use Rattle.of_c.specs.Slots.{HoldsMemory}

-- the slot held a memory and still does, and meanwhile P was so of the numbers of its data cells
pub record WasHeldSo (P : List ℕ → Type 0) (before now : Option Held) : Type 0 where
  pub memory : Memory
  pub was : HoldsMemory before memory
  pub next : Memory
  pub is : HoldsMemory now next
  pub so : WasSoMeanwhile P memory next

-- the slot held a memory and still does, and meanwhile a transaction was open or was committed
pub record WasHeldBusy (before now : Option Held) : Type 0 where
  pub memory : Memory
  pub was : HoldsMemory before memory
  pub next : Memory
  pub is : HoldsMemory now next
  pub busy : WasBusyMeanwhile memory next

-- the reply for C shows the reply to this number's last call, which data cells with these numbers
-- hold, and the call's ticket
pub record ShowsLastCall (number : ℕ) (r : CReply) (cells : List ℕ) : Type 0 where
  pub reply : Reply
  pub held : HoldOnly cells number r.ticket (reply_value_of reply)
  pub shows : ShowsReply reply r

-- data cells with these numbers hold no call of this number
abbrev pub ShowsNoCall : (number : ℕ) → (cells : List ℕ) → Type 0
ShowsNoCall number cells = HoldNone cells number
