-- What a number's last call answered, looked up in an open memory while other calls go on.
use Rattle.std.specs.Prelude.{◌≡◌, ◌≢◌, ℕ, List, Option, Some, None}
use Rattle.of_store.specs.Store.{Reply}
use Rattle.of_store.specs.Replies.{reply_value_of}
use Rattle.of_script.specs.declared.instr.Reply.{Reply as TheReply}
use Rattle.of_eval.specs.Scripts.{scripts_meaning, LawfulCells}
use Rattle.of_cells.specs.Looking as generic
use Rattle.of_cells.specs.Saving.{own_ticket}
use Rattle.of_memory.specs.declared.memory.Memory.{Memory}
use Rattle.of_memory.specs.Saving.{HoldReply}

-- At a moment of the memory's row between m and k, P holds of the numbers of the data cells that
-- recovery finds in the row's durable words. The moment is that of the memory's last look, and it
-- is not before the look before. One serial history leads to what recovery finds, and has the calls
-- that were answered.
abbrev pub WasSoMeanwhile : (List ℕ → Type 0) → (m k : Memory) → Type 0
WasSoMeanwhile P m k = generic.WasSoMeanwhile scripts_meaning LawfulCells P m.cells k.cells

-- between m and k a transaction was open on the memory's row, or one was committed
abbrev pub WasBusyMeanwhile : (m k : Memory) → Type 0
WasBusyMeanwhile m k = generic.WasBusyMeanwhile scripts_meaning m.cells k.cells

-- data cells with these numbers hold no call of caller n
abbrev pub HoldNone : (cells : List ℕ) → (n : ℕ) → Type 0
HoldNone cells n = own_ticket cells n ≡ 0

-- data cells with these numbers hold a call of caller n with this ticket, this reply to it, and no
-- other reply
pub record HoldOnly (cells : List ℕ) (n ticket : ℕ) (reply : Reply) : Type 0 where
  pub some : ticket ≢ 0
  pub ticket_is : own_ticket cells n ≡ ticket
  pub held : HoldReply cells n reply
  pub only : (r : Reply) → HoldReply cells n r → reply ≡ r

-- what data cells with these numbers show of the last call of caller n
abbrev pub ShowLastCall : (n : ℕ) → Option (ℕ × TheReply) → (cells : List ℕ) → Type 0
ShowLastCall n None cells = HoldNone cells n
ShowLastCall n (Some r) cells = HoldOnly cells n r.0 (reply_value_of r.1)
