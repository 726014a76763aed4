-- What a history says of the scripts of a plan, from a start.
use Rattle.std.specs.Prelude.{ℕ, zero, suc, ◌+◌, ◌-◌, List, [], map, slice_index_or}
use Rattle.of_mem.specs.declared.work.RawReply.{RawReply}
use Rattle.of_script.specs.declared.instr.Instr.{Instr}
use Rattle.of_store.specs.Store.{Store, Reply, last_store}
use Rattle.of_eval.specs.Shapes.{reply_cells}
use Rattle.of_eval.specs.Words.{reply_to}
use Rattle.of_plan.specs.Plan.{Plan, scripts_of}
use Rattle.of_core.specs.Machine.{Call}
use Rattle.of_core.specs.TableMoment.{Moment, TableStart}
use Rattle.of_core.specs.History.{batch_at}

-- the script that a caller's call with this ticket runs
abbrev pub script_of_ticket : Plan → (caller ticket : ℕ) → List Instr
script_of_ticket p c t = slice_index_or (scripts_of p c) (t - 1) []

-- the script that this call runs
abbrev pub call_script : Plan → Call → List Instr
call_script p c = script_of_ticket p c.caller c.ticket

-- the calls of batch k
abbrev pub batch_calls : TableStart → Moment → ℕ → List Call
batch_calls B w k = (batch_at B w.batches k).calls

-- the scripts of the calls of batch k
abbrev pub batch_scripts : Plan → TableStart → Moment → ℕ → List (List Instr)
batch_scripts p B w k = map (call_script p) (batch_calls B w k)

-- the store after the first k batches, by serial replay from the start's store
abbrev pub store_after_batches : Plan → TableStart → Store → Moment → ℕ → Store
store_after_batches p B st w zero = st
store_after_batches p B st w (suc j) =
    last_store (store_after_batches p B st w j) (batch_scripts p B w (B.seq + j + 1))

-- the store after the batches up to sequence k
abbrev pub store_at_seq : Plan → TableStart → Store → Moment → ℕ → Store
store_at_seq p B st w k = store_after_batches p B st w (k - B.seq)

-- a script's reply in data cells; the script has this many instructions
abbrev pub raw_reply_of : ℕ → Reply → RawReply
raw_reply_of n r = reply_cells (reply_to n r)
