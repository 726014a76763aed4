-- How the code of the serial report runs a plan: call by call.
use Rattle.std.specs.Prelude.{◌≡◌, ℕ, ◌+◌, ◌-◌, ◌<◌, List, [], ◌∷◌, ◌++◌, length, map, take, Some, All}
use Rattle.std.specs.List.{enumerate_from, zip}
use Rattle.of_mem.specs.Part.{overlaid}
use Rattle.of_mem.specs.ProgramWork.{memory_of}
use Rattle.of_script.specs.declared.instr.Instr.{Instr}
use Rattle.of_script.specs.declared.instr.Reply.{Reply as RustReply}
use Rattle.of_store.specs.Store.{Store, Reply, run, empty_store, replies_in_order, last_store}
use Rattle.of_store.specs.Replies.{reply_value_of}
use Rattle.of_eval.specs.Stored.{IsStored}
use Rattle.of_eval.specs.Scripts.{store_at, scripts_data_cells}
use Rattle.of_plan.specs.Plan.{Plan}
use Rattle.of_plan.specs.Report.{Entry}
use Rattle.of_plan.specs.Serial.{CallId, called_script, calls_of, serial_entry}
use Rattle.of_report.specs.Report.{entry_value, HasWholeReply}
use Rattle.of_serial.specs.declared.serial_run.cells.Cells.{Cells}
use Rattle.of_serial.specs.declared.serial_run.SerialRun.{SerialRun as RustSerialRun}

-- a serial run so far: its entries, the sequence of the last one, and the store that it left
pub record SerialRun : Type 0 where
  pub entries : List Entry
  pub seq : ℕ
  pub store : Store

-- The cells hold this store. All data cells are known, and no script has a write left over them.
-- The callers' own cells are 0, and the other cells stand for the store.
pub record CellsHoldStore (c : Cells) (s : Store) : Type 0 where
  pub numbers : List ℕ
  pub size : length numbers ≡ scripts_data_cells c.scripts
  pub known : overlaid c.part.known c.part.batch ≡ map Some numbers
  pub nothing_written : c.part.script ≡ []
  pub not_called : (a : ℕ) → a < store_at c.scripts → memory_of numbers a ≡ 0
  pub stored : IsStored (store_at c.scripts) c.scripts.blocks (memory_of numbers) s

-- if the cells held a store before, they now hold the store after the script, and the reply is the
-- script's reply
abbrev pub RunsScript : List Instr → (before now : Cells) → RustReply → Type 0
RunsScript script before now reply =
    (s : Store) → CellsHoldStore before s
    → CellsHoldStore now (run s script).0 × (reply_value_of reply ≡ (run s script).1)

-- the code's run has the entries, the sequence and the store of the serial run `h`, and each reply
-- of its entries is whole
pub record HasComeTo (r : RustSerialRun) (h : SerialRun) : Type 0 where
  pub entries : map entry_value r.entries.items ≡ h.entries
  pub whole : All HasWholeReply r.entries.items
  pub seq : r.seq ≡ h.seq
  pub store : CellsHoldStore r.cells h.store

-- the code's run has the entries, the sequence and the store of some serial run
abbrev pub IsOnCourse : RustSerialRun → Type 0
IsOnCourse r = (h : SerialRun) × HasComeTo r h

-- the serial run `h` after one more call, of this script
abbrev pub after_call : SerialRun → CallId → List Instr → SerialRun
after_call h call script = record {
  entries = h.entries ++ serial_entry (h.seq + 1, (call, (run h.store script).1)) ∷ [];
  seq = h.seq + 1;
  store = (run h.store script).0;
}

-- the code's run has made one more call, of this script
abbrev pub MakesSerialCall : CallId → List Instr → (before now : RustSerialRun) → Type 0
MakesSerialCall call script before now =
    (h : SerialRun) → HasComeTo before h → HasComeTo now (after_call h call script)

-- the replies to these calls of a plan
abbrev pub replies_to_calls : Plan → List CallId → List Reply
replies_to_calls p calls = replies_in_order (empty_store p.blocks) (map (called_script p) calls)

-- the run of these calls of a plan, one after another from the empty store
abbrev pub course_after : Plan → List CallId → SerialRun
course_after p calls = record {
  entries = map serial_entry (enumerate_from 1 (zip calls (replies_to_calls p calls)));
  seq = length calls;
  store = last_store (empty_store p.blocks) (map (called_script p) calls);
}

-- the code's run has made some calls of the plan
abbrev pub HasMadeCalls : Plan → RustSerialRun → Type 0
HasMadeCalls p r = (calls : List CallId) × HasComeTo r (course_after p calls)

-- the caller's first calls: as many as there are sequences above `seq` up to the plan's limit, or
-- all calls if they are fewer
abbrev pub calls_within : Plan → (seq caller : ℕ) → List CallId
calls_within p s c = take (p.limit - s) (calls_of p c)

-- after the calls of the callers before, the code's run has made the calls of this caller: all, or
-- as many as there are sequences left
abbrev pub RunsCaller : Plan → ℕ → (before now : RustSerialRun) → Type 0
RunsCaller p c before now =
    (calls : List CallId) → HasComeTo before (course_after p calls)
    → HasComeTo now (course_after p (calls ++ calls_within p before.seq c))
