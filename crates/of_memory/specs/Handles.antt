-- A handle: one caller of a memory.
use Rattle.std.specs.Prelude.{◌≡◌, ◌⊎◌, ℕ, ◌+◌, List, length, map, Result, Ok, Err}
use Rattle.of_script.specs.declared.instr.Instr.{Instr}
use Rattle.of_script.specs.Language.{IsScript, instr_word}
use Rattle.of_plan.specs.declared.answer.Answer.{Answer}
use Rattle.of_eval.specs.declared.scripts.Scripts.{Scripts}
use Rattle.of_eval.specs.Scripts.{scripts_meaning}
use Rattle.of_row.specs.declared.row.Row.{Row}
use Rattle.of_row.specs.Rows.{key_of}
use Rattle.of_cells.specs.declared.error.RunError.{RunError}
use Rattle.of_cells.specs.declared.error.RunError.TheVariants.{Stopped, Spent, InCall, NoCall, NoTicket}
use Rattle.of_cells.specs.Handles as generic
use Rattle.of_memory.specs.declared.handle.Handle.{Handle}
use Rattle.of_memory.specs.History.{Made}
use Rattle.of_memory.specs.Calls.{AreMade, AreOfScripts, IsScriptOperation}
use Rattle.of_memory.specs.Called.{made_with, without_reply}
use Rattle.of_memory.specs.Rows.{IsScriptsRow}

-- the row of the handle's memory
abbrev pub home_of : Handle → Row Scripts
home_of h = generic.home_of h.cells

-- the handle's number
abbrev pub number_of_handle : Handle → ℕ
number_of_handle h = generic.number_of_handle h.cells

-- the handle has an open call, of any script
abbrev pub HasCallOpen : Handle → Type 0
HasCallOpen h = generic.HasCallOpen h.cells

-- the handle is one of some memory of scripts, and all calls of its number are calls of scripts
pub record IsHandle (h : Handle) : Type 0 where
  pub handle : generic.IsCellHandle scripts_meaning h.cells
  pub row : IsScriptsRow (home_of h)
  pub made : AreOfScripts (generic.made_by h.cells)
  pub open_call : HasCallOpen h → IsScriptOperation (generic.last_operation_of h.cells)

-- the calls of the handle's number that have ended since the memory was opened are these
abbrev pub HasMade : Handle → List Made → Type 0
HasMade h ms = AreMade (generic.made_by h.cells) ms

-- the handle has an open call of this script
pub record HasOpen (h : Handle) (script : List Instr) : Type 0 where
  pub is : IsScript script
  pub opened : generic.HasOpen h.cells (map instr_word script)

-- A call of this script has had this result. The list of ended calls of the handle's number gets
-- this call if it was answered or spent; otherwise the list stays as it is.
abbrev pub MakesCall : List Instr → Result Answer RunError → (before now : Handle) → Type 0
MakesCall script result h k =
    (ms : List Made) → HasMade h ms → HasMade k (made_with script result ms)

-- The open call, whatever its script, has gone on and had this result. The list of ended calls of
-- the handle's number gets this call if it was answered or spent; otherwise the list stays as it
-- is.
abbrev pub ResumesCall : Result Answer RunError → (before now : Handle) → Type 0
ResumesCall result h k =
    (script : List Instr) (ms : List Made) → HasOpen h script → HasMade h ms
    → HasMade k (made_with script result ms)

-- if a call of this script has had this result, it is open in the handle if the result is a stop,
-- and no call is open if it was answered or spent
abbrev pub StaysOpenOnlyIfStopped : List Instr → Result Answer RunError → Handle → Type 0
StaysOpenOnlyIfStopped script (Ok a) h = HasCallOpen h → ⊥
StaysOpenOnlyIfStopped script (Err (Stopped asked)) h = HasOpen h script
StaysOpenOnlyIfStopped script (Err (Spent seq)) h = HasCallOpen h → ⊥
StaysOpenOnlyIfStopped script (Err InCall) h = Unit {0}
StaysOpenOnlyIfStopped script (Err NoCall) h = Unit {0}
StaysOpenOnlyIfStopped script (Err NoTicket) h = Unit {0}

-- The handle `before` had an open call, which has gone on and had this result. If the call was
-- stopped again, the handle `now` still has it open. If it was answered or spent, `now` has no open
-- call.
abbrev pub OpenCallStays : Result Answer RunError → (before now : Handle) → Type 0
OpenCallStays result h k =
    (script : List Instr) → HasOpen h script → StaysOpenOnlyIfStopped script result k

-- how many steps the handle's open call has made
abbrev pub steps_so_far : Handle → ℕ
steps_so_far h = generic.steps_so_far h.cells

-- the step bound of the handle's memory: how many steps a call makes at most
abbrev pub step_bound_of : Handle → ℕ
step_bound_of h = generic.step_bound_of scripts_meaning h.cells

-- how many calls of the handle's number were begun, those before its memory was opened included
abbrev pub calls_begun : Handle → ℕ
calls_begun h = generic.calls_begun h.cells

-- how many calls the handle's number had made before its memory was opened
abbrev pub tickets_behind : Handle → ℕ
tickets_behind h = generic.tickets_behind scripts_meaning h.cells

-- how many loads the handle has made that are no step of a call: two each time that it tells or
-- hears
abbrev pub looks_of : Handle → ℕ
looks_of h = generic.looks_of h.cells

-- the handle has made no load outside of its calls: the count of such loads has stayed the same
abbrev pub MakesStepsAlone : (before now : Handle) → Type 0
MakesStepsAlone h k = generic.MakesStepsAlone h.cells k.cells

-- the calls of the handle's number have made at most this many steps more; those of spent calls
-- count too
abbrev pub MakesAtMost : (most : ℕ) → (before now : Handle) → Type 0
MakesAtMost most h k = generic.MakesAtMost most h.cells k.cells

-- if the handle has an open call, the steps that this call had made before, and the steps made
-- since, are together at most this many
abbrev pub GoesOnWithin : (most : ℕ) → (before now : Handle) → Type 0
GoesOnWithin most h k = generic.GoesOnWithin most h.cells k.cells

-- If a handle has no open call, the number of calls that its number has begun is the sum of two:
-- those from before its memory was opened, and those that have ended since.
abbrev pub CallsAreCounted : Type 0
CallsAreCounted =
    (h : Handle) (ms : List Made) → IsHandle h → (HasCallOpen h → ⊥) → HasMade h ms
    → calls_begun h ≡ tickets_behind h + length ms

-- an open call that the handle has now is of this script, or the handle had an open call of the
-- same script before
abbrev pub OpensOnly : List Instr → (before now : Handle) → Type 0
OpensOnly script h k = (s : List Instr) → HasOpen k s → (s ≡ script) ⊎ HasOpen h s

-- if the handle has an open call now, it had an open call of the same script before
abbrev pub OpensNone : (before now : Handle) → Type 0
OpensNone h k = generic.OpensNone h.cells k.cells

-- A new call is made exactly if no call is open and the handle's number may make one more. It is
-- spent only if the sequence has come to the limit. It is refused with `InCall` if a call is open,
-- and with `NoTicket` if none is open and the number may make no more.
abbrev pub RefusesCall : Handle → Result Answer RunError → Type 0
RefusesCall h result = generic.RefusesCall h.cells (without_reply result)

-- a call goes on exactly if one is open, and otherwise `NoCall` is the error; the call is spent
-- only if the sequence has come to the limit
abbrev pub RefusesToGoOn : Handle → Result Answer RunError → Type 0
RefusesToGoOn h result = generic.RefusesToGoOn h.cells (without_reply result)

-- both handles are of the same memory, and have the same number
abbrev pub IsSame : (before now : Handle) → Type 0
IsSame h k = generic.IsSame h.cells k.cells

-- the handle's memory has this many callers and blocks
pub record IsOfSizes (h : Handle) (callers blocks : ℕ) : Type 0 where
  pub callers_are : (key_of (home_of h)).work.callers ≡ callers
  pub blocks_are : (key_of (home_of h)).work.blocks ≡ blocks

-- the step bounds of the smallest memory, which has one caller and no blocks, and of one with as
-- many callers and blocks as a plan may have
pub record AreStepBounds : Type 0 where
  pub smallest : (h : Handle) → IsHandle h → IsOfSizes h 1 0 → step_bound_of h ≡ 6054
  pub largest : (h : Handle) → IsHandle h → IsOfSizes h 16 512 → step_bound_of h ≡ 138657
