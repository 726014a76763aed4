-- A handle whose machine is lost: the calls of its number, and what becomes of them if a new machine
-- takes the lost one's place.
use Rattle.std.specs.Prelude.{◌≡◌, ◌⊎◌, ℕ, List, [], ◌∷◌, ◌++◌, map}
use Rattle.of_script.specs.declared.instr.Instr.{Instr}
use Rattle.of_script.specs.Language.{IsScript, instr_word}
use Rattle.of_eval.specs.declared.scripts.Scripts.{Scripts}
use Rattle.of_eval.specs.Scripts.{scripts_meaning}
use Rattle.of_row.specs.declared.row.Row.{Row}
use Rattle.of_row.specs.declared.member.NotRevived.{NotRevived}
use Rattle.of_cells.specs.Lost as generic
use Rattle.of_memory.specs.declared.handle.Handle.{Handle}
use Rattle.of_memory.specs.declared.lost.LostHandle.{LostHandle}
use Rattle.of_memory.specs.declared.memory.Memory.{Memory}
use Rattle.of_memory.specs.History.{Made, Lost}
use Rattle.of_memory.specs.Calls.{AreMade, AreOfScripts, IsScriptOperation}
use Rattle.of_memory.specs.Rows.{IsScriptsRow}
use Rattle.of_memory.specs.Sequences.{seq_known_to}
use Rattle.of_memory.specs.Handles.{home_of, number_of_handle, HasMade, HasOpen, HasCallOpen, steps_so_far}

-- the row of the lost handle's memory
abbrev pub lost_home : LostHandle → Row Scripts
lost_home g = generic.lost_home g.cells

-- the lost handle's number
abbrev pub number_of_lost : LostHandle → ℕ
number_of_lost g = generic.number_of_lost g.cells

-- how many calls of the number have made a step, those before its memory was opened included
abbrev pub calls_begun_by_lost : LostHandle → ℕ
calls_begun_by_lost g = generic.calls_begun_by_lost g.cells

-- how many calls of the handle's number have made a step, those before its memory was opened
-- included
abbrev pub calls_stepped_by : Handle → ℕ
calls_stepped_by h = generic.calls_stepped_by h.cells

-- the last sequence that the lost handle knows
abbrev pub seq_known_to_lost : LostHandle → ℕ
seq_known_to_lost g = generic.seq_known_to_lost g.cells

-- the lost machine had an open call, of any script
abbrev pub HasLostCall : LostHandle → Type 0
HasLostCall g = generic.HasLostCall g.cells

-- the calls of the number that have ended since the memory was opened are these
abbrev pub HadMade : LostHandle → List Made → Type 0
HadMade g ms = AreMade (generic.made_by_lost g.cells) ms

-- the lost machine had an open call of this script
pub record HadOpen (g : LostHandle) (script : List Instr) : Type 0 where
  pub is : IsScript script
  pub opened : HasLostCall g
  pub words : generic.operation_lost g.cells ≡ map instr_word script

-- the lost handle is one of some memory of scripts, and all calls of its number are calls of scripts
pub record IsLostHandle (g : LostHandle) : Type 0 where
  pub lost : generic.IsLostHandle scripts_meaning g.cells
  pub row : IsScriptsRow (lost_home g)
  pub made : AreOfScripts (generic.made_by_lost g.cells)
  pub open_call : HasLostCall g → IsScriptOperation (generic.operation_lost g.cells)

-- The handle h has given up its machine, and is the lost handle g now. Its calls are as they were,
-- but for an open call that had made no step: of this one nothing is left.
pub record GivesUp (h : Handle) (g : LostHandle) : Type 0 where
  pub home : lost_home g ≡ home_of h
  pub number : number_of_lost g ≡ number_of_handle h
  pub made : (ms : List Made) → HasMade h ms → HadMade g ms
  pub open_call : HasCallOpen h → (steps_so_far h ≡ 0 → ⊥) → HasLostCall g
  pub only : (script : List Instr) → HadOpen g script → HasOpen h script
  pub begun : calls_begun_by_lost g ≡ calls_stepped_by h
  pub seq : seq_known_to_lost g ≡ seq_known_to h

-- the new handle has an open call exactly if at some moment meanwhile the table's words said that
-- the call which its number has announced is open
abbrev pub OpensIfAnnounced : LostHandle → Handle → Type 0
OpensIfAnnounced g h = generic.OpensIfAnnounced scripts_meaning g.cells h.cells

-- The lost handle g has a new machine, and is the handle h now. If no call was open, none is, and
-- none is added to the ended ones. An open call goes on, with the same script, or it is added to the
-- ended ones as lost.
pub record IsRevived (g : LostHandle) (h : Handle) : Type 0 where
  pub home : home_of h ≡ lost_home g
  pub number : number_of_handle h ≡ number_of_lost g
  pub seq : seq_known_to h ≡ seq_known_to_lost g
  pub open_if : OpensIfAnnounced g h
  pub none : (HasLostCall g → ⊥)
      → (HasCallOpen h → ⊥) × ((ms : List Made) → HadMade g ms → HasMade h ms)
  pub some : (script : List Instr) → HadOpen g script
      → (HasOpen h script × ((ms : List Made) → HadMade g ms → HasMade h ms))
      ⊎ ((HasCallOpen h → ⊥)
      × ((s : ℕ) × ((ms : List Made) → HadMade g ms
      → HasMade h (ms ++ record { script = script; ended = Lost s } ∷ []))))

-- the lost handle g has got no machine, and is k now
abbrev pub StaysLost : LostHandle → LostHandle → Type 0
StaysLost g k = generic.StaysLost g.cells k.cells

-- why the lost handle g, which is k now, has got no machine
abbrev pub IsReviveCause : (before now : LostHandle) → NotRevived → Type 0
IsReviveCause g k error = generic.IsReviveCause scripts_meaning g.cells k.cells error

-- the memory has evicted the request of caller n, if it has this caller
abbrev pub EvictsRequest : (n : ℕ) → (before now : Memory) → Type 0
EvictsRequest n m k = generic.EvictsRequest n m.cells k.cells

-- if the memory has no caller n, it is as it was
abbrev pub EvictsNone : (n : ℕ) → (before now : Memory) → Type 0
EvictsNone n m k = generic.EvictsNone n m.cells k.cells
