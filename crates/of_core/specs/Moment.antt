-- A bank as contracts see it: the moment of its words and machines, and what events leave of them.
use Rattle.std.specs.Prelude.{◌≡◌, ℕ, ◌<◌, List, [], length, map}
use Rattle.std.proofs.Common.{get_or}
use Rattle.of_cell.specs.Cells as cells
use Rattle.of_mem.specs.Meaning.{Meaning}
use Rattle.of_core.specs.Table.{Setup, setup_of}
use Rattle.of_core.specs.Machine.{CallState, no_machine}
use Rattle.of_core.specs.TableMoment.{Moment, TableStart}
use Rattle.of_core.specs.WordsMatch.{MayStart}
use Rattle.of_core.specs.Events.{Event, after_events, IsSchedule, opening_moment}
use Rattle.of_core.specs.MachineValue.{Machine}

-- a bank as contracts see it
pub record Bank (X : Type 0) : Type 0 where
  -- what runs operations
  pub work : X
  -- how many callers and data cells there are, and the last sequence that may be committed
  pub callers : ℕ
  pub cells : ℕ
  pub limit : ℕ
  -- where the table started
  pub start : TableStart
  -- the words of the table, and each caller's machine
  pub words : List ℕ
  pub machines : List CallState

-- what a bank's machines have in common; the first argument gives the meaning of a work
abbrev pub bank_setup : {X : Type 0} → (X → Meaning) → Bank X → Setup
bank_setup meaning b = setup_of b.callers b.cells b.limit (meaning b.work)

-- how many words a table has, with one for the members
abbrev pub table_word_count : Setup → ℕ
table_word_count S = cells.table_words S.callers S.instrs S.cells

-- the moment at which a bank opens, if its table starts at B
abbrev pub bank_opening : {X : Type 0} → (X → Meaning) → TableStart → Bank X → Moment
bank_opening meaning B b =
    opening_moment (bank_setup meaning b) B (table_word_count (bank_setup meaning b))

-- caller i's machine
abbrev pub machine_of : {X : Type 0} → Bank X → ℕ → CallState
machine_of b i = get_or b.machines i no_machine

-- the moment with a bank's words and machines, an empty history and no word loaded for an eviction
abbrev pub moment_of_bank : {X : Type 0} → Bank X → Moment
moment_of_bank b =
    record { words = b.words; machines = b.machines; batches = []; reads = []; loaded = [] }

-- The bank after these events. The history before them is left out, as neither words nor machines
-- depend on it.
abbrev pub bank_after : {X : Type 0} → (X → Meaning) → List Event → Bank X → Bank X
bank_after meaning es b = record b {
  words = (after_events (bank_setup meaning b) (moment_of_bank b) es).words;
  machines = (after_events (bank_setup meaning b) (moment_of_bank b) es).machines;
}

-- the words and machines are those of a moment: a schedule leaves them from the start
pub record IsReached (S : Setup) (Lawful : List ℕ → Type 0) (B : TableStart) (ws : List ℕ)
    (ms : List CallState) : Type 0 where
  pub may_start : MayStart S Lawful B
  pub events : List Event
  pub schedule : IsSchedule S (opening_moment S B (table_word_count S)) events
  pub words : (after_events S (opening_moment S B (table_word_count S)) events).words ≡ ws
  pub machines : (after_events S (opening_moment S B (table_word_count S)) events).machines ≡ ms

-- each of the machines runs this work on a table of these sizes
abbrev pub RunSameWork : {X : Type 0} → X → (callers cells limit : ℕ) → List (Machine X) → Type 0
RunSameWork {X} work callers cells limit ms =
    (k : ℕ) (d : Machine X) → k < length ms
    → get_or ms k d ≡ record {
      work = work;
      callers = callers;
      cells = cells;
      limit = limit;
      call = (get_or ms k d).call;
    }

-- the call states of the machines
abbrev pub call_states : {X : Type 0} → List (Machine X) → List CallState
call_states ms = map (λ m. m.call) ms
