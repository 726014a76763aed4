-- Events, schedules and the moments that they leave.
use Rattle.std.specs.Prelude.{◌==◌, Bool, true, false, ℕ, ◌+◌, max, List, [], ◌∷◌, ◌++◌, length, ◌≡◌, ◌≤◌, ◌<◌}
use Rattle.std.proofs.Common.{get_or, set, take, replicate, zero, suc}
use Rattle.of_cell.specs.declared.word.TheConstants.{PAYLOADS}
use Rattle.of_core.specs.declared.place.Place.TheVariants.{Idle}
use Rattle.of_cell.specs.Words.{payload_of}
use Rattle.of_core.specs.Table.{Setup, cell_count, durable_at, ticket_cell}
use Rattle.of_core.specs.Machine.{CallState, IsOpen, no_machine, idle_machine, begin_call}
use Rattle.of_core.specs.Steps.{word_found}
use Rattle.of_core.specs.TableMoment.{Moment, TableStart, after_step}
use Rattle.of_core.specs.Starts.{first_words}
use Rattle.of_core.specs.Remains.{remains_of, MayRevive, revived_machine, CountsOn, after_revival}

-- what may happen to a table
pub data Event : Type 0 where
  -- a caller begins a call of this operation
  Begins : ℕ → List ℕ → Event
  -- a caller makes its next step
  Turns : ℕ → Event
  -- a cell is loaded for an eviction
  Loads : ℕ → Event
  -- the durable word of a cell is raised to a word that was loaded from the cell for an eviction.
  -- The number is the index of this word, from 0, in the list of all words that were loaded for
  -- evictions
  Evicts : ℕ → Event
  -- a whole eviction in one step: the durable word of a cell is raised to the word that the cell
  -- holds
  Raises : ℕ → Event
  -- a new machine takes the place of a caller's lost one, and is given the number of its calls
  Revives : ℕ → (made : ℕ) → Event

-- the machine of caller i
abbrev pub machine_in : Moment → ℕ → CallState
machine_in w i = get_or w.machines i no_machine

-- the moment after the durable word of the cell e.0 is raised to the word e.1
abbrev pub after_raise : Setup → Moment → ℕ × ℕ → Moment
after_raise S w e = record w {
  words = set w.words (durable_at S e.0) (max (get_or w.words (durable_at S e.0) 0) e.1);
}

-- the moment after the machine m of caller i begins a call of this operation
abbrev pub after_begin : Setup → ℕ → CallState → List ℕ → Moment → Moment
after_begin S i m op w = record w { machines = set w.machines i (begin_call S m op) }

-- the moment after an event
abbrev pub after_event : Setup → Moment → Event → Moment
after_event S w (Begins i op) = after_begin S i (machine_in w i) op w
after_event S w (Loads c) = record w { loaded = w.loaded ++ (c, get_or w.words c 0) ∷ [] }
after_event S w (Evicts k) = after_raise S w (get_or w.loaded k (0, 0))
after_event S w (Raises c) = after_raise S w (c, get_or w.words c 0)
after_event S w (Revives i made) = after_revival S i made w
after_event S w (Turns i) =
    after_step S i (machine_in w i) (word_found S w.words (machine_in w i)) w

-- when an event may happen. A call begins only if its caller has no open call, with at least one
-- word and at most as many as an operation may have. A machine is replaced only if the words allow
-- it (`MayRevive`), and the new machine counts the same calls
abbrev pub MayHappen : Setup → Moment → Event → Type 0
MayHappen S w (Begins i op) =
    (i < S.callers) × ((machine_in w i).place ≡ Idle) × (1 ≤ length op) × (length op ≤ S.instrs)
    × ((machine_in w i).made + 1 < PAYLOADS)
MayHappen S w (Loads c) = c < cell_count S
MayHappen S w (Evicts k) = k < length w.loaded
MayHappen S w (Raises c) = c < cell_count S
MayHappen S w (Turns i) = i < S.callers
MayHappen S w (Revives i made) =
    (i < S.callers) × MayRevive (remains_of S w.words i) i
    × CountsOn (machine_in w i) (revived_machine S (remains_of S w.words i) i made)

-- the moment that a list of events leaves
abbrev pub after_events : Setup → Moment → List Event → Moment
after_events S w [] = w
after_events S w (e ∷ es) = after_events S (after_event S w e) es

-- each event may happen when it comes
abbrev pub IsSchedule : Setup → Moment → List Event → Type 0
IsSchedule S w [] = Unit {0}
IsSchedule S w (e ∷ es) = MayHappen S w e × IsSchedule S (after_event S w e) es

-- the cell c has held v at one of the moments that the events lead through
abbrev pub HasStood : Setup → Moment → List Event → (c v : ℕ) → Type 0
HasStood S w es c v =
    (k : ℕ) × (k ≤ length es) × (get_or (after_events S w (take k es)).words c 0 ≡ v)

-- how many calls caller i has made before a start: the number in its ticket cell
abbrev pub start_ticket : Setup → TableStart → ℕ → ℕ
start_ticket S B i = payload_of (get_or B.cells (ticket_cell S i) 0)

-- n idle machines from caller i on; each caller has made the calls that `made` counts
abbrev pub idle_machines : Setup → (made : ℕ → ℕ) → ℕ → ℕ → List CallState
idle_machines S made i zero = []
idle_machines S made i (suc n) = idle_machine S i (made i) ∷ idle_machines S made (suc i) n

-- a table of n words at its start, before anything has happened
abbrev pub opening_moment : Setup → TableStart → ℕ → Moment
opening_moment S B n = record {
  words = first_words S.callers S.cells B n;
  machines = idle_machines S (start_ticket S B) 0 S.callers;
  batches = [];
  reads = [];
  loaded = [];
}

-- the start of a table of zeros
abbrev pub zero_start : Setup → TableStart
zero_start S = record { seq = 0; owner = 0; cells = replicate S.cells 0 }

-- 1 if the flag is set, and otherwise 0
abbrev pub one_if : Bool → ℕ
one_if true = 1
one_if false = 0

-- 1 if the event is a turn of caller i, and otherwise 0
abbrev pub turns_in_event : ℕ → Event → ℕ
turns_in_event i (Begins j op) = 0
turns_in_event i (Turns j) = one_if (i == j)
turns_in_event i (Loads c) = 0
turns_in_event i (Evicts k) = 0
turns_in_event i (Raises c) = 0
turns_in_event i (Revives j made) = 0

-- how many of the events are turns of caller i
abbrev pub turn_count : ℕ → List Event → ℕ
turn_count i [] = 0
turn_count i (e ∷ es) = turns_in_event i e + turn_count i es

-- the event replaces no machine
abbrev pub ReplacesNone : Event → Type 0
ReplacesNone (Begins j op) = Unit {0}
ReplacesNone (Turns j) = Unit {0}
ReplacesNone (Loads c) = Unit {0}
ReplacesNone (Evicts k) = Unit {0}
ReplacesNone (Raises c) = Unit {0}
ReplacesNone (Revives j made) = ⊥

-- none of the events replaces a machine
abbrev pub AllReplaceNone : List Event → Type 0
AllReplaceNone [] = Unit {0}
AllReplaceNone (e ∷ es) = ReplacesNone e × AllReplaceNone es

-- the event doesn't replace the machine of caller i
abbrev pub KeepsMachine : Event → ℕ → Type 0
KeepsMachine (Begins j op) i = Unit {0}
KeepsMachine (Turns j) i = Unit {0}
KeepsMachine (Loads c) i = Unit {0}
KeepsMachine (Evicts k) i = Unit {0}
KeepsMachine (Raises c) i = Unit {0}
KeepsMachine (Revives j made) i = j ≡ i → ⊥

-- caller i has an open call, and has it after each of the events, with the same machine
abbrev pub StaysOpen : Setup → Moment → List Event → ℕ → Type 0
StaysOpen S w [] i = IsOpen (machine_in w i).place
StaysOpen S w (e ∷ es) i =
    IsOpen (machine_in w i).place × StaysOpen S (after_event S w e) es i × KeepsMachine e i
