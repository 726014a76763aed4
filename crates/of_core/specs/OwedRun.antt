-- A run that is owed: the machine has come to the run of its try, or of a script of its scan. This
-- run is made outside of the machine, on cells that the machine loads as they are asked for.
use Rattle.std.specs.Prelude.{◌≡◌, ℕ, ◌+◌, ◌≤◌, List, [], length, Bool, true, false, if◌then◌else◌}
use Rattle.of_mem.specs.declared.work.RawReply.{RawReply}
use Rattle.of_mem.specs.Meaning.{Meaning, WalkEnd, Needs, Gives}
use Rattle.of_mem.specs.Part.{Part, overlaid}
use Rattle.of_core.specs.declared.place.Place.{Place}
use Rattle.of_core.specs.declared.place.Place.TheVariants.{TryCell, LoadCell}
use Rattle.of_core.specs.Fit.{is_scanning}
use Rattle.of_core.specs.Machine.{CallState, no_cell_known, with_cell_known}
use Rattle.of_core.specs.MachineValue.{Machine, machine_setup, machine_after, KnowsState}
use Rattle.of_core.specs.Steps.{read_on, run_script, take_word_at, with_step_counted}
use Rattle.of_core.specs.Table.{Setup}

-- the load of a cell for a run of the scan, or for the run of a try
abbrev pub load_for : (in_scan : Bool) → (addr : ℕ) → Place
load_for true a = LoadCell a
load_for false a = TryCell a

-- what runs: in the scan the script of the caller that the scan has come to, in a try the call's
-- own operation
abbrev pub owed_words : (in_scan : Bool) → CallState → List ℕ
owed_words b m = if b then m.script else m.op

-- the writes that the run sees over the known cells: those of the batch, or in a try none
abbrev pub run_batch : (in_scan : Bool) → CallState → List (ℕ × ℕ)
run_batch b m = if b then m.log else []

-- the partial memory that the run sees before it writes
abbrev pub run_part : (in_scan : Bool) → CallState → Part
run_part b m = record { known = m.known; batch = run_batch b m; script = [] }

-- how the machine's run ends on the cells that the machine knows
abbrev pub run_end : {X : Type 0} → (X → Meaning) → Machine X → WalkEnd
run_end meaning m =
    (meaning m.work).walk
    (overlaid m.call.known (run_batch (is_scanning m.call.place) m.call))
    (owed_words (is_scanning m.call.place) m.call)

-- the call's state after the run
abbrev pub make_run : (in_scan : Bool) → Setup → CallState → CallState
make_run true S m = run_script S m
make_run false S m = read_on S m

-- the machine after the run that it owes
abbrev pub after_run : {X : Type 0} → (X → Meaning) → Machine X → Machine X
after_run meaning m = machine_after meaning (make_run (is_scanning m.call.place)) m

-- the machine after its run if this run is owed, and otherwise the machine itself
abbrev pub after_run_if : {X : Type 0} → (X → Meaning) → (owed : Bool) → Machine X → Machine X
after_run_if meaning true m = after_run meaning m
after_run_if meaning false m = m

-- the machine after its step from this place, which has found this number
abbrev pub after_step_at : {X : Type 0} → (X → Meaning) → Place → (found : ℕ) → Machine X
    → Machine X
after_step_at meaning p found m =
    machine_after meaning (λ S d. take_word_at S (with_step_counted p d) found p) m

-- the call's state at the run of a try, where no cell is known yet
abbrev pub open_reading : Setup → CallState → CallState
open_reading S m = record m { place = TryCell 0; known = no_cell_known S; helps = false }

-- The machine owes the run of its try or of a script of its scan. What the run sees is known of
-- some lawful state.
pub record OwesRun {X : Type 0} (meaning : X → Meaning) (lawful : X → List ℕ → Type 0)
    (m : Machine X) : Type 0 where
  pub at_load : (a : ℕ) × (m.call.place ≡ load_for (is_scanning m.call.place) a)
  -- the run of a try is that of an operation that only reads
  pub reads : is_scanning m.call.place ≡ false → (meaning m.work).reads_only m.call.op ≡ true
  pub some : 1 ≤ length (owed_words (is_scanning m.call.place) m.call)
  pub size : length m.call.known ≡ m.cells
  pub knows : KnowsState lawful m
      (overlaid m.call.known (run_batch (is_scanning m.call.place) m.call))

-- the machine's run, on the cells that the machine knows, needs this cell
abbrev pub LacksCell : {X : Type 0} → (X → Meaning) → Machine X → ℕ → Type 0
LacksCell meaning m a = run_end meaning m ≡ Needs a

-- the machine's run, on the cells that the machine knows, ends with this reply
abbrev pub RunGives : {X : Type 0} → (X → Meaning) → Machine X → RawReply → Type 0
RunGives meaning m r = (es : List (ℕ × ℕ)) × (run_end meaning m ≡ Gives es r)

-- the machine at the load of this cell
abbrev pub at_load : {X : Type 0} → Machine X → ℕ → Machine X
at_load m a = record m { call = record m.call { place = load_for (is_scanning m.call.place) a } }

-- the machine after a load that has made a cell known
abbrev pub with_cell_loaded : {X : Type 0} → (X → Meaning) → Machine X → (a found : ℕ) → Machine X
with_cell_loaded meaning m a found = record m {
  call = record m.call {
    steps = m.call.steps + 1;
    known = with_cell_known (machine_setup meaning m) m.call a found;
  };
}
