-- What contracts see of a machine.
use Rattle.std.specs.Prelude.{ℕ, List, Option, None}
use Rattle.of_mem.specs.Meaning.{Meaning, KnowsSome}
use Rattle.of_core.specs.declared.place.Place.{Place}
use Rattle.of_core.specs.declared.place.Place.TheVariants.{Idle}
use Rattle.of_core.specs.declared.place.Outcome.{Outcome}
use Rattle.of_core.specs.declared.place.Op.{Op}
use Rattle.of_core.specs.Table.{Setup, setup_of}
use Rattle.of_core.specs.Machine.{CallState}
use Rattle.of_core.specs.Steps.{want_at, take_word_at}

-- a machine as contracts see it
pub record Machine (X : Type 0) : Type 0 where
  -- what runs operations
  pub work : X
  -- how many callers and data cells there are, and the last sequence that may be committed
  pub callers : ℕ
  pub cells : ℕ
  pub limit : ℕ
  -- the state of the machine's call
  pub call : CallState

-- what a machine has in common with all machines of its table; the first argument gives the meaning
-- of a work
abbrev pub machine_setup : {X : Type 0} → (X → Meaning) → Machine X → Setup
machine_setup meaning m = setup_of m.callers m.cells m.limit (meaning m.work)

-- the machine after its step from the place p, which has found this number; the step is counted
-- already
abbrev pub step_from : {X : Type 0} → (X → Meaning) → Place → (found : ℕ) → Machine X → Machine X
step_from meaning p found m =
    record m { call = take_word_at (machine_setup meaning m) m.call found p }

-- the machine after `next` has changed its call state
abbrev pub machine_after : {X : Type 0} → (X → Meaning) → (Setup → CallState → CallState)
    → Machine X → Machine X
machine_after meaning next m = record m { call = next (machine_setup meaning m) m.call }

-- the step that the machine makes next if it is at the place p
abbrev pub op_at : {X : Type 0} → (X → Meaning) → Place → Machine X → Op
op_at meaning p m = want_at (machine_setup meaning m) m.call p

-- the known cells are those of some state that is lawful for the machine's work
abbrev pub KnowsState : {X : Type 0} → (X → List ℕ → Type 0) → Machine X
    → (known : List (Option ℕ)) → Type 0
KnowsState lawful m known = KnowsSome (lawful m.work) m.cells known

-- how the last call of a machine ended; none if a call is open
abbrev pub ended_outcome_at : Place → CallState → Option Outcome
ended_outcome_at Idle m = m.answer
ended_outcome_at p m = None

abbrev pub ended_outcome : CallState → Option Outcome
ended_outcome m = ended_outcome_at m.place m
