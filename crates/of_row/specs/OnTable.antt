-- Which steps of a machine may be made on a row's table, and what each does to the seat that makes
-- it.
use Rattle.std.specs.Prelude.{◌≡◌, ◌<◌, ℕ, List, Option}
use Rattle.atomic_table.specs.Table.{Allows}
use Rattle.atomic_table.specs.Seated.{TableId}
use Rattle.atomic_table.specs.declared.shared.Seat.{Seat}
use Rattle.of_mem.specs.Meaning.{Meaning}
use Rattle.of_core.specs.declared.place.Op.{Op}
use Rattle.of_core.specs.declared.place.Op.TheVariants.{Load, Store, Exchange, Raise}
use Rattle.of_core.specs.Steps.{word_of, word_left}
use Rattle.of_core.specs.TableMoment.{TableStart}
use Rattle.of_core.specs.MachineValue.{Machine}
use Rattle.of_row.specs.declared.view.RowKey.{RowKey}
use Rattle.of_row.specs.declared.view.View.{View}
use Rattle.of_row.specs.Rule.{MeetsRule}
use Rattle.of_row.specs.Keys.{FitsWork, key_setup, key_start}
use Rattle.of_row.specs.Turned.{MakesStepOf}

-- what a step answers if it has found n: a store answers the number that it stored, any other step
-- answers n
abbrev pub number_given : Op → ℕ → ℕ
number_given (Load c) n = n
number_given (Store c v) n = v
number_given (Exchange c a b) n = n
number_given (Raise c v) n = n

-- The seat may make this step of a machine: the seat is at the table, the step's word is on the
-- table, and, whatever the words are, the step keeps the row's rule and changes the seat's view as
-- `MakesStep` says.
abbrev pub Takes : {W : Type 0} → (many size : W → ℕ) → (W → Meaning) → (W → List ℕ → Type 0)
    → TableStart → Option (Machine W) → RowKey W → TableId → Seat (Unit {0}) View → Op → Type 0
Takes many size meaning lawful B m key table seat op =
    (seat.table_id ≡ table) × (word_of op < table.words)
    × Allows (λ s. FitsWork many size key
    × MeetsRule (key_setup meaning key) (lawful key.work) (key_start meaning key) s)
    table.slots seat.id seat.me (word_of op) (word_left op)
    (λ n after. (after.1 ≡ seat.me.1)
    × MakesStepOf meaning lawful B m seat.me.0 (number_given op n) after.0)

-- after a step that gave the number `found`, the seat is at the same table, and its view has
-- changed as `MakesStep` says
abbrev pub TurnsSeat : {W : Type 0} → (W → Meaning) → (W → List ℕ → Type 0)
    → TableStart → Option (Machine W) → (seat : Seat (Unit {0}) View) → (found : ℕ)
    → (after : Seat (Unit {0}) View) → Type 0
TurnsSeat meaning lawful B m seat found after =
    (after.table_id ≡ seat.table_id) × (after.me.1 ≡ seat.me.1)
    × MakesStepOf meaning lawful B m seat.me.0 found after.me.0
