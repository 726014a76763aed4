-- What a turn answers, and what turns of one caller do that come one after the other.
use Rattle.std.specs.Prelude.{◌≡◌, ℕ, ◌<◌, replicate, Option, Some, None}
use Rattle.of_mem.specs.Meaning.{Meaning}
use Rattle.of_core.specs.declared.bank.Turn.{Turn}
use Rattle.of_core.specs.declared.bank.Turn.TheVariants.{Idle as NoCall, Open, Ended}
use Rattle.of_core.specs.declared.place.Outcome.{Outcome}
use Rattle.of_core.specs.declared.place.Place.{Place}
use Rattle.of_core.specs.declared.place.Place.TheVariants.{Idle}
use Rattle.of_core.specs.Machine.{CallState}
use Rattle.of_core.specs.MachineValue.{ended_outcome}
use Rattle.of_core.specs.Events.{Turns}
use Rattle.of_core.specs.Moment.{Bank, bank_after, machine_of}

-- what a turn of an open call answers: the call has ended with this outcome, or it is still open
abbrev pub turn_of_outcome : Option Outcome → Turn
turn_of_outcome None = Open
turn_of_outcome (Some o) = Ended o

-- what a turn answers, if the machine was at this place before the turn and is m after it
abbrev pub turn_at : Place → CallState → Turn
turn_at Idle m = NoCall
turn_at p m = turn_of_outcome (ended_outcome m)

-- what a turn answers, if it leads from the machine `before` to the machine `now`
abbrev pub turn_of : (before now : CallState) → Turn
turn_of before now = turn_at before.place now

-- no call of the machine is open
abbrev pub IsIdle : CallState → Type 0
IsIdle m = m.place ≡ Idle

-- n turns of caller c lead from the bank `before` to the bank `now`, and the caller's call is open
-- before each of these turns
pub record MakesTurns {X : Type 0} (meaning : X → Meaning) (c n : ℕ) (before now : Bank X)
    : Type 0 where
  pub after : now ≡ bank_after meaning (replicate n (Turns c)) before
  pub stays_open : (k : ℕ) → k < n
      → IsIdle (machine_of (bank_after meaning (replicate k (Turns c)) before) c) → ⊥
