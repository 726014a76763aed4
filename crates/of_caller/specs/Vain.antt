-- When a call is spent: in a round that began at the limit, the call's ticket isn't in its caller's
-- ticket cell.
use Rattle.std.specs.Prelude.{◌≡◌, ◌≢◌, ℕ, ◌≤◌, ◌↔◌, List}
use Rattle.of_cell.specs.Words.{seq_of, payload_of}
use Rattle.of_core.specs.declared.place.Place.TheVariants.{LoadOwnTicket}
use Rattle.of_core.specs.declared.place.Outcome.{Outcome}
use Rattle.of_core.specs.declared.place.Outcome.TheVariants.{Answered, Spent, Lost}
use Rattle.of_core.specs.Table.{Setup}
use Rattle.of_core.specs.Machine.{CallState, IsOpen}
use Rattle.of_core.specs.Steps.{take_word}
use Rattle.of_core.specs.Meets.{MayTake}

-- The machine is in a round that has loaded the current-transaction word at the limit. It loads its
-- caller's ticket cell in the state of that round, and does not find the call's ticket there.
abbrev pub MissesOwnTicketAtLimit : Setup → CallState → (found : ℕ) → Type 0
MissesOwnTicketAtLimit S m found =
    (m.place ≡ LoadOwnTicket) × (m.seq ≡ S.limit) × (seq_of found ≤ m.seq)
    × (payload_of found ≢ m.made)

abbrev pub IsSpent : Outcome → Type 0
IsSpent (Answered s announced raw steps) = ⊥
IsSpent (Spent s) = Unit {0}
IsSpent (Lost s) = ⊥

-- A machine with an open call has come to d by a step that found a word of the table. The outcome o
-- is that of a spent call exactly if the machine was in a round at the limit and did not find the
-- call's ticket by this step.
pub record IsLastStep (S : Setup) (Lawful : List ℕ → Type 0) (d : CallState) (o : Outcome)
    : Type 0 where
  pub machine : CallState
  pub found : ℕ
  -- the step may have found this word on the table
  pub meets : MayTake S Lawful machine found
  pub open_call : IsOpen machine.place
  pub leads : d ≡ take_word S machine found
  pub spent : IsSpent o ↔ MissesOwnTicketAtLimit S machine found
