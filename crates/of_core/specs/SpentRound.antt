-- A call is spent only in one of its rounds, with its announcement on the table.
use Rattle.std.specs.Prelude.{ℕ, List, length, Some, ◌≡◌, ◌≤◌}
use Rattle.of_cell.specs.Words.{pack}
use Rattle.of_core.specs.declared.place.Place.TheVariants.{Idle, LoadOwnTicket}
use Rattle.of_core.specs.declared.place.Outcome.TheVariants.{Spent}
use Rattle.of_core.specs.Table.{Setup, announcement_of}
use Rattle.of_core.specs.Machine.{CallState, IsOpen}
use Rattle.of_core.specs.Steps.{take_word}
use Rattle.of_core.specs.TableMoment.{Moment}
use Rattle.of_core.specs.Laws.{EachStep}

-- where the machine m of caller i is when its next step spends its call at s: before the load of
-- its own ticket cell, in one of its three rounds, at the sequence s, with its announcement on the
-- table
pub record IsSpentInRound (S : Setup) (w : Moment) (i : ℕ) (m : CallState) (s : ℕ) : Type 0 where
  -- the step loads the caller's own ticket cell
  pub place : m.place ≡ LoadOwnTicket
  -- the call is in one of its rounds, at the sequence s
  pub begun : 1 ≤ m.rounds
  pub few : m.rounds ≤ 3
  pub seq : m.seq ≡ s
  -- the call's announcement is on the table
  pub says : announcement_of S w.words i ≡ pack m.made (length m.op)

-- if a step ends an open call as spent at s, the machine is where `IsSpentInRound` says
abbrev pub SpentInRounds : Setup → (List ℕ → Type 0) → Type 0
SpentInRounds S Lawful = EachStep S Lawful (λ B w i m n.
    (s : ℕ) → IsOpen m.place → (take_word S m n).place ≡ Idle
    → (take_word S m n).answer ≡ Some (Spent s)
    → IsSpentInRound S w i m s)
