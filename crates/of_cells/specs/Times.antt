-- Real time: which calls of a caller have ended before calls of another began.
use Rattle.std.specs.Prelude.{ℕ, ◌≤◌, List, length}
use mathlib.Core.List.{IsPrefix}
use Rattle.of_core.specs.Table.{Setup}
use Rattle.of_core.specs.TableMoment.{TableStart}
use Rattle.of_core.specs.Events.{Event}
use Rattle.of_core.specs.Calls.{operations_begun, outcomes}
use Rattle.of_row.specs.Trail.{first_of}

-- how many calls of caller n have ended in these events of a table
abbrev pub calls_ended_in : Setup → TableStart → List Event → (n : ℕ) → ℕ
calls_ended_in S B es n = length (outcomes S (first_of S B) es n)

-- how many calls of caller n have begun in these events
abbrev pub calls_begun_in : List Event → (n : ℕ) → ℕ
calls_begun_in es n = length (operations_begun es n)

-- the first x calls of caller n have ended before caller k begins its call y + 1: at some moment of
-- these events x calls of n have ended, and at most y calls of k have begun
pub record EndBefore (S : Setup) (B : TableStart) (es : List Event) (n x k y : ℕ) : Type 0 where
  pub moment : List Event
  pub early : IsPrefix moment es
  pub ended : x ≤ calls_ended_in S B moment n
  pub begun : calls_begun_in moment k ≤ y
