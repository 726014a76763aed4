-- What holds at every moment whatever the machines do: a start that a table may have, lawful
-- states, and sizes that fit.
use Rattle.std.specs.Prelude.{ℕ, ◌+◌, List, length, ◌≤◌, ◌<◌}
use Rattle.of_cell.specs.declared.word.TheConstants.{PAYLOADS}
use Rattle.of_mem.specs.declared.work.TheConstants.{MOST_INSTRS}
use Rattle.of_core.specs.Table.{Setup, first_operation_cell, words_before_members}
use Rattle.of_core.specs.TableMoment.{Moment, TableStart}
use Rattle.of_core.specs.History.{batch_at, numbers_after}
use Rattle.of_core.specs.WordsMatch.{MayStart, IsLog}
use Rattle.of_core.specs.Invariant.{MeetsInvariant}

-- what holds of the start, the states and the sizes at each moment
pub record HasGrounds (S : Setup) (Lawful : List ℕ → Type 0) (B : TableStart) (w : Moment)
    : Type 0 where
  -- the table has begun at a start that a table may have
  pub may_start : MayStart S Lawful B
  -- the state after each batch is lawful
  pub states : (k : ℕ) → B.seq ≤ k → k ≤ B.seq + length w.batches
      → Lawful (numbers_after B w.batches k)
  -- each batch's log has entries of data cells, none twice
  pub logs : (k : ℕ) → B.seq < k → k ≤ B.seq + length w.batches
      → IsLog S (batch_at B w.batches k).log
  -- the table has room for all its words, and its numbers fit a word
  pub room : words_before_members S ≤ length w.words
  pub callers : S.callers < PAYLOADS
  pub instrs : S.instrs ≤ MOST_INSTRS
  pub cells : S.cells < PAYLOADS
  pub own_in : first_operation_cell S ≤ S.cells

-- each moment that meets the invariant has grounds: a start that a table may have, lawful states,
-- and sizes that fit (`HasGrounds`)
abbrev pub GoodGrounds : Setup → (List ℕ → Type 0) → Type 0
GoodGrounds S Lawful =
    (B : TableStart) (w : Moment) → MeetsInvariant S Lawful B w → HasGrounds S Lawful B w
