-- How many steps a call makes at most if the operations of its work touch few cells, whatever the
-- size of the memory.
use Rattle.std.specs.Prelude.{ℕ, ◌+◌, ◌*◌, List, length, Bool, true, false, ◌≡◌, ◌≤◌, ◌<◌}
use Rattle.of_mem.specs.Touching.{TouchesFew}
use Rattle.of_core.specs.declared.machine.trying.TheConstants.{MOST_TRIES}
use Rattle.of_core.specs.Table.{Setup}
use Rattle.of_core.specs.Machine.{CallState, IsOpen}
use Rattle.of_core.specs.Events.{after_events, machine_in, opening_moment}
use Rattle.of_core.specs.Footprint.{footprint}
use Rattle.of_core.specs.Laws.{EachSchedule}

-- the most entries of a log: for each caller, the writes of its operation and the caller's own
-- cells
abbrev pub longest_log : Setup → (writes : ℕ) → ℕ
longest_log S writes = S.callers * (writes + (S.instrs + 2))

-- The most data cells that one try or round loads: the caller's own ticket cell, and for each
-- caller its ticket cell and the cells that its operation reads.
abbrev pub most_loads : Setup → (reads : ℕ) → ℕ
most_loads S reads = S.callers * (reads + 1) + 1

-- the most tries of a call that only reads; 0 for a call that may write
abbrev pub most_tries : (reads_only : Bool) → ℕ
most_tries true = MOST_TRIES
most_tries false = 0

-- the most steps of a call with these words, in three rounds, if no operation reads or writes
-- more cells than this
abbrev pub touched_bound : Setup → List ℕ → (reads writes : ℕ) → ℕ
touched_bound S op reads writes =
    footprint S op (longest_log S writes) (most_loads S reads)
    (most_tries (S.meaning.reads_only op)) 3

-- if no operation of the work reads more than `reads` cells or writes more than `writes`, the steps
-- are at most the bound for these two numbers, whatever the two numbers are
abbrev pub IsWithinTouched : Setup → (List ℕ → Type 0) → (op : List ℕ) → (steps : ℕ) → Type 0
IsWithinTouched S Lawful op steps =
    (reads writes : ℕ) → TouchesFew S.meaning Lawful S.cells reads writes
    → steps ≤ touched_bound S op reads writes

-- in each schedule from a start, an open call has made fewer steps than the bound by what
-- operations touch
abbrev pub ByTouch : Setup → (List ℕ → Type 0) → Type 0
ByTouch S Lawful = EachSchedule S Lawful (λ B n es.
    (i : ℕ) → i < S.callers
    → let m : CallState = machine_in (after_events S (opening_moment S B n) es) i in
    IsOpen m.place → IsWithinTouched S Lawful m.op (m.steps + 1))

-- The bound of a call that may write, as a formula: it grows with the callers and with what their
-- operations touch, and with nothing else.
abbrev pub TouchedBoundOfWrites : Type 0
TouchedBoundOfWrites =
    (S : Setup) (op : List ℕ) (reads writes : ℕ) → S.meaning.reads_only op ≡ false
    → touched_bound S op reads writes
    ≡ 34 * (S.callers * (writes + (S.instrs + 2))) + 3 * (S.callers * (reads + S.instrs + 2))
    + length op + 46

-- a worked case of the bound: three callers, operations that read and write at most two cells, and
-- a call of three words that may write
abbrev pub TouchedBoundOfTransfers : Type 0
TouchedBoundOfTransfers =
    (S : Setup) (op : List ℕ) → S.callers ≡ 3 → S.instrs ≡ 16 → length op ≡ 3
    → S.meaning.reads_only op ≡ false → touched_bound S op 2 2 ≡ 2269
