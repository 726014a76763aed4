-- What the durable words of a memory hold at any moment, so also when its process is killed.
use Rattle.std.specs.Prelude.{◌≡◌, ◌⊎◌, ℕ, ◌<◌, ◌≤◌, List, false}
use Rattle.std.specs.Int.{bit_at}
use mathlib.Core.Option.{some}
use lib.ListN.{get_elem?}
use Rattle.atomic_table.specs.Table.{State}
use Rattle.of_cell.specs.declared.word.TheConstants.{GREATEST_LIMIT}
use Rattle.of_store.specs.Store.{Store}
use Rattle.of_eval.specs.declared.scripts.Scripts.{Scripts}
use Rattle.of_eval.specs.Scripts.{LawfulCells, scripts_meaning}
use Rattle.of_core.specs.Table.{Setup}
use Rattle.of_core.specs.TableMoment.{TableStart}
use Rattle.of_core.specs.Starts.{IsDurable}
use Rattle.of_row.specs.Rows.{key_of, setup_at}
use Rattle.of_row.specs.Views.{View}
use Rattle.of_caller.specs.PlanRows.{start_of_row}
use Rattle.of_row.specs.Rule.{MeetsRule, members_of}
use Rattle.of_row.specs.Trail.{EachView}
use Rattle.of_memory.specs.declared.memory.Memory.{Memory}
use Rattle.of_memory.specs.Calls.{RunsScripts}
use Rattle.of_cells.specs.Serving.{KeepsSo}
use Rattle.of_memory.specs.Rows.{StandsAt, HoldsLastReplies}
use Rattle.of_memory.specs.Laws.{setup_with, HistoryFound}
use Rattle.of_memory.specs.Words.{AreStartWords}
use Rattle.of_memory.specs.Memories.{row_of, limit_of, StartsWith}

-- one of the views is not spent and keeps the caller of this number; all calls of this caller are
-- calls of scripts
pub record IsKeptByOne (vs : List View) (n : ℕ) : Type 0 where
  pub seat : ℕ
  pub view : View
  pub there : get_elem? vs seat ≡ some view
  pub live : view.spent ≡ false
  pub keeps : KeepsSo n RunsScripts view.kept

-- for each number that is taken, a view that is not spent keeps its caller, and all calls of this
-- caller are calls of scripts
abbrev pub EachRunsScripts : Setup → State (Unit {0}) View → Type 0
EachRunsScripts S s =
    (n : ℕ) → n < S.callers → (bit_at (members_of S s.words) n ≡ 0) ⊎ IsKeptByOne s.views n

-- Suppose that the row's start held a reply to the last call of each caller, and that the limit is
-- in its range. At each moment of a row of these scripts, also between two steps on it, if all
-- calls of the numbers that are taken are calls of scripts, a table may start from what recovery
-- finds in the durable words of that moment. One serial history leads from the store with which the
-- row has started to what recovery finds. The history has each answered call of a caller that a
-- pass or a member keeps, with its reply and its sequence, and besides these calls only open ones.
abbrev pub WordsHoldHistory : Scripts → (limit : ℕ) → Type 0
WordsHoldHistory w limit =
    let S : Setup = setup_with w limit in
    (B : TableStart) (s : State (Unit {0}) View) → MeetsRule S (LawfulCells w) B s
    → EachRunsScripts S s → HoldsLastReplies w B → 1 ≤ limit → limit ≤ GREATEST_LIMIT
    → (words : List ℕ) → IsDurable S s.words words →
    AreStartWords w limit words
    × ((t : Store) → StandsAt w B t → HistoryFound w limit B t words (λ P. EachView P s.views))

-- At each moment of the memory's row, also between two steps on it, if all calls of the numbers
-- that are taken are calls of scripts, a memory may go on from what recovery finds in the durable
-- words of that moment. One serial history leads to what is found from the store with which the
-- memory was opened.
abbrev pub HoldsWordsAlways : Memory → Type 0
HoldsWordsAlways m =
    let S : Setup = setup_at scripts_meaning (row_of m) in
    let w : Scripts = (key_of (row_of m)).work in
    let B : TableStart = start_of_row (row_of m) in
    (s : State (Unit {0}) View) → MeetsRule S (LawfulCells w) B s → EachRunsScripts S s
    → (words : List ℕ) → IsDurable S s.words words →
    AreStartWords w (limit_of m) words
    × ((t : Store) → StartsWith m t
    → HistoryFound w (limit_of m) B t words (λ P. EachView P s.views))
