-- What contracts say of calls over cells: which program a call runs as, and what it does to the
-- store.
use Rattle.std.specs.Prelude.{◌≡◌, ℕ, length, Result, MatchResult, IfOk}
use Rattle.of_mem.specs.declared.part.Need.{Need}
use Rattle.of_mem.specs.declared.plot.Plot.{Plot}
use Rattle.of_mem.specs.Plots.{base, data_cell_count}
use Rattle.of_mem.specs.Part.{Part}
use Rattle.of_mem.specs.Programs.{Program, RunsAs, NeedsAt, IsPartOf, with_writes}
use Rattle.of_mem.specs.Stores.{CellStore, StandsForStore}

-- The call ran as the program f: it gave the answer of f and left the partial memory that f leaves,
-- or its error names the cell that f needs and that is not known. It did not change the known cells
-- or the batch's writes.
pub record RunsProgram {A : Type 0} (f : Program A) (before after : Part) (result : Result A Need)
    : Type 0 where
  pub walk : MatchResult result (λ r. RunsAs f before r after) (λ need. NeedsAt f before need.addr)
  pub known : after.known ≡ before.known
  pub batch : after.batch ≡ before.batch

-- in the memory m, the cells of the plot stand for the store s
abbrev pub PlotStandsForStore : Plot → (ℕ → ℕ) → CellStore → Type 0
PlotStandsForStore plot m s = StandsForStore (base plot) plot.blocks m s

-- the partial memory has as many cells as the plot, and agrees with some memory that stands for a
-- store
pub record HasStore (plot : Plot) (p : Part) : Type 0 where
  pub fits : length p.known ≡ data_cell_count plot
  pub memory : ℕ → ℕ
  pub store : CellStore
  pub part : IsPartOf p memory
  pub stands : PlotStandsForStore plot memory store

-- If the call answered, then for every memory m that agrees with p, and every store s for which m
-- stands, the answer is `answer s`.
abbrev pub AnswersOfStore : {A : Type 0} → Plot → Part → Result A Need → (CellStore → A) → Type 0
AnswersOfStore plot p result answer =
    IfOk result (λ r. (m : ℕ → ℕ) (s : CellStore) → IsPartOf p m → PlotStandsForStore plot m s
    → r ≡ answer s)

-- The call answered r, which is the answer for the store s. The memory m with the script's writes
-- agrees with what the call left, and stands for the store `next s`.
pub record HasActedOnStore {A : Type 0} (plot : Plot) (m : ℕ → ℕ) (s : CellStore) (r : A)
    (after : Part) (answer : CellStore → A) (next : CellStore → CellStore) : Type 0 where
  pub answers : r ≡ answer s
  pub part : IsPartOf after (with_writes m after.script)
  pub stands : PlotStandsForStore plot (with_writes m after.script) (next s)

-- If the call answered, then for every memory m that agrees with `before`, and every store s for
-- which m stands: the answer is `answer s`, and with the script's writes the memory stands for the
-- store `next s`.
abbrev pub ActsOnStore : {A : Type 0} → Plot → Part → Part → Result A Need
    → (CellStore → A) → (CellStore → CellStore) → Type 0
ActsOnStore plot before after result answer next =
    IfOk result (λ r. (m : ℕ → ℕ) (s : CellStore)
    → IsPartOf before m → PlotStandsForStore plot m s
    → HasActedOnStore plot m s r after answer next)
