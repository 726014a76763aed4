-- What the close of a day's memory leaves: all the money, and the balances after one history.
use Rattle.std.proofs.Common.{◌≡◌, ℕ, ◌<◌, ap, ◌∙◌, subst, arith, List, length}
use Rattle.std.proofs.lemmas.List.{length-map}
use Rattle.of_cell.specs.Words.{payload_of}
use Rattle.of_mem.specs.ProgramWork.{memory_of}
use Rattle.of_core.specs.Machine.{Call}
use Rattle.of_core.specs.Starts.{start_on}
use Rattle.of_row.specs.declared.row.Row.{Row}
use Rattle.of_row.specs.Rows.{key_of}
use Rattle.of_cells.specs.declared.memory.CellMemory.{CellMemory}
use Rattle.of_cells.specs.declared.saved.SavedCells.{SavedCells}
use Rattle.of_cells.specs.History.{IsSerial, cells_after}
use Rattle.of_cells.specs.Serving.{cells_at_start, made_before}
use Rattle.of_cells.specs.Saving.{IsSavedCells, HoldsLawful, SavedHolds, saved_work, saved_callers, saved_cells}
use Rattle.of_cells.specs.Memories.{IsStill, LeadsTo, work_of, cells_before, tickets_before}
use Rattle.example_accounts.specs.declared.accounts.Accounts.{Accounts}
use Rattle.example_accounts.specs.Accounts.{account_cell, cell_count, flipped, balance_in, HasAllMoney}
use Rattle.example_accounts.specs.Meaning.{accounts_meaning, LawfulCells}
use Rattle.example_accounts.specs.Days.{IsHistory, balance_after}

module _ (m k : CellMemory Accounts) (d : SavedCells Accounts) (still : IsStill m k) (saved : IsSavedCells (λ (x : Accounts). x.callers) cell_count accounts_meaning LawfulCells d) (lawful : HoldsLawful LawfulCells d) (saved_is : saved_work d ≡ work_of k) (calls : List Call) (leads : LeadsTo accounts_meaning k d calls) where
  abbrev w : Accounts
  w = work_of m

  abbrev before : List ℕ
  before = cells_before accounts_meaning m

  pub work_is : work_of k ≡ w
  work_is = ap (λ (r : Row Accounts). (key_of r).work) still

  before_is : cells_before accounts_meaning k ≡ before
  before_is = ap (cells_at_start accounts_meaning) still

  pub tickets : (n : ℕ) → tickets_before accounts_meaning k n ≡ tickets_before accounts_meaning m n
  tickets n = ap (λ (r : Row Accounts). made_before accounts_meaning r n) still

  pub size : length (saved_cells d) ≡ cell_count w
  size = length-map (start_on d.shape d.row.items).cells payload_of ∙ saved.row.may_start.start.size ∙ saved.cells ∙ ap cell_count (saved_is ∙ work_is)

  pub money : HasAllMoney w (memory_of (saved_cells d))
  money = subst (λ (x : Accounts). LawfulCells x (saved_cells d)) (saved_is ∙ work_is) lawful

  pub history : IsHistory w before calls
  history = subst (λ (z : Accounts × List ℕ). IsSerial (accounts_meaning z.0) z.1 calls) (λ i. (work_is i, before_is i)) leads.one.serial

  ends : SavedHolds d (cells_after (accounts_meaning w) before calls)
  ends = subst (λ (z : Accounts × List ℕ). SavedHolds d (cells_after (accounts_meaning z.0) z.1 calls)) (λ i. (work_is i, before_is i)) leads.one.ends

  callers : saved_callers d ≡ w.callers
  callers = saved.callers ∙ ap (λ (x : Accounts). x.callers) (saved_is ∙ work_is)

  pub balances : (a : ℕ) → a < w.accounts → balance_in w (memory_of (saved_cells d)) a ≡ balance_after w before calls a
  balances a lt = ap (flipped w.money a) (ends (account_cell w a) (omega (arith, callers)) (omega (arith, lt, size)))
