-- Accounts as a work: what its operations mean, and which cells are lawful.
use Rattle.std.specs.Prelude.{◌≡◌, ◌<◌, ℕ, true, List, length, Some}
use Rattle.of_mem.specs.Meaning.{Meaning}
use Rattle.of_mem.specs.Part.{Part, newest_at}
use Rattle.of_mem.specs.ProgramWork.{memory_of, meaning_of}
use Rattle.example_accounts.specs.declared.accounts.Accounts.{Accounts}
use Rattle.example_accounts.specs.Accounts.{HasAllMoney, cell_count, transferring, is_no_transfer}

-- the meaning of transfers: each reply is a success, and each transfer may write
abbrev pub accounts_meaning : Accounts → Meaning
accounts_meaning w = meaning_of (λ r. true) is_no_transfer (transferring w)

-- a list of cells is lawful if the accounts in it have all the money
abbrev pub LawfulCells : Accounts → List ℕ → Type 0
LawfulCells w xs = HasAllMoney w (memory_of xs)

-- the partial memory has as many cells as the table, and agrees with a memory in which the accounts
-- have all the money
pub record IsPartOfTable (w : Accounts) (p : Part) : Type 0 where
  pub fits : length p.known ≡ cell_count w
  pub memory : ℕ → ℕ
  pub money : HasAllMoney w memory
  pub part : (a v : ℕ) → a < cell_count w → newest_at p a ≡ Some v → memory a ≡ v
