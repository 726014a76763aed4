-- How the accounts get their money.
use Rattle.std.specs.Prelude.{◌≡◌, ℕ, List, [], ◌∷◌}
use Rattle.of_script.specs.declared.instr.Instr.{Instr}
use Rattle.of_script.specs.declared.instr.Instr.TheVariants.{Store as StoreInstr}
use Rattle.of_store.specs.Store.{Store}
use Rattle.of_memory.specs.declared.saved.Saved.{Saved}
use Rattle.of_memory.specs.Saving.{SavedHolds}
use Rattle.example_bank.specs.Transfers.{money_of}

-- the script that sets each account to 100
abbrev pub founding_script : List Instr
founding_script =
    StoreInstr 0 100
    ∷ StoreInstr 1 100
    ∷ StoreInstr 2 100
    ∷ StoreInstr 3 100
    ∷ StoreInstr 4 100
    ∷ StoreInstr 5 100
    ∷ StoreInstr 6 100
    ∷ StoreInstr 7 100
    ∷ StoreInstr 8 100
    ∷ StoreInstr 9 100
    ∷ StoreInstr 10 100
    ∷ StoreInstr 11 100
    ∷ StoreInstr 12 100
    ∷ StoreInstr 13 100
    ∷ StoreInstr 14 100
    ∷ StoreInstr 15 100
    ∷ []

-- a store is saved whose accounts hold 1600 together
pub record IsFounded (d : Saved) : Type 0 where
  pub store : Store
  pub holds : SavedHolds d store
  pub money : money_of store ≡ 1600

-- the accounts of each store that is saved hold n together
abbrev pub HasMoney : ℕ → Saved → Type 0
HasMoney n d = (s : Store) → SavedHolds d s → money_of s ≡ n
