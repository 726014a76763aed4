-- Transfers as scripts, and what the accounts hold together.
use Rattle.std.specs.Prelude.{◌≡◌, ℕ, ◌<◌, List, [], ◌∷◌, sum}
use Rattle.of_script.specs.declared.instr.Instr.{Instr}
use Rattle.of_script.specs.declared.instr.Instr.TheVariants.{Add, Sub}
use Rattle.of_script.specs.declared.instr.TheConstants.{REGISTERS}
use Rattle.of_store.specs.Store.{Store}
use Rattle.of_memory.specs.declared.saved.Saved.{Saved}
use Rattle.of_memory.specs.Saving.{SavedHolds}

-- the script that takes an amount off an account and adds it to another
abbrev pub transfer_script : (from to amount : ℕ) → List Instr
transfer_script from to amount = Sub from amount ∷ Add to amount ∷ []

abbrev pub IsTransfer : List Instr → Type 0
IsTransfer script =
    (from : ℕ) × (to : ℕ) × (amount : ℕ) × (from < REGISTERS) × (to < REGISTERS)
    × (script ≡ transfer_script from to amount)

-- what the accounts hold together; the accounts are the registers
abbrev pub money_of : Store → ℕ
money_of s = sum s.registers

-- the store that is saved now holds as much money as the one that was saved before
abbrev pub KeepsMoney : (before now : Saved) → Type 0
KeepsMoney c d = (s t : Store) → SavedHolds c s → SavedHolds d t → money_of t ≡ money_of s
