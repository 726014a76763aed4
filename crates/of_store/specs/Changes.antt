-- What an instruction changes in a store, and the store without the change. A script that fails
-- leaves the store as it was. A write can be undone without memory. To put a removed key or item
-- back might need memory. So a script that may fail after it has removed a key or an item runs on a
-- copy of the store.
use Rattle.std.specs.Prelude.{◌≡◌, ℕ, zero, suc, ◌-◌, ◌<◌, ◌≤◌, Bool, true, false, List, length, take, slice_get, slice_index_or, Option, Some, None, IsSome, IsNone, Result, Ok, Err}
use Rattle.std.specs.FinMap as fm
use Rattle.of_script.specs.declared.instr.Instr.{Instr}
use Rattle.of_script.specs.declared.instr.Instr.TheVariants.{Load, Store as StoreInstr, Add, Sub, Get, Put, Del, Need, Push, Pop, Len, Count, First, Next, DropBelow}
use Rattle.of_script.specs.declared.instr.TheConstants.{REGISTERS, QUEUES}
use Rattle.of_script.specs.declared.instr.Reply.{Reply}
use Rattle.of_script.specs.Language.{greatest}
use Rattle.of_store.specs.Store.{Store, register, queue, with_register, with_key, without_key, with_queue}
use Rattle.of_store.specs.declared.change.Change.{Change}
use Rattle.of_store.specs.declared.change.Change.TheVariants.{Nothing, Register, Key, Pushed}

-- whether the instruction takes a key or an item out of the store
abbrev pub takes_out : Instr → Bool
takes_out (Load r) = false
takes_out (StoreInstr r v) = false
takes_out (Add r v) = false
takes_out (Sub r v) = false
takes_out (Get k) = false
takes_out (Put k v) = false
takes_out (Del k) = true
takes_out (Need k v) = false
takes_out (Push q v) = false
takes_out (Pop q) = true
takes_out (Len q) = false
takes_out Count = false
takes_out First = false
takes_out (Next k) = false
takes_out (DropBelow k) = true

-- whether the instruction may abort, or may fail since there is not enough memory
abbrev pub may_fail : Instr → Bool
may_fail (Load r) = false
may_fail (StoreInstr r v) = false
may_fail (Add r v) = true
may_fail (Sub r v) = true
may_fail (Get k) = false
may_fail (Put k v) = true
may_fail (Del k) = false
may_fail (Need k v) = true
may_fail (Push q v) = true
may_fail (Pop q) = false
may_fail (Len q) = false
may_fail Count = false
may_fail First = true
may_fail (Next k) = true
may_fail (DropBelow k) = true

-- no instruction that may fail comes after one that takes a key or an item out
abbrev pub FailsFirst : List Instr → Type 0
FailsFirst script = (i j : ℕ) (a b : Instr) → i < j → slice_get script i ≡ Some a
    → slice_get script j ≡ Some b → takes_out a ≡ true → may_fail b ≡ false

-- how to take back what the instruction will do to the store s: `Nothing` if it only reads, or if
-- it takes a key or an item out
abbrev pub change_of : Store → Instr → Change
change_of s (Load r) = Nothing
change_of s (StoreInstr r v) = Register r (register s r)
change_of s (Add r v) = Register r (register s r)
change_of s (Sub r v) = Register r (register s r)
change_of s (Get k) = Nothing
change_of s (Put k v) = Key k (fm.get s.keys k)
change_of s (Del k) = Nothing
change_of s (Need k v) = Nothing
change_of s (Push q v) = Pushed q
change_of s (Pop q) = Nothing
change_of s (Len q) = Nothing
change_of s Count = Nothing
change_of s First = Nothing
change_of s (Next k) = Nothing
change_of s (DropBelow k) = Nothing

-- the number that a register holds before the instruction writes it; 0 if the instruction writes no
-- register
abbrev pub written_register : Store → Instr → ℕ
written_register s (StoreInstr r v) = register s r
written_register s (Add r v) = register s r
written_register s (Sub r v) = register s r
written_register s _ = 0

-- what an instruction has changed; `before` is the number that its register had, and the answer of
-- the instruction says the rest
abbrev pub change_after : Instr → (before : ℕ) → (answer : Option ℕ) → Change
change_after (StoreInstr r v) before answer = Register r before
change_after (Add r v) before answer = Register r before
change_after (Sub r v) before answer = Register r before
change_after (Put k v) before answer = Key k answer
change_after (Push q v) before answer = Pushed q
change_after _ before answer = Nothing

-- the store with this value at key k, or without key k for None
abbrev pub with_at : Store → ℕ → Option ℕ → Store
with_at s k None = without_key s k
with_at s k (Some v) = with_key s k v

-- the store after the change is taken back
abbrev pub without : Change → Store → Store
without Nothing s = s
without (Register r v) s = with_register s r v
without (Key k before) s = with_at s k before
without (Pushed q) s = with_queue s q (take (length (queue s q) - 1) (queue s q))

-- a value to put back at key k fits: it is in range, and the key has some value now; None always
-- fits
abbrev pub IsReplaced : Store → ℕ → Option ℕ → Type 0
IsReplaced s k None = Unit {0}
IsReplaced s k (Some v) = (v ≤ greatest) × IsSome (fm.get s.keys k)

-- the change can be taken back from the store s: its register, key or queue is there, and its
-- numbers are in range
abbrev pub IsChange : Change → Store → Type 0
IsChange Nothing s = Unit {0}
IsChange (Register r v) s = (r < REGISTERS) × (v ≤ greatest)
IsChange (Key k before) s = (k ≤ greatest) × IsReplaced s k before
IsChange (Pushed q) s = (q < QUEUES) × (1 ≤ length (queue s q))

-- the store after the first n changes are taken back, the last of them first
abbrev pub undone : List Change → ℕ → Store → Store
undone changes zero s = s
undone changes (suc n) s = undone changes n (without (slice_index_or changes n Nothing) s)

-- each of the first n changes can be taken back from the store, the last of them first
abbrev pub AreThere : List Change → ℕ → Store → Type 0
AreThere changes zero s = Unit {0}
AreThere changes (suc n) s = IsChange (slice_index_or changes n Nothing) s
    × AreThere changes n (without (slice_index_or changes n Nothing) s)

-- the first n changes lead from the store `first` to the store `now`: taking them back gives
-- `first` again
pub record ChangesLead (changes : List Change) (n : ℕ) (first now : Store) : Type 0 where
  pub there : AreThere changes n now
  pub back : undone changes n now ≡ first

-- the script aborted, or there was not enough memory
abbrev pub HasFailed : {E : Type 0} → Result Reply E → Type 0
HasFailed (Ok r) = IsSome r.abort
HasFailed (Err e) = Unit {0}

-- all instructions of the script ran, and none aborted
abbrev pub HasRunToEnd : {E : Type 0} → Result Reply E → Type 0
HasRunToEnd (Ok r) = IsNone r.abort
HasRunToEnd (Err e) = ⊥
