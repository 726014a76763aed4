-- Programs: which cells a call reads and writes, one by one and in which order. A whole memory is a
-- function from addresses to numbers.
use Rattle.std.specs.Prelude.{◌≡◌, ℕ, cond, eqb, ◌<◌, ◌≤◌, List, [], ◌∷◌, Option, Some, None}
use Rattle.std.specs.Option.{unwrap_or}
use Rattle.of_mem.specs.Numbers.{FitsCell}
use Rattle.of_mem.specs.CellMap.{value_for}
use Rattle.of_mem.specs.Part.{Part, newest_at, write}

pub data Program (A : Type 0) : Type 0 where
  Done : A → Program A
  Read : ℕ → (ℕ → Program A) → Program A
  Write : ℕ → ℕ → Program A → Program A

-- the first program, followed by the program that g makes of its answer
abbrev pub then_do : {A B : Type 0} → Program A → (A → Program B) → Program B
then_do (Done r) g = g r
then_do (Read a k) g = Read a (λ v. then_do (k v) g)
then_do (Write a v f) g = Write a v (then_do f g)

-- How a program ends on partial memory. With `Lacks a` it must read cell a, which is not known.
-- With `Ends r p` it has answered r and left the partial memory p.
pub data RunEnd (A : Type 0) : Type 0 where
  Lacks : ℕ → RunEnd A
  Ends : A → Part → RunEnd A

-- How a program goes on when it reads cell a: if the cell's number is known, k goes on with it.
-- Otherwise the program ends, and lacks the cell.
abbrev pub with_number : {A : Type 0} → Option ℕ → ℕ → (ℕ → RunEnd A) → RunEnd A
with_number None a k = Lacks a
with_number (Some v) a k = k v

-- how the program ends if it is run on the partial memory
abbrev pub run_program : {A : Type 0} → Program A → Part → RunEnd A
run_program (Done r) p = Ends r p
run_program (Read a k) p = with_number (newest_at p a) a (λ v. run_program (k v) p)
run_program (Write a v f) p = run_program f (write p a v)

-- run on the partial memory p, the program f answers r and leaves the partial memory q
abbrev pub RunsAs : {A : Type 0} → Program A → Part → A → Part → Type 0
RunsAs f p r q = run_program f p ≡ Ends r q

-- run on the partial memory p, the program f must read cell a, which is not known
abbrev pub NeedsAt : {A : Type 0} → Program A → Part → ℕ → Type 0
NeedsAt f p a = run_program f p ≡ Lacks a

-- the function m with value v at a; for a memory, the memory after v is written to cell a
unfoldable pub with_value : {A : Type 0} → (ℕ → A) → ℕ → A → ℕ → A
with_value m a v x = cond (eqb x a) v (m x)

-- the memory m after these writes; of several writes to one cell, the first counts
unfoldable pub with_writes : (ℕ → ℕ) → List (ℕ × ℕ) → ℕ → ℕ
with_writes m es a = unwrap_or (value_for es a) (m a)

-- what the program answers if it is run on the whole memory m
abbrev pub program_answer : {A : Type 0} → Program A → (ℕ → ℕ) → A
program_answer (Done r) m = r
program_answer (Read a k) m = program_answer (k (m a)) m
program_answer (Write a v f) m = program_answer f (with_value m a v)

-- the memory after the program was run on the whole memory m
abbrev pub memory_after : {A : Type 0} → Program A → (ℕ → ℕ) → ℕ → ℕ
memory_after (Done r) m = m
memory_after (Read a k) m = memory_after (k (m a)) m
memory_after (Write a v f) m = memory_after f (with_value m a v)

-- the writes that the program makes on the whole memory m, in order, each a cell and its number
abbrev pub program_writes : {A : Type 0} → Program A → (ℕ → ℕ) → List (ℕ × ℕ)
program_writes (Done r) m = []
program_writes (Read a k) m = program_writes (k (m a)) m
program_writes (Write a v f) m = (a, v) ∷ program_writes f (with_value m a v)

-- run on the memory m, the program reads and writes only cells from `low` to below `size`, and each
-- number that it writes fits into a cell
abbrev pub StaysBetween : {A : Type 0} → ℕ → ℕ → Program A → (ℕ → ℕ) → Type 0
StaysBetween low size (Done r) m = Unit {0}
StaysBetween low size (Read a k) m = (low ≤ a) × (a < size) × StaysBetween low size (k (m a)) m
StaysBetween low size (Write a v f) m =
    (low ≤ a) × (a < size) × FitsCell v × StaysBetween low size f (with_value m a v)

-- on every memory, the program reads and writes no cell below `low`
abbrev pub StaysFrom : {A : Type 0} → ℕ → Program A → Type 0
StaysFrom low (Done r) = Unit {0}
StaysFrom low (Read a k) = (low ≤ a) × ((v : ℕ) → StaysFrom low (k v))
StaysFrom low (Write a v f) = (low ≤ a) × StaysFrom low f

-- on every memory, P holds of the program's answer
abbrev pub AlwaysYields : {A : Type 0} → (A → Type 0) → Program A → Type 0
AlwaysYields P (Done r) = P r
AlwaysYields P (Read a k) = (v : ℕ) → AlwaysYields P (k v)
AlwaysYields P (Write a v f) = AlwaysYields P f

-- the program writes nothing
abbrev pub OnlyReads : {A : Type 0} → Program A → Type 0
OnlyReads (Done r) = Unit {0}
OnlyReads (Read a k) = (v : ℕ) → OnlyReads (k v)
OnlyReads (Write a v f) = ⊥

-- The partial memory agrees with the whole memory m: each number that it has for a cell is also the
-- cell's number in m.
abbrev pub IsPartOf : Part → (ℕ → ℕ) → Type 0
IsPartOf p m = (a v : ℕ) → newest_at p a ≡ Some v → m a ≡ v
