-- Operations that touch few cells, however many cells the memory has.
use Rattle.std.specs.Prelude.{◌≡◌, ℕ, zero, suc, ◌≤◌, List, [], ◌∷◌, length, Option}
use Rattle.std.specs.List.{Contains}
use Rattle.of_mem.specs.declared.work.TheConstants.{MOST_INSTRS}
use Rattle.of_mem.specs.declared.work.RawReply.{RawReply}
use Rattle.of_mem.specs.Meaning.{Meaning, Needs, Gives, Agrees}
use Rattle.of_mem.specs.Programs.{Program, Done, Read, Write, with_value}

-- On the list xs, the operation `op` needs only the cells of the list `cells`, whatever else is
-- known, and it writes at most `writes` cells.
pub record StaysWithin (M : Meaning) (xs op cells : List ℕ) (writes : ℕ) : Type 0 where
  pub needs : (known : List (Option ℕ)) (a : ℕ) → Agrees known xs → M.walk known op ≡ Needs a
      → Contains cells a
  pub gives : (known : List (Option ℕ)) (es : List (ℕ × ℕ)) (reply : RawReply) → Agrees known xs
      → M.walk known op ≡ Gives es reply → length es ≤ writes

-- on each lawful list of `size` cells, each operation reads at most `reads` cells and writes at
-- most `writes`
abbrev pub TouchesFew : Meaning → (lawful : List ℕ → Type 0) → (size reads writes : ℕ) → Type 0
TouchesFew M lawful size reads writes =
    (xs op : List ℕ) → length xs ≡ size → lawful xs → length op ≤ MOST_INSTRS
    → (cells : List ℕ) × (length cells ≤ reads) × StaysWithin M xs op cells writes

-- Definitions for operations that are programs.

-- the cells that the program reads if it is run on the whole memory m, in order
abbrev pub program_reads : {A : Type 0} → Program A → (ℕ → ℕ) → List ℕ
program_reads (Done r) m = []
program_reads (Read a k) m = a ∷ program_reads (k (m a)) m
program_reads (Write a v f) m = program_reads f (with_value m a v)

-- on every memory, the program makes at most n reads
abbrev pub ReadsAtMost : {A : Type 0} → ℕ → Program A → Type 0
ReadsAtMost n (Done r) = Unit {0}
ReadsAtMost zero (Read a k) = ⊥
ReadsAtMost (suc n) (Read a k) = (v : ℕ) → ReadsAtMost n (k v)
ReadsAtMost n (Write a v f) = ReadsAtMost n f

-- on every memory, the program makes at most n writes
abbrev pub WritesAtMost : {A : Type 0} → ℕ → Program A → Type 0
WritesAtMost n (Done r) = Unit {0}
WritesAtMost n (Read a k) = (v : ℕ) → WritesAtMost n (k v)
WritesAtMost zero (Write a v f) = ⊥
WritesAtMost (suc n) (Write a v f) = WritesAtMost n f
