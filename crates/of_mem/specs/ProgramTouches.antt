-- Works whose programs make few reads and writes.
use Rattle.std.proofs.Common.{◌≡◌, ℕ, zero, suc, ◌≤◌, Bool, List, length, arith}
use Rattle.of_mem.specs.declared.work.RawReply.{RawReply}
use Rattle.of_mem.specs.Meaning.{Meaning}
use Rattle.of_mem.specs.Programs.{Program, Done, Read, Write, with_value, StaysBetween, program_writes}
use Rattle.of_mem.specs.ProgramWork.{memory_of, meaning_of}
use Rattle.of_mem.specs.Touching.{program_reads, ReadsAtMost, WritesAtMost}

-- The operations of the meaning M are programs. On each lawful list of `size` cells, each program
-- uses only cells from `low` on, and makes at most `reads` reads and `writes` writes.
pub record HasSmallPrograms (M : Meaning) (lawful : List ℕ → Type 0) (low size reads writes : ℕ)
    : Type 0 where
  pub keeps : RawReply → Bool
  pub reads_only : List ℕ → Bool
  pub program : List ℕ → Program RawReply
  pub meaning : M ≡ meaning_of keeps reads_only program
  pub inside : (xs op : List ℕ) → length xs ≡ size → lawful xs
      → StaysBetween low size (program op) (memory_of xs)
  pub few_reads : (xs op : List ℕ) → length xs ≡ size → lawful xs
      → length (program_reads (program op) (memory_of xs)) ≤ reads
  pub few_writes : (xs op : List ℕ) → length xs ≡ size → lawful xs
      → length (program_writes (program op) (memory_of xs)) ≤ writes

-- The two lemmas below are here, not in proofs/, since works cite them as laws, and an impl may
-- cite specs/ alone.

-- if a program makes at most n reads whatever the cells hold, then it makes at most n reads on the
-- memory m
pub few_reads : {A : Type 0} (n : ℕ) (f : Program A) (m : ℕ → ℕ) → ReadsAtMost n f
    → length (program_reads f m) ≤ n
few_reads n (Done r) m h = omega arith
few_reads zero (Read a k) m h = absurd h
few_reads (suc n) (Read a k) m h =
    let rest = few_reads n (k (m a)) m (h (m a)) in
    omega (arith, rest)
few_reads n (Write a v f) m h = few_reads n f (with_value m a v) h

-- if a program makes at most n writes whatever the cells hold, then it makes at most n writes on
-- the memory m
pub few_writes : {A : Type 0} (n : ℕ) (f : Program A) (m : ℕ → ℕ) → WritesAtMost n f
    → length (program_writes f m) ≤ n
few_writes n (Done r) m h = omega arith
few_writes n (Read a k) m h = few_writes n (k (m a)) m (h (m a))
few_writes zero (Write a v f) m h = absurd h
few_writes (suc n) (Write a v f) m h =
    let rest = few_writes n f (with_value m a v) h in
    omega (arith, rest)
