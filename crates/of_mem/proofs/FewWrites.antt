-- Programs that make few writes, one after the other: the numbers add up.
use Rattle.std.proofs.Common.{◌≡◌, ℕ, zero, suc, ◌+◌, ◌≤◌, arith}
use Rattle.of_mem.specs.Programs.{Program, Done, Read, Write, then_do, OnlyReads}
use Rattle.of_mem.specs.Touching.{WritesAtMost}

-- so many writes at most are more at most
pub writes_more : {A : Type 0} (n k : ℕ) (f : Program A) → n ≤ k → WritesAtMost n f → WritesAtMost k f
writes_more n k (Done r) l h = tt
writes_more n k (Read a q) l h = λ v. writes_more n k (q v) l (h v)
writes_more zero k (Write a v f) l h = absurd h
writes_more (suc n) zero (Write a v f) l h = absurd (omega (arith, l))
writes_more (suc n) (suc k) (Write a v f) l h = writes_more n k f (omega (arith, l)) h

-- what only reads makes no write
pub writes_none : {A : Type 0} (n : ℕ) (f : Program A) → OnlyReads f → WritesAtMost n f
writes_none n (Done r) h = tt
writes_none n (Read a q) h = λ v. writes_none n (q v) (h v)
writes_none n (Write a v f) h = absurd h

pub writes_then : {A B : Type 0} (n k : ℕ) (f : Program A) (g : A → Program B) → WritesAtMost n f → ((r : A) → WritesAtMost k (g r)) → WritesAtMost (n + k) (then_do f g)
writes_then n k (Done r) g h j = writes_more k (n + k) (g r) (omega arith) (j r)
writes_then n k (Read a q) g h j = λ v. writes_then n k (q v) g (h v) j
writes_then zero k (Write a v f) g h j = absurd h
writes_then (suc n) k (Write a v f) g h j =
    let more : suc n + k ≡ suc (n + k) = omega arith in
    rw more (writes_then n k f g h j)
