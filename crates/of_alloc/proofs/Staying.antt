-- Taking and giving a block read and write nothing before the first cell of the store. Taking one
-- makes one write at most.
use Rattle.std.proofs.Common.{ℕ, zero, suc, Bool, true, false, ltb, arith}
use Rattle.of_mem.specs.Programs.{StaysFrom}
use Rattle.of_mem.specs.Touching.{WritesAtMost}
use Rattle.of_alloc.specs.BlockPrograms.{take_program, take_fresh, with_free, give_program}

fresh_stays : (o n : ℕ) (t : Bool) → StaysFrom o (take_fresh o n t)
fresh_stays o n true = (omega arith, tt)
fresh_stays o n false = tt

free_stays : (o blocks f : ℕ) → StaysFrom o (with_free o blocks f)
free_stays o blocks zero = (omega arith, λ n. fresh_stays o n (ltb n blocks))
free_stays o blocks (suc b) = (omega arith, λ link. (omega arith, tt))

pub take_stays : (o blocks : ℕ) → StaysFrom o (take_program o blocks)
take_stays o blocks = (omega arith, λ f. free_stays o blocks f)

fresh_few : (o n : ℕ) (t : Bool) → WritesAtMost 1 (take_fresh o n t)
fresh_few o n true = tt
fresh_few o n false = tt

free_few : (o blocks f : ℕ) → WritesAtMost 1 (with_free o blocks f)
free_few o blocks zero = λ n. fresh_few o n (ltb n blocks)
free_few o blocks (suc b) = λ link. tt

pub take_few : (o blocks : ℕ) → WritesAtMost 1 (take_program o blocks)
take_few o blocks = λ f. free_few o blocks f
