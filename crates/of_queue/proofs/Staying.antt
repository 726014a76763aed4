-- The calls of a queue read and write nothing before the first cell of the store; len writes nothing, push makes six writes at most, and pop five.
use Rattle.std.proofs.Common.{ℕ, zero, suc, Option, Some, None, arith}
use Rattle.of_mem.specs.Programs.{StaysFrom}
use Rattle.of_mem.specs.Touching.{WritesAtMost}
use Rattle.of_mem.proofs.FewWrites.{writes_then}
use Rattle.of_mem.proofs.Runs.{stays_then}
use Rattle.of_alloc.specs.BlockPrograms.{take_program}
use Rattle.of_alloc.proofs.Staying.{take_stays, take_few}
use Rattle.of_queue.specs.QueuePrograms.{with_tail, push_new, push_program, give_item_block, new_end, with_head, pop_program}

module _ (o q : ℕ) where
  tail_stays : (b tail : ℕ) → StaysFrom o (with_tail o q b tail)
  tail_stays b zero = (omega arith, (omega arith, (omega arith, λ n. (omega arith, tt))))
  tail_stays b (suc t) = (omega arith, (omega arith, (omega arith, λ n. (omega arith, tt))))

  new_stays : (v : ℕ) (r : Option ℕ) → StaysFrom o (push_new o q v r)
  new_stays v None = tt
  new_stays v (Some b) = (omega arith, (omega arith, (omega arith, λ tail. tail_stays b tail)))

  pub push_stays : (blocks v : ℕ) → StaysFrom o (push_program o blocks q v)
  push_stays blocks v = stays_then o (take_program o blocks) (push_new o q v) (take_stays o blocks) (new_stays v)

  drop_stays : (b v : ℕ) → StaysFrom o (give_item_block o q b v)
  drop_stays b v = (omega arith, λ f. (omega arith, (omega arith, (omega arith, λ n. (omega arith, tt)))))

  end_stays : (b v link : ℕ) → StaysFrom o (new_end o q b v link)
  end_stays b v zero = (omega arith, drop_stays b v)
  end_stays b v (suc t) = drop_stays b v

  head_stays : (f : ℕ) → StaysFrom o (with_head o q f)
  head_stays zero = tt
  head_stays (suc b) = (omega arith, λ v. (omega arith, λ link. (omega arith, end_stays b v link)))

  pub pop_stays : StaysFrom o (pop_program o q)
  pop_stays = (omega arith, λ f. head_stays f)

  new_few : (v : ℕ) (r : Option ℕ) → WritesAtMost 5 (push_new o q v r)
  new_few v None = tt
  new_few v (Some b) = λ tail n. tt

  pub push_few : (blocks v : ℕ) → WritesAtMost 6 (push_program o blocks q v)
  push_few blocks v = writes_then 1 5 (take_program o blocks) (push_new o q v) (take_few o blocks) (new_few v)

  end_few : (b v link : ℕ) → WritesAtMost 4 (new_end o q b v link)
  end_few b v zero = λ f n. tt
  end_few b v (suc t) = λ f n. tt

  head_few : (f : ℕ) → WritesAtMost 5 (with_head o q f)
  head_few zero = tt
  head_few (suc b) = λ v link. end_few b v link

  pub pop_few : WritesAtMost 5 (pop_program o q)
  pop_few = λ f. head_few f
