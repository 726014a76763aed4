-- The calls of the map read and write nothing before the first cell of the store; get and count write nothing, put makes six writes at most, and del four.
use Rattle.std.proofs.Common.{ℕ, ◌+◌, ◌%◌, Option, Some, None, arith}
use Rattle.of_mem.specs.Places.{bucket_count, bucket_at}
use Rattle.of_mem.specs.Programs.{StaysFrom, OnlyReads}
use Rattle.of_mem.specs.Touching.{WritesAtMost}
use Rattle.of_mem.proofs.FewWrites.{writes_none, writes_then}
use Rattle.of_mem.proofs.Runs.{stays_then, stays_after, reads_then}
use Rattle.of_alloc.specs.BlockPrograms.{take_program}
use Rattle.of_alloc.proofs.Staying.{take_stays, take_few}
use Rattle.of_map.specs.declared.answers.Position.{Position}
use Rattle.of_map.specs.MapPrograms.{seek_program, get_at, get_program, put_new, put_found, put_program, del_found, del_program}
use Rattle.of_map.proofs.Seeks.{seek_stays, seek_yields, IsFrom}

module _ (o blocks key : ℕ) where
  seeking : StaysFrom o (seek_program o blocks key) × OnlyReads (seek_program o blocks key)
  seeking = seek_stays o key (blocks + 1) (bucket_at o blocks (key % bucket_count blocks)) (omega arith)

  got_stays : (r : Option Position) → StaysFrom o (get_at o r) × OnlyReads (get_at o r)
  got_stays None = (tt, tt)
  got_stays (Some r) = ((omega arith, λ v. tt), λ v. tt)

  pub get_stays : StaysFrom o (get_program o blocks key)
  get_stays = stays_then o (seek_program o blocks key) (get_at o) seeking.0 (λ r. (got_stays r).0)

  pub get_reads : OnlyReads (get_program o blocks key)
  get_reads = reads_then (seek_program o blocks key) (get_at o) seeking.1 (λ r. (got_stays r).1)

  new_stays : (v : ℕ) (r : Option ℕ) → StaysFrom o (put_new o blocks key v r)
  new_stays v None = tt
  new_stays v (Some b) = (omega arith, (omega arith, (omega arith, λ front. (omega arith, (omega arith, (omega arith, λ n. (omega arith, tt)))))))

  put_found_stays : (v : ℕ) (r : Option Position) → StaysFrom o (put_found o blocks key v r)
  put_found_stays v None = stays_then o (take_program o blocks) (put_new o blocks key v) (take_stays o blocks) (new_stays v)
  put_found_stays v (Some r) = (omega arith, λ w. (omega arith, tt))

  pub put_stays : (v : ℕ) → StaysFrom o (put_program o blocks key v)
  put_stays v = stays_then o (seek_program o blocks key) (put_found o blocks key v) seeking.0 (put_found_stays v)

  unlink_stays : (r : Option Position) → IsFrom o r → StaysFrom o (del_found o r)
  unlink_stays None l = tt
  unlink_stays (Some r) l = (omega arith, λ v. (omega arith, λ link. (l, (omega arith, λ f. (omega arith, (omega arith, (omega arith, λ n. (omega arith, tt))))))))

  pub del_stays : StaysFrom o (del_program o blocks key)
  del_stays = stays_after o (IsFrom o) (seek_program o blocks key) (del_found o) seeking.0 (seek_yields o key (blocks + 1) (bucket_at o blocks (key % bucket_count blocks)) (omega arith)) unlink_stays

  new_few : (v : ℕ) (r : Option ℕ) → WritesAtMost 5 (put_new o blocks key v r)
  new_few v None = tt
  new_few v (Some b) = λ front n. tt

  put_found_few : (v : ℕ) (r : Option Position) → WritesAtMost 6 (put_found o blocks key v r)
  put_found_few v None = writes_then 1 5 (take_program o blocks) (put_new o blocks key v) (take_few o blocks) (new_few v)
  put_found_few v (Some r) = λ w. tt

  pub put_few : (v : ℕ) → WritesAtMost 6 (put_program o blocks key v)
  put_few v = writes_then 0 6 (seek_program o blocks key) (put_found o blocks key v) (writes_none 0 (seek_program o blocks key) seeking.1) (put_found_few v)

  unlink_few : (r : Option Position) → WritesAtMost 4 (del_found o r)
  unlink_few None = tt
  unlink_few (Some r) = λ v link f n. tt

  pub del_few : WritesAtMost 4 (del_program o blocks key)
  del_few = writes_then 0 4 (seek_program o blocks key) (del_found o) (writes_none 0 (seek_program o blocks key) seeking.1) unlink_few
