-- Scripts use no cell before the first cell of the store, and scripts that only read write nothing.
-- These lemmas are in specs/, not in proofs/, since `impl Work for Scripts` cites laws that are
-- proved with them.
use Rattle.std.proofs.Common.{◌≡◌, ℕ, ◌+◌, ◌-◌, Bool, true, false, cond, Option, Some, None, Ok, Err, List, [], ◌∷◌, ◌++◌, arith}
use Rattle.std.proofs.lemmas.Bool.{false≢true}
use Rattle.of_mem.specs.declared.work.RawReply.{RawReply}
use Rattle.of_mem.specs.Programs.{Program, StaysFrom, OnlyReads}
use Rattle.of_mem.proofs.Runs.{stays_then, reads_then}
use Rattle.of_map.specs.declared.answers.Put.{Put as PutAnswer}
use Rattle.of_map.specs.declared.answers.Put.TheVariants.{Full, New, Over}
use Rattle.of_map.specs.MapPrograms.{get_program, put_program, del_program}
use Rattle.of_map.proofs.Staying.{get_stays, get_reads, put_stays, del_stays}
use Rattle.of_order.specs.OrderPrograms.{least_program, drop_program}
use Rattle.of_order.proofs.Buckets.{least_stays, least_reads}
use Rattle.of_order.proofs.Drops.{drop_stays}
use Rattle.of_queue.specs.QueuePrograms.{push_program, pop_program}
use Rattle.of_queue.proofs.Staying.{push_stays, pop_stays}
use Rattle.of_script.specs.declared.instr.Cause.TheVariants.{NoRoom, Differs, BadOp}
use Rattle.of_script.specs.declared.instr.Instr.{Instr}
use Rattle.of_script.specs.declared.instr.Instr.TheVariants.{Load, Store, Add, Sub, Get, Put, Del, Need, Push, Pop, Len, Count, First, Next, DropBelow}
use Rattle.of_script.specs.Language.{reads_only}
use Rattle.of_script.specs.Reading.{instr_at}
use Rattle.of_script.proofs.Numbers.{both}
use Rattle.of_store.specs.Store.{is_there}
use Rattle.std.specs.Prelude.{nat_lt}
use Rattle.of_script.specs.Language.{greatest}
use Rattle.of_eval.specs.Scripts.{instr_reads, words_read}
use Rattle.of_eval.specs.ScriptPrograms.{InstrResult, abort_program, answer_program, answers_number, put_answers, answers_if, need_answers, add_unless, sub_unless, instr_program, program_of, word_program, go_on, words_program}

module _ (o blocks : ℕ) where
  put_after : (r : PutAnswer) → StaysFrom o (put_answers r)
  put_after Full = tt
  put_after New = tt
  put_after (Over w) = tt

  room_after : (t : Bool) → StaysFrom o (answers_if NoRoom t)
  room_after true = tt
  room_after false = tt

  need_after : (t : Bool) → StaysFrom o (answers_if Differs t) × OnlyReads (answers_if Differs t)
  need_after true = (tt, tt)
  need_after false = (tt, tt)

  add_after : (r v : ℕ) (t : Bool) → StaysFrom o (add_unless o r v t)
  add_after r v true = tt
  add_after r v false = (omega arith, tt)

  sub_after : (r v : ℕ) (t : Bool) → StaysFrom o (sub_unless o r v t)
  sub_after r v true = tt
  sub_after r v false = (omega arith, tt)

  ordered_after : (t : Bool) (f : Program InstrResult) → StaysFrom o f
      → StaysFrom o (cond t (abort_program BadOp) f)
  ordered_after true f h = tt
  ordered_after false f h = h

  instr_stays : (i : Instr) → StaysFrom o (instr_program o blocks i)
  instr_stays (Load r) = (omega arith, λ v. tt)
  instr_stays (Store r v) = (omega arith, tt)
  instr_stays (Add r v) = (omega arith, λ n. add_after r (n + v) (nat_lt greatest (n + v)))
  instr_stays (Sub r v) = (omega arith, λ n. sub_after r (n - v) (nat_lt n v))
  instr_stays (Get k) =
      stays_then o (get_program o blocks k) answer_program (get_stays o blocks k) (λ r. tt)
  instr_stays (Put k v) =
      stays_then o (put_program o blocks k v) put_answers (put_stays o blocks k v) put_after
  instr_stays (Del k) =
      stays_then o (del_program o blocks k) answer_program (del_stays o blocks k) (λ r. tt)
  instr_stays (Need k v) =
      stays_then o (get_program o blocks k) (need_answers v) (get_stays o blocks k)
      (λ r. (need_after (is_there r v)).0)
  instr_stays (Push q v) =
      stays_then o (push_program o blocks q v) (answers_if NoRoom) (push_stays o q blocks v)
      room_after
  instr_stays (Pop q) = stays_then o (pop_program o q) answer_program (pop_stays o q) (λ r. tt)
  instr_stays (Len q) = (omega arith, λ v. tt)
  instr_stays Count = (omega arith, λ v. tt)
  instr_stays First =
      ordered_after _ _
      (stays_then o (least_program o blocks 0) answer_program (least_stays o 0 blocks) (λ r. tt))
  instr_stays (Next k) =
      ordered_after _ _
      (stays_then o (least_program o blocks (k + 1)) answer_program (least_stays o (k + 1) blocks)
      (λ r. tt))
  instr_stays (DropBelow k) =
      ordered_after _ _
      (stays_then o (drop_program o blocks k) answers_number (drop_stays o k blocks) (λ r. tt))

  word_stays : (i : Option Instr) → StaysFrom o (program_of o blocks i)
  word_stays None = tt
  word_stays (Some i) = instr_stays i

  next_stays : (n : ℕ) (done : List (Option ℕ)) (further : Option ℕ → Program RawReply)
      → ((v : Option ℕ) → StaysFrom o (further v)) → (r : InstrResult)
      → StaysFrom o (go_on n done further r)
  next_stays n done further h (Ok v) = h v
  next_stays n done further h (Err cause) = tt

  pub words_stay : (n : ℕ) (ws : List ℕ) (done : List (Option ℕ))
      → StaysFrom o (words_program o blocks n done ws)
  words_stay n [] done = tt
  words_stay n (w ∷ ws) done =
      stays_then o (word_program o blocks w)
      (go_on n done (λ v. words_program o blocks n (done ++ v ∷ []) ws)) (word_stays (instr_at w))
      (next_stays n done (λ v. words_program o blocks n (done ++ v ∷ []) ws)
      (λ v. words_stay n ws (done ++ v ∷ [])))

  ordered_only : (t : Bool) (f : Program InstrResult) → OnlyReads f
      → OnlyReads (cond t (abort_program BadOp) f)
  ordered_only true f h = tt
  ordered_only false f h = h

  instr_only : (i : Instr) → reads_only i ≡ true → OnlyReads (instr_program o blocks i)
  instr_only (Load r) e = λ v. tt
  instr_only (Store r v) e = absurd (false≢true e)
  instr_only (Add r v) e = absurd (false≢true e)
  instr_only (Sub r v) e = absurd (false≢true e)
  instr_only (Get k) e =
      reads_then (get_program o blocks k) answer_program (get_reads o blocks k) (λ r. tt)
  instr_only (Put k v) e = absurd (false≢true e)
  instr_only (Del k) e = absurd (false≢true e)
  instr_only (Need k v) e =
      reads_then (get_program o blocks k) (need_answers v) (get_reads o blocks k)
      (λ r. (need_after (is_there r v)).1)
  instr_only (Push q v) e = absurd (false≢true e)
  instr_only (Pop q) e = absurd (false≢true e)
  instr_only (Len q) e = λ v. tt
  instr_only Count e = λ v. tt
  instr_only First e =
      ordered_only _ _
      (reads_then (least_program o blocks 0) answer_program (least_reads o 0 blocks) (λ r. tt))
  instr_only (Next k) e =
      ordered_only _ _
      (reads_then (least_program o blocks (k + 1)) answer_program (least_reads o (k + 1) blocks)
      (λ r. tt))
  instr_only (DropBelow k) e = absurd (false≢true e)

  word_only : (i : Option Instr) → instr_reads i ≡ true → OnlyReads (program_of o blocks i)
  word_only None e = absurd (false≢true e)
  word_only (Some i) e = instr_only i e

  next_only : (n : ℕ) (done : List (Option ℕ)) (further : Option ℕ → Program RawReply)
      → ((v : Option ℕ) → OnlyReads (further v)) → (r : InstrResult)
      → OnlyReads (go_on n done further r)
  next_only n done further h (Ok v) = h v
  next_only n done further h (Err cause) = tt

  pub words_only : (n : ℕ) (ws : List ℕ) (done : List (Option ℕ)) → words_read ws ≡ true
      → OnlyReads (words_program o blocks n done ws)
  words_only n [] done e = tt
  words_only n (w ∷ ws) done e =
      let b = both (instr_reads (instr_at w)) (words_read ws) e in
      reads_then (word_program o blocks w)
      (go_on n done (λ v. words_program o blocks n (done ++ v ∷ []) ws))
      (word_only (instr_at w) b.0)
      (next_only n done (λ v. words_program o blocks n (done ++ v ∷ []) ws)
      (λ v. words_only n ws (done ++ v ∷ []) b.1))
