-- If the store has more than MOST_ORDERED_BLOCKS blocks, scripts write few cells, since `first`,
-- `next` and `drop-below` abort. These lemmas are in specs/, not in proofs/, since `impl Work for
-- Scripts` cites laws that are proved with them.
use Rattle.std.proofs.Common.{◌≡◌, ℕ, ◌+◌, ◌-◌, ◌*◌, ◌<◌, true, false, Bool, Option, Some, None, Ok, Err, List, [], ◌∷◌, ◌++◌, length, take, length-take, arith}
use Rattle.std.specs.Prelude.{nat_lt}
use Rattle.std.proofs.lemmas.Bool.{lt-ltb}
use Rattle.of_mem.specs.declared.work.RawReply.{RawReply}
use Rattle.of_mem.specs.declared.work.TheConstants.{MOST_WRITES}
use Rattle.of_mem.specs.Programs.{Program}
use Rattle.of_mem.specs.Touching.{WritesAtMost}
use Rattle.of_mem.proofs.FewWrites.{writes_more, writes_none, writes_then}
use Rattle.of_map.specs.declared.answers.Put.{Put as PutAnswer}
use Rattle.of_map.specs.declared.answers.Put.TheVariants.{Full, New, Over}
use Rattle.of_map.specs.MapPrograms.{get_program, put_program, del_program}
use Rattle.of_map.proofs.Staying.{get_reads, put_few, del_few}
use Rattle.of_queue.specs.QueuePrograms.{push_program, pop_program}
use Rattle.of_queue.proofs.Staying.{push_few, pop_few}
use Rattle.of_script.specs.declared.instr.Cause.TheVariants.{NoRoom, Differs}
use Rattle.of_script.specs.declared.instr.Instr.{Instr}
use Rattle.of_script.specs.declared.instr.Instr.TheVariants.{Load, Store, Add, Sub, Get, Put, Del, Need, Push, Pop, Len, Count, First, Next, DropBelow}
use Rattle.of_script.specs.declared.instr.TheConstants.{MOST_INSTRS}
use Rattle.of_script.specs.Language.{greatest}
use Rattle.of_script.specs.Reading.{instr_at}
use Rattle.of_store.specs.declared.store.TheConstants.{MOST_ORDERED_BLOCKS}
use Rattle.of_store.specs.Store.{is_there}
use Rattle.of_eval.specs.ScriptPrograms.{InstrResult, answer_program, put_answers, answers_if, need_answers, add_unless, sub_unless, ordered_program, instr_program, program_of, word_program, go_on, words_program, script_program}

-- the most cells that an instruction writes; a put with a new key and a push write as many
abbrev pub most_instr_writes : ℕ
most_instr_writes = 6

module _ (o blocks : ℕ) (many : MOST_ORDERED_BLOCKS < blocks) where
  put_after : (r : PutAnswer) → WritesAtMost 0 (put_answers r)
  put_after Full = tt
  put_after New = tt
  put_after (Over w) = tt

  room_after : (t : Bool) → WritesAtMost 0 (answers_if NoRoom t)
  room_after true = tt
  room_after false = tt

  need_after : (t : Bool) → WritesAtMost most_instr_writes (answers_if Differs t)
  need_after true = tt
  need_after false = tt

  add_after : (r v : ℕ) (t : Bool) → WritesAtMost most_instr_writes (add_unless o r v t)
  add_after r v true = tt
  add_after r v false = tt

  sub_after : (r v : ℕ) (t : Bool) → WritesAtMost most_instr_writes (sub_unless o r v t)
  sub_after r v true = tt
  sub_after r v false = tt

  none_ordered : (f : Program InstrResult)
      → WritesAtMost most_instr_writes (ordered_program blocks f)
  none_ordered f = rw (lt-ltb MOST_ORDERED_BLOCKS blocks many) tt

  instr_few : (i : Instr) → WritesAtMost most_instr_writes (instr_program o blocks i)
  instr_few (Load r) = λ v. tt
  instr_few (Store r v) = tt
  instr_few (Add r v) = λ n. add_after r (n + v) (nat_lt greatest (n + v))
  instr_few (Sub r v) = λ n. sub_after r (n - v) (nat_lt n v)
  instr_few (Get k) =
      writes_then 0 6 (get_program o blocks k) answer_program
      (writes_none 0 (get_program o blocks k) (get_reads o blocks k)) (λ r. tt)
  instr_few (Put k v) =
      writes_then 6 0 (put_program o blocks k v) put_answers (put_few o blocks k v) put_after
  instr_few (Del k) =
      writes_then 4 2 (del_program o blocks k) answer_program (del_few o blocks k) (λ r. tt)
  instr_few (Need k v) =
      writes_then 0 6 (get_program o blocks k) (need_answers v)
      (writes_none 0 (get_program o blocks k) (get_reads o blocks k))
      (λ r. need_after (is_there r v))
  instr_few (Push q v) =
      writes_then 6 0 (push_program o blocks q v) (answers_if NoRoom) (push_few o q blocks v)
      room_after
  instr_few (Pop q) = writes_then 5 1 (pop_program o q) answer_program (pop_few o q) (λ r. tt)
  instr_few (Len q) = λ v. tt
  instr_few Count = λ v. tt
  instr_few First = none_ordered _
  instr_few (Next k) = none_ordered _
  instr_few (DropBelow k) = none_ordered _

  word_few : (i : Option Instr) → WritesAtMost most_instr_writes (program_of o blocks i)
  word_few None = tt
  word_few (Some i) = instr_few i

  next_few : (k n : ℕ) (done : List (Option ℕ)) (further : Option ℕ → Program RawReply)
      → ((v : Option ℕ) → WritesAtMost k (further v)) → (r : InstrResult)
      → WritesAtMost k (go_on n done further r)
  next_few k n done further h (Ok v) = h v
  next_few k n done further h (Err cause) = tt

  words_few : (n : ℕ) (ws : List ℕ) (done : List (Option ℕ))
      → WritesAtMost (most_instr_writes * length ws) (words_program o blocks n done ws)
  words_few n [] done = tt
  words_few n (w ∷ ws) done =
      let rest = most_instr_writes * length ws in
      let further = λ (v : Option ℕ). words_program o blocks n (done ++ v ∷ []) ws in
      let more : most_instr_writes * length (w ∷ ws) ≡ most_instr_writes + rest = omega arith in
      rw more
      (writes_then most_instr_writes rest (word_program o blocks w) (go_on n done further)
      (word_few (instr_at w))
      (next_few rest n done further (λ v. words_few n ws (done ++ v ∷ []))))

  -- a script of at most sixteen instructions writes at most MOST_WRITES cells
  pub script_few : (op : List ℕ) → WritesAtMost MOST_WRITES (script_program o blocks op)
  script_few op =
      let ws = take MOST_INSTRS op in
      writes_more (most_instr_writes * length ws) MOST_WRITES (script_program o blocks op)
      (omega (arith, length-take MOST_INSTRS op)) (words_few (length ws) ws [])
