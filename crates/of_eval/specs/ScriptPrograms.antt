-- Which cells scripts read and write, and in which order.
use Rattle.std.specs.Prelude.{ℕ, ◌+◌, ◌-◌, Bool, true, false, List, [], ◌∷◌, ◌++◌, length, take, nat_lt, if◌then◌else◌, Option, Some, None, Result, Ok, Err}
use Rattle.of_mem.specs.declared.work.RawReply.{RawReply}
use Rattle.of_mem.specs.Places.{register_at}
use Rattle.of_mem.specs.Programs.{Program, Done, Read, Write, then_do}
use Rattle.of_map.specs.declared.answers.Put.{Put as PutAnswer}
use Rattle.of_map.specs.declared.answers.Put.TheVariants.{Full, New, Over}
use Rattle.of_map.specs.MapPrograms.{get_program, put_program, del_program, key_count_program}
use Rattle.of_order.specs.OrderPrograms.{least_program, drop_program}
use Rattle.of_queue.specs.QueuePrograms.{push_program, pop_program, len_program}
use Rattle.of_script.specs.declared.instr.Instr.{Instr}
use Rattle.of_script.specs.declared.instr.Instr.TheVariants.{Load, Store, Add, Sub, Get, Put, Del, Need, Push, Pop, Len, Count, First, Next, DropBelow}
use Rattle.of_script.specs.declared.instr.Cause.{Cause}
use Rattle.of_script.specs.declared.instr.Cause.TheVariants.{Overflow, Short, NoRoom, Differs, BadOp}
use Rattle.of_script.specs.declared.instr.TheConstants.{MOST_INSTRS}
use Rattle.of_script.specs.Language.{greatest}
use Rattle.of_script.specs.Reading.{instr_at}
use Rattle.of_store.specs.declared.store.TheConstants.{MOST_ORDERED_BLOCKS}
use Rattle.of_store.specs.Store.{is_there, Answered, Aborted}
use Rattle.of_eval.specs.Shapes.{reply_cells}
use Rattle.of_eval.specs.Words.{reply_to}

-- what one instruction answers: Ok with a number or none, or the cause for which the script aborts
abbrev pub InstrResult : Type 0
InstrResult = Result (Option ℕ) Cause

abbrev pub answer_program : Option ℕ → Program InstrResult
answer_program v = Done (Ok v)

abbrev pub answers_number : ℕ → Program InstrResult
answers_number v = Done (Ok (Some v))

abbrev pub abort_program : Cause → Program InstrResult
abort_program cause = Done (Err cause)

-- Instructions on registers. `add` aborts if the sum is above the greatest number, and `sub` if
-- more is taken off than the register has.

abbrev pub write_register : ℕ → ℕ → ℕ → Program InstrResult
write_register o r v = Write (register_at o r) v (Done (Ok (Some v)))

abbrev pub add_unless : ℕ → ℕ → ℕ → Bool → Program InstrResult
add_unless o r v true = abort_program Overflow
add_unless o r v false = write_register o r v

abbrev pub add_to : ℕ → ℕ → ℕ → ℕ → Program InstrResult
add_to o r v n = add_unless o r (n + v) (nat_lt greatest (n + v))

abbrev pub sub_unless : ℕ → ℕ → ℕ → Bool → Program InstrResult
sub_unless o r v true = abort_program Short
sub_unless o r v false = write_register o r v

abbrev pub sub_from : ℕ → ℕ → ℕ → ℕ → Program InstrResult
sub_from o r v n = sub_unless o r (n - v) (nat_lt n v)

-- Instructions on keys and queues. `put` and `push` abort if there is no room, and `need` aborts if
-- the value differs.

abbrev pub put_answers : PutAnswer → Program InstrResult
put_answers Full = abort_program NoRoom
put_answers New = answer_program None
put_answers (Over before) = answer_program (Some before)

abbrev pub answers_if : Cause → Bool → Program InstrResult
answers_if cause true = answer_program None
answers_if cause false = abort_program cause

abbrev pub need_answers : ℕ → Option ℕ → Program InstrResult
need_answers v found = answers_if Differs (is_there found v)

-- Instructions on keys in their order. With more than MOST_ORDERED_BLOCKS blocks they abort, with
-- the cause of a word that is no instruction.

abbrev pub ordered_program : ℕ → Program InstrResult → Program InstrResult
ordered_program blocks f = if nat_lt MOST_ORDERED_BLOCKS blocks then abort_program BadOp else f

abbrev pub instr_program : ℕ → ℕ → Instr → Program InstrResult
instr_program o blocks (Load r) = Read (register_at o r) answers_number
instr_program o blocks (Store r v) = Write (register_at o r) v (answer_program None)
instr_program o blocks (Add r v) = Read (register_at o r) (add_to o r v)
instr_program o blocks (Sub r v) = Read (register_at o r) (sub_from o r v)
instr_program o blocks (Get k) = then_do (get_program o blocks k) answer_program
instr_program o blocks (Put k v) = then_do (put_program o blocks k v) put_answers
instr_program o blocks (Del k) = then_do (del_program o blocks k) answer_program
instr_program o blocks (Need k v) = then_do (get_program o blocks k) (need_answers v)
instr_program o blocks (Push q v) = then_do (push_program o blocks q v) (answers_if NoRoom)
instr_program o blocks (Pop q) = then_do (pop_program o q) answer_program
instr_program o blocks (Len q) = then_do (len_program o q) answers_number
instr_program o blocks Count = then_do (key_count_program o) answers_number
instr_program o blocks First =
    ordered_program blocks (then_do (least_program o blocks 0) answer_program)
instr_program o blocks (Next k) =
    ordered_program blocks (then_do (least_program o blocks (k + 1)) answer_program)
instr_program o blocks (DropBelow k) =
    ordered_program blocks (then_do (drop_program o blocks k) answers_number)

abbrev pub program_of : ℕ → ℕ → Option Instr → Program InstrResult
program_of o blocks None = abort_program BadOp
program_of o blocks (Some i) = instr_program o blocks i

abbrev pub word_program : ℕ → ℕ → ℕ → Program InstrResult
word_program o blocks w = program_of o blocks (instr_at w)

-- the script goes on with the instruction's answer; or it ends with a reply that says at which
-- instruction it aborted, and why
abbrev pub go_on : ℕ → List (Option ℕ) → (Option ℕ → Program RawReply) → InstrResult
    → Program RawReply
go_on n done further (Ok v) = further v
go_on n done further (Err cause) = Done (reply_cells (reply_to n (Aborted (length done) cause)))

-- the program of the words `ws` that come last in a script of n words; `done` has the answers of
-- the words before them
abbrev pub words_program : ℕ → ℕ → ℕ → List (Option ℕ) → List ℕ → Program RawReply
words_program o blocks n done [] = Done (reply_cells (reply_to n (Answered done)))
words_program o blocks n done (w ∷ ws) =
    then_do (word_program o blocks w)
    (go_on n done (λ v. words_program o blocks n (done ++ v ∷ []) ws))

-- the program of an operation's words; only the first MOST_INSTRS words are looked at
abbrev pub script_program : ℕ → ℕ → List ℕ → Program RawReply
script_program o blocks op =
    words_program o blocks (length (take MOST_INSTRS op)) [] (take MOST_INSTRS op)
