-- What the line of a step has after the change of the word: parts, each after a semicolon.
use Rattle.std.specs.Prelude.{ℕ, zero, suc, ◌/◌, ◌%◌, ◌^◌, ◌==◌, nat_lt, if◌then◌else◌, Bool, true, false, List, [], ◌++◌, take, Option, Some, None, codes, decimal}
use Rattle.of_cell.specs.Words.{seq_of, payload_of}
use Rattle.of_mem.specs.declared.work.RawReply.{RawReply}
use Rattle.of_script.specs.declared.instr.Instr.{Instr}
use Rattle.of_script.specs.declared.instr.Cause.{Cause}
use Rattle.of_script.specs.declared.instr.Cause.TheVariants.{Overflow, Short, NoRoom, Differs, BadOp}
use Rattle.of_script.specs.Text.{instr_text}
use Rattle.of_script.specs.Reading.{instr_at}
use Rattle.of_store.specs.Store.{Reply, Answered as Values, Aborted}
use Rattle.of_eval.specs.Reading.{marked_in}
use Rattle.of_report.specs.ReportText.{reply_text}
use Rattle.of_core.specs.declared.place.Op.{Op}
use Rattle.of_core.specs.declared.place.Op.TheVariants.{Load, Store, Exchange, Raise}
use Rattle.of_core.specs.declared.place.Outcome.{Outcome}
use Rattle.of_core.specs.declared.place.Outcome.TheVariants.{Answered, Spent, Lost}
use Rattle.of_play.specs.declared.names.CellUse.{CellUse}
use Rattle.of_play.specs.declared.names.CellUse.TheVariants.{Ticket, Shape, Reply as ReplyHeld, Register, Taken, Free, Keys, Bucket, Front, Back, Length, Block}
use Rattle.of_play.specs.declared.names.ShownCell.{ShownCell}
use Rattle.of_play.specs.declared.names.ShownCell.TheVariants.{Current, Request, Data, Log}
use Rattle.of_play.specs.declared.names.ShownWord.{ShownWord}
use Rattle.of_play.specs.declared.names.ShownWord.TheVariants.{Now, Durable, Script, Announcement, Members}
use Rattle.of_play.specs.Names.{cell_use_at}
use Rattle.of_play.specs.TraceText.{cell_use_text, pair_text}

-- ---- whom the step helps, and what it did

-- what is printed of the caller that a step helps: the owner of the log that is copied or applied
abbrev pub helper_part : Option ℕ → List ℕ
helper_part None = []
helper_part (Some i) = codes "; helps " ++ decimal i

-- what is printed of an exchange: that it has won; or that it has lost, and which word was expected
abbrev pub exchange_part : (won : Bool) → (old new : ℕ) → List ℕ
exchange_part true old new = codes "; won"
exchange_part false old new =
    codes "; lost, wanted " ++ pair_text old ++ codes " -> " ++ pair_text new

-- what is printed of a raise: the value of the raise, if the word that it found is above this value
abbrev pub raise_part : (above : Bool) → (value : ℕ) → List ℕ
raise_part true v = codes "; wanted " ++ pair_text v
raise_part false v = []

-- what is printed of how a step went that has found this word: something only for an exchange and
-- for a raise
abbrev pub did_part : Op → (found : ℕ) → List ℕ
did_part (Load c) found = []
did_part (Store c v) found = []
did_part (Exchange c old new) found = exchange_part (found == old) old new
did_part (Raise c v) found = raise_part (nat_lt v found) v

-- ---- what the word that was left means

-- what is printed of a script word: the instruction for which the word stands, if there is one
abbrev pub instr_part : Option Instr → List ℕ
instr_part None = []
instr_part (Some i) = codes "; " ++ instr_text i

-- what is printed of a pointer: 0 leads to no block, and `b + 1` to block `b`
abbrev pub pointer_part : ℕ → List ℕ
pointer_part zero = codes "; no block"
pointer_part (suc b) = codes "; block " ++ decimal b

-- what is printed of the shape of a reply: how many instructions it answers, or at which one the
-- script aborted
abbrev pub shape_part : ℕ → List ℕ
shape_part x =
    if x == 0 then []
    else if nat_lt x (2 ^ 21) then codes "; answers " ++ decimal (x / 2 ^ 16 % 32)
    else codes "; aborted at " ++ decimal (x / 2 ^ 21 % 32)

-- what is printed of a field of a block: the last field is a pointer, and of the others nothing is
-- printed
abbrev pub field_part : (field x : ℕ) → List ℕ
field_part f x = if f == 2 then pointer_part x else []

-- what is printed of what a number in a data cell with this use means: something only for a shape
-- and for a pointer
abbrev pub cell_use_part : CellUse → ℕ → List ℕ
cell_use_part (Ticket i) x = []
cell_use_part (Shape i) x = shape_part x
cell_use_part (ReplyHeld i j) x = []
cell_use_part (Register r) x = []
cell_use_part Taken x = []
cell_use_part Free x = pointer_part x
cell_use_part Keys x = []
cell_use_part (Bucket b) x = pointer_part x
cell_use_part (Front q) x = pointer_part x
cell_use_part (Back q) x = pointer_part x
cell_use_part (Length q) x = []
cell_use_part (Block b f) x = field_part f x

-- what is printed of a request: whether its transaction is open
abbrev pub request_part : ℕ → List ℕ
request_part v =
    if seq_of v == 0 then []
    else if payload_of v == 0 then codes "; open"
    else codes "; closed"

-- what is printed of a word of a log: those with odd numbers hold the address of a data cell
abbrev pub log_part : (n at x : ℕ) → List ℕ
log_part n at x = if at % 2 == 1 then codes "; " ++ cell_use_text (cell_use_at n x) else []

-- what is printed of the word of a cell, if there are `n` callers
abbrev pub cell_part : (n : ℕ) → ShownCell → ℕ → List ℕ
cell_part n Current v = []
cell_part n (Request i) v = request_part v
cell_part n (Data a) v = cell_use_part (cell_use_at n a) (payload_of v)
cell_part n (Log i at) v = log_part n at (payload_of v)

-- what is printed of the meaning of a word of the table, if there are `n` callers
abbrev pub word_part : (n : ℕ) → ShownWord → ℕ → List ℕ
word_part n (Now c) v = cell_part n c v
word_part n (Durable c) v = cell_part n c v
word_part n (Script i x) v = instr_part (instr_at v)
word_part n (Announcement i) v = []
word_part n Members v = []

-- ---- the reply of a call that has ended

-- the cause of an abort that has this number in the shape of a reply
abbrev pub cause_at : ℕ → Cause
cause_at c =
    if c == 1 then Overflow else if c == 2 then Short else if c == 3 then NoRoom
    else if c == 4 then Differs else BadOp

-- the reply that the cells of a call hold
abbrev pub shown_reply : RawReply → Reply
shown_reply raw =
    if nat_lt raw.shape (2 ^ 21)
    then Values (take (raw.shape / 2 ^ 16 % 32) (marked_in (raw.shape % 2 ^ 16) raw.values))
    else Aborted (raw.shape / 2 ^ 21 % 32) (cause_at (raw.shape / 2 ^ 26))

-- what is printed of the reply that the cells hold, as a report prints it
abbrev pub held_part : RawReply → List ℕ
held_part raw = codes "; reply" ++ reply_text (shown_reply raw)

-- what is printed of the reply of a call that has ended; a spent or a lost call has none
abbrev pub reply_part : Option Outcome → List ℕ
reply_part None = []
reply_part (Some (Answered s announced raw k)) = held_part raw
reply_part (Some (Spent s)) = []
reply_part (Some (Lost s)) = []
