-- The record of a run: what its answers and the recovered cells say of the history, and when the
-- record is lawful.
use Rattle.std.specs.Prelude.{◌≡◌, ℕ, ◌+◌, ◌==◌, ◌<◌, true, false, Bool, List, [], ◌∷◌, ◌++◌, length, All}
use Rattle.std.proofs.Common.{get_or}
use Rattle.of_cell.specs.Words.{seq_of, payload_of}
use Rattle.of_cell.specs.Cells.{durable_place, table_words}
use Rattle.of_recover.specs.Row.{current_seq}
use Rattle.of_recover.specs.Recovered.{recovered_data}
use Rattle.of_mem.specs.Places.{ticket_cell_at}
use Rattle.of_script.specs.declared.instr.Reply.{Reply}
use Rattle.of_script.specs.declared.instr.TheConstants.{MOST_INSTRS}
use Rattle.of_store.specs.Replies.{reply_value_of}
use Rattle.of_plan.specs.declared.answer.Answer.{Answer}
use Rattle.of_plan.specs.declared.answer.Ending.{Ending}
use Rattle.of_plan.specs.declared.answer.Ending.TheVariants.{Done, Stopped, Spent}
use Rattle.of_plan.specs.Plan.{Plan, data_cells}
use Rattle.of_plan.specs.Ended.{Ended, answers_of, ending_of, longest_steps}
use Rattle.of_plan.specs.Report as plain
use Rattle.of_plan.specs.Report.{Entry, EndState, Start, entries_of, caller_line, finished_of}
use Rattle.of_plan.specs.Legal.{IsLegal}
use Rattle.of_eval.specs.Shapes.{IsHeldBy, IsWhole}
use Rattle.of_eval.specs.Lawful.{reply_in, DataCellsStandFor}

-- how many data cells the table of a plan has
abbrev pub plan_data_cells : Plan → ℕ
plan_data_cells p = data_cells p.callers p.blocks

-- the durable word of cell c that a run of the plan left
abbrev pub durable_of : Plan → Ended → ℕ → ℕ
durable_of p e c = get_or e.words (durable_place p.callers (plan_data_cells p) c) 0

-- the sequence of the last committed transaction, which recovery finds in the durable words of the
-- run
abbrev pub recovered_seq : Plan → Ended → ℕ
recovered_seq p e = current_seq (durable_of p e)

-- the word of the data cell with address a, after recovery
abbrev pub recovered_data_word : Plan → Ended → ℕ → ℕ
recovered_data_word p e a = recovered_data p.callers (plan_data_cells p) (durable_of p e) a

abbrev pub record_number : Plan → Ended → ℕ → ℕ
record_number p e a = payload_of (recovered_data_word p e a)

-- the report's entry for the answer of caller c to its call with this index
abbrev pub answer_entry : (caller index : ℕ) → Answer → Entry
answer_entry c x a = record {
  seq = a.seq;
  caller = c;
  index = x;
  announced = a.announced;
  reply = reply_value_of a.reply;
}

-- the report's entries for a caller's answers; the first of them has this index, and the next ones
-- follow
abbrev pub answer_entries : (caller index : ℕ) → List Answer → List Entry
answer_entries c x [] = []
answer_entries c x (a ∷ others) = answer_entry c x a ∷ answer_entries c (x + 1) others

-- the report's entry for a caller's open call, with the sequence of the recovered ticket cell and
-- the reply r
abbrev pub open_entry : Plan → Ended → (caller index : ℕ) → Reply → Entry
open_entry p e c x r = record {
  seq = seq_of (recovered_data_word p e (ticket_cell_at MOST_INSTRS c));
  caller = c;
  index = x;
  announced = true;
  reply = reply_value_of r;
}

-- If the flag says that the recovered ticket cell holds the open call's ticket, the call has an
-- entry, with the reply that the caller's other own cells hold. Otherwise it has none.
abbrev pub OpenCall : Plan → Ended → (caller index : ℕ) → (recovered : Bool) → List Entry → Type 0
OpenCall p e c x true extra =
    (r : Reply) × IsHeldBy (reply_in MOST_INSTRS (record_number p e) c) r
    × (extra ≡ open_entry p e c x r ∷ [])
OpenCall p e c x false extra = extra ≡ []

-- The entries that a caller has besides its answers: only a stopped caller may have one, for its
-- open call.
abbrev pub BeyondAnswers : Plan → Ended → (caller index : ℕ) → Ending → List Entry → Type 0
BeyondAnswers p e c x Done extra = extra ≡ []
BeyondAnswers p e c x (Stopped asked) extra =
    OpenCall p e c x (record_number p e (ticket_cell_at MOST_INSTRS c) == x + 1) extra
BeyondAnswers p e c x (Spent s) extra = extra ≡ []

-- es are the entries of caller c: those of its answers, and then its open call's if it has one
pub record OwnEntries (p : Plan) (s : Start) (e : Ended) (c : ℕ) (es : List Entry) : Type 0 where
  pub extra : List Entry
  pub beyond : BeyondAnswers p e c (finished_of s c + length (answers_of e c)) (ending_of e c) extra
  pub own : es ≡ answer_entries c (finished_of s c) (answers_of e c) ++ extra

-- how a caller ended, as one of the words done, stopped and spent, without the details
abbrev pub end_state_of : Ending → EndState
end_state_of Done = plain.done
end_state_of (Stopped asked) = plain.stopped
end_state_of (Spent seq_of) = plain.spent

-- the report's line for caller c: how it ended, how many calls were answered, how many entries it
-- has, and the greatest number of steps of a call
abbrev pub line_for : Ended → (caller entries : ℕ) → plain.Line
line_for e c n = record {
  state = end_state_of (ending_of e c);
  answered = length (answers_of e c);
  entries = n;
  longest = longest_steps (answers_of e c);
}

-- The report agrees with the record: it has the record's entries, endings and steps, and the
-- sequence and the store that recovery finds.
pub record IsRecordOf (p : Plan) (s : Start) (e : Ended) (r : plain.Report) : Type 0 where
  pub entries : (c : ℕ) → c < p.callers → OwnEntries p s e c (entries_of r c)
  pub each_caller : length r.callers ≡ p.callers
  pub callers : (c : ℕ) → c < p.callers → caller_line r c ≡ line_for e c (length (entries_of r c))
  pub seq : r.seq ≡ recovered_seq p e
  pub store : DataCellsStandFor p.callers MOST_INSTRS p.blocks (record_number p e) r.store

-- What a run of plan p from start s leaves is lawful: it has an answer list and an ending for each
-- caller and all words of the table, its replies are whole, and r is its report and is legal.
pub record IsLawfulRecord (p : Plan) (s : Start) (e : Ended) (r : plain.Report) : Type 0 where
  pub answers : length e.answers ≡ p.callers
  pub endings : length e.endings ≡ p.callers
  pub words : length e.words ≡ table_words p.callers MOST_INSTRS (plan_data_cells p)
  pub whole : (c : ℕ) → c < p.callers → All (λ a. IsWhole a.reply) (answers_of e c)
  pub report : IsRecordOf p s e r
  pub legal : IsLegal p s r
