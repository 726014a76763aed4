-- What is known of a moment of a plan's table, of the calls that led to it and of what a run has
-- left of it: the premises of its record.
use Rattle.std.proofs.Common.{◌≡◌, ℕ, ◌+◌, ◌<◌, ◌≤◌, ◌⊎◌, false, true, IsTrue, List, [], length, get_or}
use Rattle.std.specs.Prelude.{All}
use Rattle.of_cell.specs.Words.{pack}
use Rattle.of_mem.specs.declared.work.RawReply.{RawReply}
use Rattle.of_mem.specs.Places.{ticket_cell_at}
use Rattle.of_script.specs.declared.instr.Reply.{Reply as RustReply}
use Rattle.of_script.specs.declared.instr.TheConstants.{MOST_INSTRS}
use Rattle.of_script.specs.Language.{reads_only}
use Rattle.of_store.specs.Store.{Reply, run as play_script}
use Rattle.of_store.specs.Replies.{reply_value_of}
use Rattle.of_eval.specs.Shapes.{IsHeldBy}
use Rattle.of_eval.specs.Lawful.{reply_in}
use Rattle.of_eval.specs.Record.{recovered_data_word, record_number}
use Rattle.of_plan.specs.Plan.{Plan}
use Rattle.of_plan.specs.Report.{Start, finished_of}
use Rattle.of_plan.specs.Ended.{Ended}
use Rattle.of_core.specs.declared.place.Outcome.{Outcome}
use Rattle.of_core.specs.declared.place.Outcome.TheVariants.{Answered}
use Rattle.of_core.specs.Table.{durable_seq}
use Rattle.of_core.specs.TableMoment.{Moment, TableStart}
use Rattle.of_core.specs.History.{HasNoCallBetween}
use Rattle.of_core.specs.Order.{no_read}
use Rattle.of_core.specs.Calls.{HasCalls, no_outcome}
use Rattle.of_core.specs.Least.{least_read}
use Rattle.of_caller.specs.Tables.{plan_setup}
use Rattle.of_caller.specs.Runs.{AreNextScripts, TellsCalls}
use Rattle.of_caller.specs.Moments.{script_of_ticket, store_at_seq}
use Rattle.of_caller.proofs.RecordsCalls.{call_at, response_at, IsPlace}

-- whatever reply the raw one holds is this response
abbrev pub Responds : RawReply → Reply → Type 0
Responds raw response = (r : RustReply) → IsHeldBy raw r → reply_value_of r ≡ response

-- the call of caller c with the ticket t stands in batch k, and has the reply of serial replay
pub record IsAnnounced (p : Plan) (s : Start) (B : TableStart) (w : Moment) (c t k : ℕ) (raw : RawReply) : Type 0 where
  pub place : ℕ
  pub there : IsPlace p B w k place
  pub caller : (call_at B w k place).caller ≡ c
  pub ticket : (call_at B w k place).ticket ≡ t
  pub reply : Responds raw (response_at p s B w k place)

-- the call of caller c with the ticket t is a read of the store after sequence k, and has the reply
-- that its script has there
pub record IsRead (p : Plan) (s : Start) (B : TableStart) (w : Moment) (c t k : ℕ) (raw : RawReply) : Type 0 where
  pub from : B.seq ≤ k
  pub upto : k ≤ durable_seq (plan_setup p) w.words
  pub place : ℕ
  pub among : place < length w.reads
  pub caller : (get_or w.reads place no_read).caller ≡ c
  pub ticket : (get_or w.reads place no_read).ticket ≡ t
  pub seq : (get_or w.reads place no_read).seq ≡ k
  pub only : All (λ i. IsTrue (reads_only i)) (script_of_ticket p c t)
  pub reply : Responds raw (play_script (store_at_seq p B s.store w k) (script_of_ticket p c t)).1

-- the last call of caller c up to the durable sequence is what recovery finds in its own cells
pub record IsLast (p : Plan) (s : Start) (B : TableStart) (w : Moment) (e : Ended) (c : ℕ) : Type 0 where
  pub number : ℕ
  pub place : ℕ
  pub there : IsPlace p B w number place
  pub caller : (call_at B w number place).caller ≡ c
  pub absent : HasNoCallBetween B w.batches c number (durable_seq (plan_setup p) w.words)
  pub word_is : recovered_data_word p e (ticket_cell_at MOST_INSTRS c) ≡ pack number (call_at B w number place).ticket
  pub ticket_is : record_number p e (ticket_cell_at MOST_INSTRS c) ≡ (call_at B w number place).ticket
  pub reply : RustReply
  pub held : IsHeldBy (reply_in MOST_INSTRS (record_number p e) c) reply
  pub response : reply_value_of reply ≡ response_at p s B w number place

-- caller c has no call up to the durable sequence, and recovery finds none
pub record HasNone (p : Plan) (s : Start) (B : TableStart) (w : Moment) (e : Ended) (c : ℕ) : Type 0 where
  pub absent : HasNoCallBetween B w.batches c B.seq (durable_seq (plan_setup p) w.words)
  pub ticket_is : record_number p e (ticket_cell_at MOST_INSTRS c) ≡ finished_of s c

-- of caller c, which has begun these operations, and whose calls have ended so
pub record CallerFacts (p : Plan) (s : Start) (B : TableStart) (w : Moment) (e : Ended) (c : ℕ) (ops : List (List ℕ)) (outs : List Outcome) : Type 0 where
  pub calls : HasCalls (plan_setup p) B (finished_of s c) w c ops outs
  pub scripts : AreNextScripts p (finished_of s c) c ops
  pub tells : TellsCalls p s w e c outs
  pub announced : (x k steps : ℕ) (raw : RawReply) → x < length outs → get_or outs x no_outcome ≡ Answered k true raw steps → IsAnnounced p s B w c (finished_of s c + x + 1) k raw
  pub read : (x k steps : ℕ) (raw : RawReply) → x < length outs → get_or outs x no_outcome ≡ Answered k false raw steps → IsRead p s B w c (finished_of s c + x + 1) k raw
  pub least_reads : (x : ℕ) → x < length ops → All (λ i. IsTrue (reads_only i)) (script_of_ticket p c (finished_of s c + x + 1)) → least_read (plan_setup p) (get_or ops x []) ≡ 3
  pub recovered : HasNone p s B w e c ⊎ IsLast p s B w e c
