-- The cells of a history stand for the stores of serial replay from the start, and the replies are
-- those of that replay.
use Rattle.std.proofs.Common.{◌≡◌, ℕ, zero, suc, ◌+◌, ◌-◌, ◌≤◌, ◌<◌, Bool, true, false, List, [], ◌∷◌, ◌++◌, length, get_or, map, take, refl, sym, ap, subst, ◌∙◌, arith}
use Rattle.std.specs.Prelude.{IsTrue}
use Rattle.std.specs.List.{All, AllByRecursion as Each}
use Rattle.std.proofs.lemmas.Bool.{false≢true}
use Rattle.std.proofs.lemmas.List.{take_more, length-map}
use Rattle.std.proofs.lemmas.List.Elements.{All-from_recursion, recursion_from_All}
use Rattle.of_cell.specs.Words.{payload_of}
use Rattle.of_mem.specs.declared.work.RawReply.{RawReply}
use Rattle.of_mem.specs.Places.{base_of}
use Rattle.of_mem.specs.ProgramWork.{memory_of}
use Rattle.of_mem.proofs.Standing.{stands_from}
use Rattle.of_script.specs.declared.instr.Instr.{Instr}
use Rattle.of_script.specs.declared.instr.TheConstants.{MOST_INSTRS}
use Rattle.of_script.specs.Language.{IsScript, reads_only}
use Rattle.of_script.proofs.WordLaws.{words_injective}
use Rattle.of_store.specs.Store.{replies_in_order, last_store, run}
use Rattle.of_eval.specs.Scripts.{script_reads}
use Rattle.of_eval.specs.Stored.{cell_store, IsStored}
use Rattle.of_eval.proofs.ReadsOnly.{reads_of}
use Rattle.of_plan.specs.Plan.{Plan}
use Rattle.of_plan.specs.Report.{Start, finished_of}
use Rattle.of_core.specs.declared.place.Outcome.{Outcome}
use Rattle.of_core.specs.declared.place.Outcome.TheVariants.{Answered}
use Rattle.of_core.specs.declared.place.Place.{Place}
use Rattle.of_core.specs.declared.place.Place.TheVariants.{Idle}
use Rattle.of_core.specs.Table.{Setup, first_operation_cell, durable_seq}
use Rattle.of_core.specs.Machine.{no_call, is_idle}
use Rattle.of_core.specs.TableMoment.{Moment, Batch, Read, TableStart}
use Rattle.of_core.specs.Order.{no_read}
use Rattle.of_core.specs.History.{numbers_after, no_batch, numbers_after_calls, CallsHaveReplies, numbers_after_batches, SameWhereMarked}
use Rattle.of_core.specs.Calls.{no_outcome}
use Rattle.of_core.specs.Events.{machine_in}
use Rattle.of_caller.specs.Tables.{plan_setup, operation_of}
use Rattle.of_core.specs.Calls.{OutcomeStands}
use Rattle.of_caller.specs.Moments.{script_of_ticket, call_script, batch_calls, batch_scripts, store_after_batches, store_at_seq}
use Rattle.of_caller.specs.Runs.{IsMomentOf}
use Rattle.of_caller.proofs.StoresHeld.{HasReply, has_reply}
use Rattle.of_caller.proofs.StoresMoments.{IsOperation, IsCallOf, operation_is, op_is}
use Rattle.of_caller.proofs.StoresReplay.{no_response, batch_is, same_from, same_length, replay_more, legal_at, IsReplied, Cells, runs, calls_lead, call_replied}

-- a read of the store after its sequence has the reply that its script has there
pub record IsReadOf (p : Plan) (s : Start) (B : TableStart) (w : Moment) (r : Read) : Type 0 where
  pub operation : IsOperation p r.caller r.ticket r.op
  pub only : All (λ i. IsTrue (reads_only i)) (script_of_ticket p r.caller r.ticket)
  pub from : B.seq ≤ r.seq
  pub upto : r.seq ≤ durable_seq (plan_setup p) w.words
  pub reply : HasReply r.raw (run (store_at_seq p B s.store w r.seq) (script_of_ticket p r.caller r.ticket)).1

-- the call of caller i with the ticket t stands in batch k, and the raw reply is that of serial
-- replay
pub record IsAnnouncedAt (p : Plan) (s : Start) (B : TableStart) (w : Moment) (i t k : ℕ) (raw : RawReply) : Type 0 where
  pub some : B.seq < k
  pub upto : k ≤ durable_seq (plan_setup p) w.words
  pub place : ℕ
  pub among : place < length (batch_calls B w k)
  pub caller : (get_or (batch_calls B w k) place no_call).caller ≡ i
  pub ticket : (get_or (batch_calls B w k) place no_call).ticket ≡ t
  pub reply : HasReply raw (get_or (replies_in_order (store_at_seq p B s.store w (k - 1)) (batch_scripts p B w k)) place no_response)

-- the call of caller i with the ticket t is a read of the store after sequence k, and the raw reply
-- is that of its script there
pub record IsReadAt (p : Plan) (s : Start) (B : TableStart) (w : Moment) (i t k : ℕ) (raw : RawReply) : Type 0 where
  pub from : B.seq ≤ k
  pub upto : k ≤ durable_seq (plan_setup p) w.words
  pub place : ℕ
  pub among : place < length w.reads
  pub is : get_or w.reads place no_read ≡ record { caller = i; ticket = t; op = (get_or w.reads place no_read).op; raw = raw; seq = k }
  pub only : All (λ j. IsTrue (reads_only j)) (script_of_ticket p i t)
  pub reply : HasReply raw (run (store_at_seq p B s.store w k) (script_of_ticket p i t)).1

-- the place of no open call
idle_is : (q : Place) → is_idle q ≡ true → q ≡ Idle
idle_is Idle e = refl
idle_is q e = absurd (false≢true e)

-- where the raw reply of an outcome comes from
abbrev pub IsHeldAt : Plan → Start → TableStart → Moment → (i t k : ℕ) → RawReply → (announced : Bool) → Type 0
IsHeldAt p s B w i t k raw true = IsAnnouncedAt p s B w i t k raw
IsHeldAt p s B w i t k raw false = IsReadAt p s B w i t k raw

module _ (p : Plan) (s : Start) (B : TableStart) (w : Moment) (ops : ℕ → List (List ℕ)) (outs : ℕ → List Outcome) (h : IsMomentOf p s B w ops outs) where
  abbrev S : Setup
  S = plan_setup p

  abbrev start : List ℕ
  start = map payload_of B.cells

  each_call : (k : ℕ) → k < length w.batches → Each (IsCallOf p) (get_or w.batches k no_batch).calls
  each_call k l =
      subst (λ (b : Batch). Each (IsCallOf p) b.calls) (batch_is B w.batches k)
      (recursion_from_All (IsCallOf p) (batch_calls B w (B.seq + k + 1)) (op_is p s B w ops outs h (B.seq + k + 1) (omega arith) (omega (arith, l))))

  started : Cells p h.plan start (store_after_batches p B s.store w 0)
  started = record { size = length-map B.cells payload_of ∙ h.starts.size; stored = h.starts.stands.stored }

  -- the replay of the first k batches
  replayed : (k : ℕ) → k ≤ length w.batches → Cells p h.plan (numbers_after_batches S.meaning start (take k w.batches)) (store_after_batches p B s.store w k)
  replayed zero l = started
  replayed (suc k) l =
      let t : take (suc k) w.batches ≡ take k w.batches ++ get_or w.batches k no_batch ∷ [] = (let e : suc k ≡ k + 1 = omega arith in ap (λ (n : ℕ). take n w.batches) e ∙ take_more w.batches k no_batch (omega (arith, l))) in
      let leads = calls_lead p h.plan (get_or w.batches k no_batch).calls (numbers_after_batches S.meaning start (take k w.batches)) (store_after_batches p B s.store w k) (replayed k (omega (arith, l))) (each_call k (omega (arith, l))) in
      let P : List ℕ → Batch → Type 0 = λ xs b. Cells p h.plan xs (last_store (store_after_batches p B s.store w k) (map (call_script p) b.calls)) in
      let cells : numbers_after_batches S.meaning start (take (suc k) w.batches) ≡ numbers_after_calls S.meaning (numbers_after_batches S.meaning start (take k w.batches)) (get_or w.batches k no_batch).calls =
      ap (numbers_after_batches S.meaning start) t ∙ replay_more S.meaning start (take k w.batches) (get_or w.batches k no_batch) in
      subst (λ (b : Batch). P (numbers_after_batches S.meaning start (take (suc k) w.batches)) b) (sym (batch_is B w.batches k)) (subst (λ (xs : List ℕ). P xs (get_or w.batches k no_batch)) (sym cells) leads)

  -- the numbers of the data cells after so many batches
  behind_stand : (k : ℕ) → k ≤ length w.batches → Cells p h.plan (numbers_after B w.batches (B.seq + k)) (store_after_batches p B s.store w k)
  behind_stand k l =
      let xs = numbers_after B w.batches (B.seq + k) in
      let ys = numbers_after_batches S.meaning start (take k w.batches) in
      let r = replayed k l in
      let same = h.sound.state k l in
      record {
        size = same_length (first_operation_cell S) xs ys same (omega (arith, r.size)) ∙ r.size;
        stored = record {
          state = r.stored.state;
          stands = stands_from (base_of p.callers MOST_INSTRS) p.blocks (memory_of ys) (memory_of xs) (λ a low. sym (same_from (first_operation_cell S) xs ys same a low)) (cell_store (store_after_batches p B s.store w k)) r.stored.stands;
        };
      }

  -- and after batch k
  numbers_stand : (k : ℕ) → B.seq ≤ k → k ≤ B.seq + length w.batches → Cells p h.plan (numbers_after B w.batches k) (store_at_seq p B s.store w k)
  numbers_stand k low high =
      let e : B.seq + (k - B.seq) ≡ k = omega (arith, low) in
      subst (λ (n : ℕ). Cells p h.plan (numbers_after B w.batches n) (store_after_batches p B s.store w (k - B.seq))) e (behind_stand (k - B.seq) (omega (arith, low, high)))

  -- the cells after batch k stand for the store of its replay
  pub is_stored : (k : ℕ) → B.seq ≤ k → k ≤ B.seq + length w.batches → IsStored (base_of p.callers MOST_INSTRS) p.blocks (memory_of (numbers_after B w.batches k)) (store_at_seq p B s.store w k)
  is_stored k low high = (numbers_stand k low high).stored

  met : (k : ℕ) → k < length w.batches → CallsHaveReplies S.meaning (numbers_after_batches S.meaning start (take k w.batches)) (get_or w.batches k no_batch).calls
  met k l = legal_at S.meaning start w.batches k h.sound.legal l

  -- the call at a place of a batch has the reply of serial replay
  replied_behind : (k y : ℕ) → k < length w.batches → y < length (batch_calls B w (B.seq + k + 1))
      → IsReplied (get_or (batch_calls B w (B.seq + k + 1)) y no_call) (get_or (replies_in_order (store_after_batches p B s.store w k) (batch_scripts p B w (B.seq + k + 1))) y no_response)
  replied_behind k y upto l =
      let b = batch_is B w.batches k in
      let at = call_replied p h.plan (get_or w.batches k no_batch).calls y (numbers_after_batches S.meaning start (take k w.batches)) (store_after_batches p B s.store w k) (replayed k (omega (arith, upto))) (each_call k upto) (met k upto)
      (subst (λ (x : Batch). y < length x.calls) b l) in
      let P : Batch → Type 0 = λ x. IsReplied (get_or x.calls y no_call) (get_or (replies_in_order (store_after_batches p B s.store w k) (map (call_script p) x.calls)) y no_response) in
      subst P (sym b) at

  pub replied : (k y : ℕ) → B.seq < k → k ≤ B.seq + length w.batches → y < length (batch_calls B w k)
      → IsReplied (get_or (batch_calls B w k) y no_call) (get_or (replies_in_order (store_at_seq p B s.store w (k - 1)) (batch_scripts p B w k)) y no_response)
  replied k y low high l =
      let j : ℕ = k - B.seq - 1 in
      let e : B.seq + j + 1 ≡ k = omega (arith, low) in
      let f : j ≡ k - 1 - B.seq = omega (arith, low) in
      let P : ℕ → ℕ → Type 0 = λ n i. IsReplied (get_or (batch_calls B w n) y no_call) (get_or (replies_in_order (store_after_batches p B s.store w i) (batch_scripts p B w n)) y no_response) in
      subst (λ (i : ℕ). P k i) f (subst (λ (n : ℕ). P n j) e (replied_behind j y (omega (arith, low, high)) (subst (λ (n : ℕ). y < length (batch_calls B w n)) (sym e) l)))

  -- no more calls have ended than were begun
  few_ended : (i : ℕ) → i < p.callers → length (outs i) ≤ length (ops i)
  few_ended i l = go (is_idle (machine_in w i).place) refl
    where
      go : (b : Bool) → is_idle (machine_in w i).place ≡ b → length (outs i) ≤ length (ops i)
      go true e = let c = (h.calls i l).idle (idle_is (machine_in w i).place e) in omega (arith, c)
      go false e = let c = (h.calls i l).open_call e in omega (arith, c.0)

  read_operation : (r : Read) → r.caller < p.callers → (x : ℕ) → x < length (outs r.caller) → r.ticket ≡ finished_of s r.caller + x + 1 → r.op ≡ get_or (ops r.caller) x [] → IsOperation p r.caller r.ticket r.op
  read_operation r l x among ticket op =
      let few = few_ended r.caller l in
      let e : x ≡ r.ticket - finished_of s r.caller - 1 = omega (arith, ticket) in
      operation_is p s B w ops outs h r.caller r.ticket r.op l (omega (arith, ticket)) (omega (arith, ticket, few, among)) (op ∙ ap (λ (n : ℕ). get_or (ops r.caller) n []) e)

  only_reads : (op : List ℕ) (script : List Instr) → script_reads op ≡ true → op ≡ operation_of script → IsScript script → All (λ i. IsTrue (reads_only i)) script
  only_reads op script reads words is =
      let q = reads_of op reads in
      let same : q.0.script ≡ script = words_injective q.0.script script q.0.range is.in_range (q.0.words ∙ words) in
      subst (All (λ i. IsTrue (reads_only i))) same (All-from_recursion (λ i. IsTrue (reads_only i)) q.0.script q.0.reads)

  -- each read has the reply of its script on the store after its sequence
  pub read_raw : (j : ℕ) → j < length w.reads → IsReadOf p s B w (get_or w.reads j no_read)
  read_raw j among =
      let r = get_or w.reads j no_read in
      let q = h.sound.order.reads j no_read among in
      let o = (h.calls r.caller q.caller).reads j no_read among refl in
      let operation = read_operation r q.caller o.0 o.2 o.3 o.4 in
      let cells = numbers_stand r.seq q.from (omega (arith, q.upto, h.sound.reaches)) in
      let ran = runs p h.plan (numbers_after B w.batches r.seq) r.op (store_at_seq p B s.store w r.seq) (script_of_ticket p r.caller r.ticket) cells operation.words operation.script in
      record {
        operation = operation;
        only = only_reads r.op (script_of_ticket p r.caller r.ticket) q.only operation.words operation.script;
        from = q.from;
        upto = q.upto;
        reply = has_reply p r.raw (length r.op) (run (store_at_seq p B s.store w r.seq) (script_of_ticket p r.caller r.ticket)).1 ran.some ran.few ran.fits (subst (SameWhereMarked S r.raw) (sym q.reply ∙ ran.reply) (refl, λ y l m. refl));
      }

  module _ (i x k steps : ℕ) (raw : RawReply) (caller : i < p.callers) (among : x < length (outs i)) where
    -- an announced call that has ended
    pub announced_held : get_or (outs i) x no_outcome ≡ Answered k true raw steps → IsAnnouncedAt p s B w i (finished_of s i + x + 1) k raw
    announced_held is =
        let stood = subst (OutcomeStands S B w i (finished_of s i + x + 1) (get_or (ops i) x [])) is ((h.calls i caller).each x among) in
        let call = stood.2 in
        let c = get_or (batch_calls B w k) call.place no_call in
        let has = replied k call.place stood.0 (omega (arith, stood.1, h.sound.reaches)) call.among in
        record {
          some = stood.0;
          upto = stood.1;
          place = call.place;
          among = call.among;
          caller = call.caller;
          ticket = call.ticket;
          reply = has_reply p raw (length c.op) (get_or (replies_in_order (store_at_seq p B s.store w (k - 1)) (batch_scripts p B w k)) call.place no_response) has.some has.few has.fits (subst (SameWhereMarked S raw) has.raw (call.reply.0, λ y l m. call.reply.1 y l));
        }

    -- a read that was not announced
    pub read_held : get_or (outs i) x no_outcome ≡ Answered k false raw steps → IsReadAt p s B w i (finished_of s i + x + 1) k raw
    read_held is =
        let stood = subst (OutcomeStands S B w i (finished_of s i + x + 1) (get_or (ops i) x [])) is ((h.calls i caller).each x among) in
        let at = stood.1 in
        let r = get_or w.reads at.0 no_read in
        let q = read_raw at.0 at.1 in
        let P : Read → Type 0 = λ d. All (λ j. IsTrue (reads_only j)) (script_of_ticket p d.caller d.ticket) in
        let Q : Read → Type 0 = λ d. HasReply d.raw (run (store_at_seq p B s.store w d.seq) (script_of_ticket p d.caller d.ticket)).1 in
        record {
          from = subst (λ (d : Read). B.seq ≤ d.seq) at.2 q.from;
          upto = stood.0;
          place = at.0;
          among = at.1;
          is = at.2 ∙ ap (λ (op : List ℕ). record { caller = i; ticket = finished_of s i + x + 1; op = op; raw = raw; seq = k }) (sym (ap (λ (d : Read). d.op) at.2));
          only = subst P at.2 q.only;
          reply = subst Q at.2 q.reply;
        }

    -- each answer has the reply of serial replay
    pub outcome_held : (announced : Bool) → get_or (outs i) x no_outcome ≡ Answered k announced raw steps → IsHeldAt p s B w i (finished_of s i + x + 1) k raw announced
    outcome_held true is = announced_held is
    outcome_held false is = read_held is
