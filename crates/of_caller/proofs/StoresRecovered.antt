-- What recovery finds stands for a store of serial replay, and for each caller's last call, or the
-- start's where it has none.
use Rattle.std.proofs.Common.{◌≡◌, ℕ, zero, suc, ◌+◌, ◌-◌, ◌≤◌, ◌<◌, ◌⊎◌, inl, inr, Bool, true, if◌then◌else◌, List, [], ◌∷◌, length, get_or, map, refl, sym, ap, subst, ◌∙◌, arith}
use Rattle.std.specs.Prelude.{nat_lt}
use Rattle.std.specs.List.{range_with_len}
use Rattle.std.proofs.lemmas.Bool.{lt-ltb}
use Rattle.std.proofs.lemmas.List.FromFn.{get_or-map-range_with_len}
use Rattle.std.proofs.lemmas.List.Sums.{get_or-le-sum_by}
use Rattle.of_cell.specs.Words.{pack, payload_of}
use Rattle.of_cell.specs.Cells.{durable_place}
use Rattle.of_cell.proofs.Order.{pay_word}
use Rattle.of_recover.specs.Row.{current_seq}
use Rattle.of_recover.specs.Recovered.{recovered_data}
use Rattle.of_mem.specs.declared.work.RawReply.{RawReply}
use Rattle.of_mem.specs.Meaning.{is_marked}
use Rattle.of_mem.specs.Places.{base_of, ticket_cell_at, shape_at, reply_at}
use Rattle.of_mem.specs.ProgramWork.{memory_of}
use Rattle.of_script.specs.declared.instr.TheConstants.{MOST_INSTRS}
use Rattle.of_store.specs.Store.{replies_in_order}
use Rattle.of_eval.specs.Shapes.{IsHeldBy}
use Rattle.of_eval.specs.Stored.{cell_store, IsStored}
use Rattle.of_eval.specs.Lawful.{reply_number, reply_in, OwnCellsAreSound, DataCellsStandFor}
use Rattle.of_eval.specs.Record.{plan_data_cells, recovered_seq, recovered_data_word, record_number}
use Rattle.of_eval.proofs.Overlay.{stands_below}
use Rattle.of_plan.specs.Plan.{Plan, scripts_of}
use Rattle.of_plan.specs.Report.{Start, finished_of}
use Rattle.of_plan.specs.Ended.{Ended}
use Rattle.of_core.specs.declared.place.Outcome.{Outcome}
use Rattle.of_core.specs.Table.{Setup, durable_seq, ticket_cell, shape_cell, reply_cell}
use Rattle.of_core.specs.Machine.{Call, no_call}
use Rattle.of_core.specs.TableMoment.{Moment, TableStart}
use Rattle.of_core.specs.History.{data_word_after, state_after, numbers_after, HasNoCallBetween, IsCellOfCaller, IsNewestCall, SameWhereMarked}
use Rattle.of_caller.specs.Tables.{plan_setup}
use Rattle.of_caller.specs.Moments.{batch_calls, batch_scripts, store_at_seq}
use Rattle.of_caller.specs.Starts.{start_number}
use Rattle.of_caller.specs.Runs.{IsMomentOf}
use Rattle.of_caller.proofs.StoresHeld.{HasReply, has_reply}
use Rattle.of_caller.proofs.StoresMoments.{op_is}
use Rattle.of_caller.proofs.StoresReplay.{no_response, number_at, state_start}
use Rattle.of_caller.proofs.Stores.{is_stored, replied}

-- the last call of caller c from the start up to the recovered sequence: its ticket is the
-- recovered one, and the recovered own cells hold its reply
pub record IsLastCall (p : Plan) (s : Start) (B : TableStart) (w : Moment) (e : Ended) (c : ℕ) : Type 0 where
  pub number : ℕ
  pub some : B.seq < number
  pub upto : number ≤ durable_seq (plan_setup p) w.words
  pub place : ℕ
  pub among : place < length (batch_calls B w number)
  pub caller : (get_or (batch_calls B w number) place no_call).caller ≡ c
  pub absent : HasNoCallBetween B w.batches c number (durable_seq (plan_setup p) w.words)
  pub word_is : recovered_data_word p e (ticket_cell_at MOST_INSTRS c) ≡ pack number (get_or (batch_calls B w number) place no_call).ticket
  pub ticket_is : record_number p e (ticket_cell_at MOST_INSTRS c) ≡ (get_or (batch_calls B w number) place no_call).ticket
  pub reply : HasReply (reply_in MOST_INSTRS (record_number p e) c) (get_or (replies_in_order (store_at_seq p B s.store w (number - 1)) (batch_scripts p B w number)) place no_response)

-- caller c has no call from the start up to the recovered sequence: its recovered ticket is the
-- start's, and its own cells stand as there
pub record HasNoCall (p : Plan) (s : Start) (B : TableStart) (w : Moment) (e : Ended) (c : ℕ) : Type 0 where
  pub absent : HasNoCallBetween B w.batches c B.seq (durable_seq (plan_setup p) w.words)
  pub ticket_is : record_number p e (ticket_cell_at MOST_INSTRS c) ≡ finished_of s c
  pub own : OwnCellsAreSound MOST_INSTRS (record_number p e) c

-- ---- own cells that are the same stand the same way

map_range : (f g : ℕ → ℕ) (a n : ℕ) → ((j : ℕ) → a ≤ j → j < a + n → f j ≡ g j) → map f (range_with_len a n) ≡ map g (range_with_len a n)
map_range f g a zero h = refl
map_range f g a (suc n) h =
    ap (λ (x : ℕ). x ∷ map f (range_with_len (a + 1) n)) (h a (omega arith) (omega arith))
    ∙ ap (λ (l : List ℕ). g a ∷ l) (map_range f g (a + 1) n (λ j low high. h j (omega (arith, low)) (omega (arith, high))))

-- the cell is one of caller c's own
abbrev pub IsOwnCell : ℕ → ℕ → Type 0
IsOwnCell c a = (ticket_cell_at MOST_INSTRS c ≤ a) × (a < ticket_cell_at MOST_INSTRS c + (MOST_INSTRS + 2))

module _ (f g : ℕ → ℕ) (c : ℕ) (same : (a : ℕ) → IsOwnCell c a → f a ≡ g a) where
  pub same_reply : reply_in MOST_INSTRS g c ≡ reply_in MOST_INSTRS f c
  same_reply =
      let shape = same (shape_at MOST_INSTRS c) (omega arith, omega arith) in
      let values = map_range (reply_number MOST_INSTRS f c) (reply_number MOST_INSTRS g c) 0 MOST_INSTRS (λ j low high.
      ap (λ (v : ℕ). if nat_lt j MOST_INSTRS then v else 0) (same (reply_at MOST_INSTRS c j) (omega (arith, high), omega (arith, high)))) in
      λ i. record { shape = sym shape i; values = sym values i }

  pub stand_same : OwnCellsAreSound MOST_INSTRS g c → OwnCellsAreSound MOST_INSTRS f c
  stand_same own =
      let ticket = same (ticket_cell_at MOST_INSTRS c) (omega arith, omega arith) in
      let shape = same (shape_at MOST_INSTRS c) (omega arith, omega arith) in
      record {
        none = λ is. shape ∙ own.none (sym ticket ∙ is);
        some = λ not.
            let holds = own.some (λ is. not (ticket ∙ is)) in
            record { reply = holds.reply; held = subst (λ (raw : RawReply). IsHeldBy raw holds.reply) same_reply holds.held; few = holds.few };
      }

module _ (p : Plan) (s : Start) (B : TableStart) (w : Moment) (ops : ℕ → List (List ℕ)) (outs : ℕ → List Outcome) (h : IsMomentOf p s B w ops outs) (e : Ended) (left : e.words ≡ w.words) where
  abbrev S : Setup
  S = plan_setup p

  -- the durable sequence
  abbrev d : ℕ
  d = durable_seq S w.words

  -- a data word of the recovered state
  abbrev word_in : ℕ → ℕ
  word_in a = data_word_after B w.batches d a

  -- the recovered sequence is the durable one
  pub recovered_seq_is : recovered_seq p e ≡ durable_seq (plan_setup p) w.words
  recovered_seq_is = ap (λ (ws : List ℕ). current_seq (λ c. get_or ws (durable_place p.callers (plan_data_cells p) c) 0)) left

  word_at : (a : ℕ) → a < plan_data_cells p → recovered_data_word p e a ≡ word_in a
  word_at a l = ap (λ (ws : List ℕ). recovered_data p.callers (plan_data_cells p) (λ c. get_or ws (durable_place p.callers (plan_data_cells p) c) 0) a) left ∙ h.sound.recovers a l

  pay_at : (a : ℕ) → a < plan_data_cells p → record_number p e a ≡ payload_of (word_in a)
  pay_at a l = ap payload_of (word_at a l)

  upto_last : d ≤ B.seq + length w.batches
  upto_last = h.sound.reaches

  -- the recovered cells stand for the store after the batches up to it
  pub recovered_stored : IsStored (base_of p.callers MOST_INSTRS) p.blocks (record_number p e) (store_at_seq p B s.store w (durable_seq (plan_setup p) w.words))
  recovered_stored =
      let stored = is_stored p s B w ops outs h d h.sound.from upto_last in
      record {
        state = stored.state;
        stands = stands_below (base_of p.callers MOST_INSTRS) p.blocks (memory_of (numbers_after B w.batches d)) (record_number p e) (λ a low high. number_at (state_after B w.batches d) a ∙ sym (pay_at a high)) (cell_store (store_at_seq p B s.store w d)) stored.stands;
      }

  -- ---- a caller's own cells

  -- those of the start
  at_start : (a : ℕ) → a < plan_data_cells p → word_in a ≡ data_word_after B w.batches B.seq a → record_number p e a ≡ start_number B a
  at_start a l same = pay_at a l ∙ ap payload_of (same ∙ ap (λ (ws : List ℕ). get_or ws a 0) (state_start B w.batches)) ∙ sym (number_at B.cells a)

  no_call_yet : (c : ℕ) → c < p.callers → HasNoCallBetween B w.batches c B.seq d → ((a : ℕ) → IsCellOfCaller S c a → word_in a ≡ data_word_after B w.batches B.seq a) → HasNoCall p s B w e c
  no_call_yet c l absent same =
      let cells : (a : ℕ) → IsOwnCell c a → record_number p e a ≡ start_number B a = λ a own. at_start a (omega (arith, l, own.1)) (same a own) in
      record {
        absent = absent;
        ticket_is = cells (ticket_cell_at MOST_INSTRS c) (omega arith, omega arith) ∙ h.starts.tickets c l;
        own = stand_same (record_number p e) (start_number B) c cells (h.starts.stands.own c l);
      }

  -- a caller has fewer scripts than a word has numbers
  few_scripts : (c : ℕ) → c < p.callers → length (scripts_of p c) ≤ 20000
  few_scripts c l = omega (arith, h.plan.few_scripts, get_or-le-sum_by length p.scripts c [] (omega (arith, h.plan.each_caller, l)))

  module _ (c : ℕ) (l : c < p.callers) (q : IsNewestCall S B w.batches d c) where
    abbrev call : Call
    call = get_or (batch_calls B w q.number) q.place no_call

    abbrev raw : RawReply
    raw = reply_in MOST_INSTRS (record_number p e) c

    before : q.number ≤ B.seq + length w.batches
    before = omega (arith, q.upto, upto_last)

    ticket_small : call.ticket ≤ 20000
    ticket_small = let is = op_is p s B w ops outs h q.number q.from before q.place no_call q.among in omega (arith, is.among, few_scripts call.caller is.caller)

    ticket_word : recovered_data_word p e (ticket_cell_at MOST_INSTRS c) ≡ pack q.number call.ticket
    ticket_word = word_at (ticket_cell_at MOST_INSTRS c) (omega (arith, l)) ∙ ap (λ (i : ℕ). word_in (ticket_cell S i)) (sym q.caller) ∙ q.shows.ticket

    shape : raw.shape ≡ call.raw.shape
    shape = pay_at (shape_at MOST_INSTRS c) (omega (arith, l)) ∙ ap (λ (i : ℕ). payload_of (word_in (shape_cell S i))) (sym q.caller) ∙ q.shows.shape

    number : (y : ℕ) → y < S.instrs → is_marked raw.shape y ≡ true → get_or raw.values y 0 ≡ get_or call.raw.values y 0
    number y k mark =
        get_or-map-range_with_len (reply_number MOST_INSTRS (record_number p e) c) 0 MOST_INSTRS y y 0 k (omega arith)
        ∙ ap (λ (b : Bool). if b then record_number p e (reply_at MOST_INSTRS c y) else 0) (lt-ltb y MOST_INSTRS k)
        ∙ pay_at (reply_at MOST_INSTRS c y) (omega (arith, l, k))
        ∙ ap (λ (i : ℕ). payload_of (word_in (reply_cell S i y))) (sym q.caller)
        ∙ q.shows.replies y k (ap (λ (s : ℕ). is_marked s y) (sym shape) ∙ mark)

    last_call : IsLastCall p s B w e c
    last_call =
        let has = replied p s B w ops outs h q.number q.place q.from before q.among in
        record {
          number = q.number;
          some = q.from;
          upto = q.upto;
          place = q.place;
          among = q.among;
          caller = q.caller;
          absent = q.absent;
          word_is = ticket_word;
          ticket_is = ap payload_of ticket_word ∙ pay_word q.number call.ticket (omega (arith, ticket_small));
          reply = has_reply p raw (length call.op) (get_or (replies_in_order (store_at_seq p B s.store w (q.number - 1)) (batch_scripts p B w q.number)) q.place no_response) has.some has.few has.fits (subst (SameWhereMarked S raw) has.raw (shape, number));
        }

  -- the recovered ticket is that of the caller's last call up to there, or the start's where there
  -- is none
  pub recovered_ticket : (c : ℕ) → c < p.callers → HasNoCall p s B w e c ⊎ IsLastCall p s B w e c
  recovered_ticket c l = elim (h.sound.own c l) [
    | inl q ↦ inl (no_call_yet c l q.0 q.1)
    | inr q ↦ inr (last_call c l q)
  ]

  -- the recovered own cells of each caller are the start's, or hold the reply to its last call
  pub recovered_own : (c : ℕ) → c < p.callers → OwnCellsAreSound MOST_INSTRS (record_number p e) c
  recovered_own c l = elim (recovered_ticket c l) [
    | inl q ↦ q.own
    | inr q ↦ record {
      none = λ zero. absurd (let is = op_is p s B w ops outs h q.number q.some (omega (arith, q.upto, upto_last)) q.place no_call q.among in omega (arith, is.some, q.ticket_is, zero));
      some = λ some. record { reply = q.reply.0; held = q.reply.1; few = q.reply.1.0.few };
    }
  ]

  -- so all recovered cells stand for that store
  pub stands_for : DataCellsStandFor p.callers MOST_INSTRS p.blocks (record_number p e) (store_at_seq p B s.store w (durable_seq (plan_setup p) w.words))
  stands_for = record { own = recovered_own; stored = recovered_stored }
