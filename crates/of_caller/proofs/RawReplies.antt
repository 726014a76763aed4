-- The reply of each call of a legal history of scripts, whatever their words, is held by its cells.
use Rattle.std.proofs.Common.{◌≡◌, ℕ, zero, suc, ◌-◌, ◌≤◌, ◌<◌, inl, inr, Bool, true, false, List, [], ◌∷◌, length, get_or, map, take, refl, sym, ap, subst, arith}
use Rattle.std.proofs.lemmas.Bool.{cases_lt}
use Rattle.std.proofs.lemmas.List.{get_or_past}
use Rattle.of_cell.specs.Words.{payload_of}
use Rattle.of_mem.specs.declared.work.RawReply.{RawReply}
use Rattle.of_mem.specs.Meaning.{Meaning}
use Rattle.of_script.specs.declared.instr.Reply.{Reply}
use Rattle.of_script.specs.declared.instr.TheConstants.{MOST_INSTRS}
use Rattle.of_store.specs.Store.{Store}
use Rattle.of_eval.specs.Shapes.{IsHeldBy}
use Rattle.of_eval.specs.Words.{run_words, words_outcome}
use Rattle.of_eval.specs.ScriptRuns.{words_answer}
use Rattle.of_eval.specs.SoundScripts.{scripts_sound}
use Rattle.of_eval.proofs.Meanings.{means_words}
use Rattle.of_plan.specs.Plan.{Plan, IsPlan, data_cells}
use Rattle.of_core.specs.declared.place.Outcome.TheVariants.{Answered}
use Rattle.of_core.specs.Machine.{Call, no_call}
use Rattle.of_core.specs.TableMoment.{Batch, TableStart}
use Rattle.of_core.specs.History.{batch_at, no_batch, numbers_after_calls, CallsHaveReplies, numbers_after_batches, IsLegalHistory, SameWhereMarked, HasCall}
use Rattle.of_row.specs.Rule.{CallHasEnded}
use Rattle.of_row.specs.Turned.{IsMeantReply}
use Rattle.of_caller.specs.Tables.{meaning_for, plan_setup, IsLawfulFor}
use Rattle.of_caller.proofs.StoresHeld.{FitsIn, has_reply, settled_fits}
use Rattle.of_caller.proofs.StoresMoments.{work_of}
use Rattle.of_caller.proofs.StoresReplay.{legal_at}

module _ (p : Plan) (plan : IsPlan p) where
  abbrev M : Meaning
  M = meaning_for p

  -- cells of the plan that stand for some store
  pub record IsFine (xs : List ℕ) : Type 0 where
    pub size : length xs ≡ data_cells p.callers p.blocks
    pub lawful : IsLawfulFor p xs

  fine_op : (xs op : List ℕ) → IsFine xs → IsFine (M.cells xs op)
  fine_op xs op h = record { size = (scripts_sound (work_of p plan)).keeps_length xs op h.size; lawful = (scripts_sound (work_of p plan)).leads xs op h.size h.lawful }

  fine_calls : (cs : List Call) (xs : List ℕ) → IsFine xs → IsFine (numbers_after_calls M xs cs)
  fine_calls [] xs h = h
  fine_calls (c ∷ cs) xs h = fine_calls cs (M.cells xs c.op) (fine_op xs c.op h)

  fine_replay : (bs : List Batch) (xs : List ℕ) → IsFine xs → IsFine (numbers_after_batches M xs bs)
  fine_replay [] xs h = h
  fine_replay (b ∷ bs) xs h = fine_replay bs (numbers_after_calls M xs b.calls) (fine_calls b.calls xs h)

  -- what an operation replies on such cells is held
  holds : (xs op : List ℕ) (raw : RawReply) → IsFine xs → 1 ≤ length op → length op ≤ MOST_INSTRS → SameWhereMarked (plan_setup p) raw (M.reply xs op) → (r : Reply) × IsHeldBy raw r
  holds xs op raw h some few same =
      let s : Store = h.lawful.0 in
      let does = means_words (work_of p plan) xs op s h.size few h.lawful.1 in
      let response = (run_words s op).1 in
      let fits : FitsIn (length op) response = settled_fits s op (words_outcome s op) (words_answer op s h.lawful.1.state) in
      let has = has_reply p raw (length op) response some few fits (subst (SameWhereMarked (plan_setup p) raw) does.reply same) in
      (has.0, has.1)

  -- a call met its reply on such cells
  met_at : (cs : List Call) (y : ℕ) (xs : List ℕ) → IsFine xs → CallsHaveReplies M xs cs → y < length cs → (ys : List ℕ) × IsFine ys × (M.reply ys (get_or cs y no_call).op ≡ (get_or cs y no_call).raw)
  met_at [] y xs h r lt = absurd (omega (arith, lt))
  met_at (c ∷ cs) zero xs h r lt = (xs, h, r.0)
  met_at (c ∷ cs) (suc y) xs h r lt = met_at cs y (M.cells xs c.op) (fine_op xs c.op h) r.1 (omega (arith, lt))

  module _ (B : TableStart) (start : IsFine (map payload_of B.cells)) (bs : List Batch) (legal : IsLegalHistory M (map payload_of B.cells) bs) (r i t : ℕ) (op : List ℕ) (some : 1 ≤ length op) (few : length op ≤ MOST_INSTRS) where
    -- a batch with calls is one of those that stand
    stands : (k y : ℕ) → y < length (batch_at B bs k).calls → k - B.seq - 1 < length bs
    unfolding batch_at
    stands k y lt = elim (cases_lt (k - B.seq - 1) (length bs)) [
      | inl here ↦ here
      | inr past ↦ absurd (omega (arith, lt, ap (λ (b : Batch). length b.calls) (get_or_past bs (k - B.seq - 1) no_batch past)))
    ]

    announced_holds : (k : ℕ) (raw : RawReply) → HasCall (plan_setup p) (batch_at B bs k).calls i t op raw → (q : Reply) × IsHeldBy raw q
    unfolding batch_at
    announced_holds k raw has =
        let j : ℕ = k - B.seq - 1 in
        let replies = legal_at M (map payload_of B.cells) bs j legal (stands k has.place has.among) in
        let met = met_at (get_or bs j no_batch).calls has.place (numbers_after_batches M (map payload_of B.cells) (take j bs)) (fine_replay (take j bs) (map payload_of B.cells) start) replies has.among in
        holds met.0 op raw met.1 some few (subst (λ (o : List ℕ). SameWhereMarked (plan_setup p) raw (M.reply met.0 o)) has.same (subst (SameWhereMarked (plan_setup p) raw) (sym met.2) (has.reply.0, λ y l m. has.reply.1 y l)))

    -- so is that of each answer that a member keeps
    pub answer_holds : (k : ℕ) (announced : Bool) (raw : RawReply) (steps : ℕ) → CallHasEnded (plan_setup p) B bs r i t op (Answered k announced raw steps) → IsMeantReply (plan_setup p) B bs op (Answered k announced raw steps) → (q : Reply) × IsHeldBy raw q
    answer_holds k true raw steps ended meant = announced_holds k raw ended.3
    answer_holds k false raw steps ended meant =
        holds (numbers_after_batches M (map payload_of B.cells) (take (k - B.seq) bs)) op raw (fine_replay (take (k - B.seq) bs) (map payload_of B.cells) start) some few
        (subst (SameWhereMarked (plan_setup p) raw) (sym meant) (refl, λ y l m. refl))
