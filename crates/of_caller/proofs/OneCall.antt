-- What one call of a script makes of its caller.
use Rattle.std.proofs.Common.{◌≡◌, ℕ, zero, suc, ◌+◌, ◌-◌, ◌<◌, ◌≤◌, Bool, List, [], ◌∷◌, ◌++◌, length, get_or, map, take, Result, Err, refl, sym, ap, ◌∙◌, subst, arith, length-append}
use Rattle.std.proofs.Math.Seq.{take-append_seam}
use Rattle.std.proofs.lemmas.List.{length-map, get_or_default}
use Rattle.std.proofs.lemmas.List.Elements.{All-from_recursion}
use Rattle.std.specs.List.{AllByRecursion as Each}
use Rattle.of_mem.specs.declared.work.RawReply.{RawReply}
use Rattle.of_cell.specs.Words.{payload_of}
use Rattle.of_script.specs.declared.instr.Instr.{Instr}
use Rattle.of_script.specs.declared.instr.TheConstants.{MOST_INSTRS}
use Rattle.of_script.specs.Language.{IsScript, instr_word}
use Rattle.of_eval.specs.declared.scripts.Scripts.{Scripts}
use Rattle.of_eval.specs.Scripts.{scripts_meaning}
use Rattle.of_plan.specs.declared.answer.Answer.{Answer}
use Rattle.of_plan.specs.declared.answer.Ending.TheVariants.{Done, Stopped as Halted, Spent as RanOut}
use Rattle.of_plan.specs.Plan.{Plan, scripts_of, bound_of}
use Rattle.of_core.specs.declared.place.Outcome.{Outcome}
use Rattle.of_core.specs.declared.place.Outcome.TheVariants.{Answered, Spent, Lost}
use Rattle.of_core.specs.Table.{Setup}
use Rattle.of_core.specs.Machine.{CallState, is_idle, begin_call}
use Rattle.of_core.specs.TableMoment.{TableStart}
use Rattle.of_core.specs.History.{IsLegalHistory}
use Rattle.of_core.specs.Bound.{bound}
use Rattle.of_core.specs.Turn.{IsIdle}
use Rattle.of_core.specs.Calls.{IsAnswered}
use Rattle.of_row.specs.Views.{KnownCaller, View, seen_seq, seen_history}
use Rattle.of_row.specs.Runs.{HasNoLoss}
use Rattle.of_row.specs.Rule.{CallHasEnded}
use Rattle.of_row.specs.Turned.{IsMeantReply}
use Rattle.of_row.specs.Rows.{setup_at}
use Rattle.of_row.specs.declared.row.Row.{Row}
use Rattle.of_caller.specs.declared.caller.Caller.{Caller}
use Rattle.of_caller.specs.declared.caller.CallErr.{CallErr}
use Rattle.of_caller.specs.declared.caller.CallErr.TheVariants.{Stopped, Spent as Over}
use Rattle.of_caller.specs.Tables.{operation_of}
use Rattle.of_caller.specs.Ends.{TellsAnswer}
use Rattle.of_caller.specs.Callers.{IsCaller, caller_call, sight_of}
use Rattle.of_caller.specs.CallsTold.{HasEndedWith, IsStillOpen, TellsResult, TellsCall}
use Rattle.of_caller.specs.PlanRows.{start_of_row}
use Rattle.of_caller.specs.Teams.{script_operation_at, KeepsCaller}
use Rattle.of_caller.specs.Lanes.{IsPlanRow, IsHeldAnswer, Appends, HasAnsweredScripts, CallerHasAnswered, CallerHasEnded}
use Rattle.of_caller.proofs.RowStarts.{same_setup}
use Rattle.of_caller.proofs.CallSteps.{same_kept}
use Rattle.of_caller.proofs.Answering.{is_done, is_answered, is_stopped_at_once, is_stopped, is_spent_now}
use Rattle.of_caller.proofs.RawReplies.{IsFine, answer_holds}

-- the words of a script, with zeros behind them
pub op_is : (p : Plan) (n c i index : ℕ) → n + i ≡ index → (scripts : List (List Instr)) → scripts ≡ scripts_of p c → index < length scripts → (script : List Instr) → script ≡ get_or scripts index script
    → (count : ℕ) → count ≡ length script → (out rest : List ℕ) → out ≡ map instr_word script ++ rest → take count out ≡ script_operation_at p c (n + i)
op_is p n c i index at scripts all among script read count size out rest words =
    let ws = operation_of script in
    let first : script ≡ get_or (scripts_of p c) (n + i) [] = read ∙ get_or_default scripts index script [] among ∙ ap (λ (l : List (List Instr)). get_or l index []) all ∙ ap (λ (k : ℕ). get_or (scripts_of p c) k []) (sym at) in
    ap (take count) words ∙ ap (λ (k : ℕ). take k (ws ++ rest)) (size ∙ sym (length-map script instr_word)) ∙ take-append_seam ws rest ∙ ap operation_of first

module _ (p : Plan) (r : Row Scripts) (row : IsPlanRow p r) where
  -- the cells that the row has started with are those of a store
  start_fine : IsFine p row.plan (map payload_of (start_of_row r).cells)
  start_fine = record { size = length-map (start_of_row r).cells payload_of ∙ row.start.1.size; lawful = (row.start.0.store, row.start.1.stands.stored) }

  abbrev S : Setup
  S = setup_at scripts_meaning r

  abbrev B : TableStart
  B = start_of_row r

  module _ (n c : ℕ) (caller : Caller Scripts) (answers : List Answer) (i : ℕ) (q : CallerHasAnswered p n c r caller answers i) (less : i < length (scripts_of p c) - n) (op : List ℕ) (is : op ≡ script_operation_at p c (n + i))
      (L : List ℕ → Type 0) (b : Caller Scripts) (after : IsCaller scripts_meaning r b) (x z : ℕ) (result : Result Outcome CallErr)
      (told : TellsCall S L B (begin_call S (caller_call caller) op) (sight_of caller) x (caller_call b) (sight_of b) z result) where
    abbrev d0 : CallState
    d0 = begin_call S (caller_call caller) op

    -- its words are as many as a script may have
    next_words : c < p.callers → (1 ≤ length op) × (length op ≤ MOST_INSTRS)
    next_words lt =
        let each : Each IsScript (scripts_of p c) = All-from_recursion (Each IsScript) p.scripts row.plan.each_script c [] (omega (arith, row.plan.each_caller, lt)) in
        let script : IsScript (get_or (scripts_of p c) (n + i) []) = All-from_recursion IsScript (scripts_of p c) each (n + i) [] (omega (arith, less)) in
        let many : length op ≡ length (get_or (scripts_of p c) (n + i) []) = ap length is ∙ length-map (get_or (scripts_of p c) (n + i) []) instr_word in
        (omega (arith, many, script.some), omega (arith, many, script.few))

    before_is : told.before ≡ q.kept
    before_is = same_kept told.before q.kept (sym told.kept_before ∙ q.kept_is)

    -- the call replaced no machine
    unlost_now : HasNoLoss told.kept
    unlost_now = told.losses ∙ ap (λ (k : KnownCaller). k.losses) before_is ∙ q.going.unlost

    -- a view that didn't change keeps the same
    same_view : told.steps ≡ 0 → told.kept ≡ q.kept
    same_view none = same_kept told.kept q.kept (sym told.kept_now ∙ ap (λ (v : View). v.kept) (told.none none) ∙ q.kept_is)

    module _ (o : Outcome) (closes : HasEndedWith S L B d0 (sight_of caller) told.before told.steps (caller_call b) (sight_of b) told.kept o) where
      ended_is : told.kept.ended ≡ q.kept.ended ++ record { op = script_operation_at p c (n + i); outcome = o } ∷ []
      ended_is = closes.kept ∙ ap (λ (k : KnownCaller). k.ended ++ record { op = op; outcome = o } ∷ []) before_is ∙ ap (λ (ws : List ℕ). q.kept.ended ++ record { op = ws; outcome = o } ∷ []) is

      -- a call that has ended has made a step
      made_some : 0 < told.steps
      made_some = go told.steps refl
        where
          go : (m : ℕ) → told.steps ≡ m → 0 < told.steps
          go zero none = absurd (omega (arith, ap length ended_is, length-append q.kept.ended (record { op = script_operation_at p c (n + i); outcome = o } ∷ []), ap (λ (k : KnownCaller). length k.ended) (same_view none)))
          go (suc m) more = omega (arith, more)

      shown_now : told.kept.machine ≡ caller_call b
      shown_now = (told.some made_some).machine

      idle_now : IsIdle told.kept.machine
      idle_now = ap (λ (m : CallState). m.place) shown_now ∙ closes.idle

      number_now : (caller_call b).caller ≡ c
      number_now = told.caller ∙ q.number

      -- the reply of an answer is held
      held : c < p.callers → (k : ℕ) (announced : Bool) (raw : RawReply) (steps : ℕ) → o ≡ Answered k announced raw steps → IsHeldAnswer o
      held lt k announced raw steps answer =
          let words = next_words lt in
          let same = same_setup p r row.row in
          let legal = subst (λ (T : Setup). IsLegalHistory T.meaning (map payload_of B.cells) (seen_history (sight_of b).seen)) same (told.some made_some).legal.replies in
          let stands = subst (λ (T : Setup). CallHasEnded T B (seen_history (sight_of b).seen) (seen_seq B (sight_of b).seen) d0.caller d0.made d0.op (Answered k announced raw steps)) same
          (subst (λ (u : Outcome). CallHasEnded S B (seen_history (sight_of b).seen) (seen_seq B (sight_of b).seen) d0.caller d0.made d0.op u) answer closes.stands) in
          let meant = subst (λ (T : Setup). IsMeantReply T B (seen_history (sight_of b).seen) op (Answered k announced raw steps)) same
          (subst (λ (u : Outcome). IsMeantReply S B (seen_history (sight_of b).seen) op u) answer closes.meant) in
          subst IsHeldAnswer (sym answer) (answer_holds p row.plan B start_fine (seen_history (sight_of b).seen) legal (seen_seq B (sight_of b).seen) d0.caller d0.made op words.0 words.1 k announced raw steps stands meant)

      -- one script more is answered
      goes_on : (k : ℕ) (announced : Bool) (raw : RawReply) (steps : ℕ) → o ≡ Answered k announced raw steps → (now : List Answer) → Appends (TellsAnswer o) answers now → CallerHasAnswered p n c r b now (i + 1)
      goes_on k announced raw steps answer now more = record {
        is_caller = after;
        number = number_now;
        made = omega (arith, told.made, q.made);
        kept = told.kept;
        kept_is = told.kept_now;
        shown = shown_now;
        going = subst (λ (l : List Answer). HasAnsweredScripts p n c told.kept l (i + 1)) (sym more.is)
            (is_answered p n c q.kept answers i q.going less told.kept unlost_now k announced raw steps more.item idle_now
            (ended_is ∙ ap (λ (u : Outcome). q.kept.ended ++ record { op = script_operation_at p c (n + i); outcome = u } ∷ []) answer) (subst (λ (u : Outcome). TellsAnswer u more.item) answer more.holds));
      }

      -- no sequence was left
      ends_spent : (k : ℕ) → o ≡ Spent k → CallerHasEnded p n c r b answers (RanOut k)
      ends_spent k spent = record {
        seat = after.row;
        kept = told.kept;
        kept_is = told.kept_now;
        number = ap (λ (m : CallState). m.caller) shown_now ∙ number_now;
        keeps = is_spent_now p n c q.kept answers i q.going less told.kept unlost_now k idle_now (ended_is ∙ ap (λ (u : Outcome). q.kept.ended ++ record { op = script_operation_at p c (n + i); outcome = u } ∷ []) spent);
      }

    -- the brake denied a step
    ends_stopped : (asked : ℕ) → IsStillOpen S d0 told.before told.steps (caller_call b) told.kept → asked ≡ told.steps + 1 → CallerHasEnded p n c r b answers (Halted asked)
    ends_stopped asked stays count = go told.steps refl
      where
        go : (m : ℕ) → told.steps ≡ m → CallerHasEnded p n c r b answers (Halted asked)
        go zero none =
            let same = same_view none in
            record {
              seat = after.row;
              kept = q.kept;
              kept_is = told.kept_now ∙ ap (λ (k : KnownCaller). k ∷ []) same;
              number = ap (λ (m : CallState). m.caller) q.shown ∙ q.number;
              keeps = subst (λ (k : ℕ). KeepsCaller p n c answers (Halted k) q.kept) (omega (arith, count, none)) (is_stopped_at_once p n c q.kept answers i q.going less);
            }
        go (suc m) more =
            let shows : told.kept.machine ≡ caller_call b = (told.some (omega (arith, more))).machine in
            let within : (caller_call b).steps < bound_of p = subst (λ (T : Setup). (caller_call b).steps < bound T) (same_setup p r row.row) stays.within in
            record {
              seat = after.row;
              kept = told.kept;
              kept_is = told.kept_now;
              number = ap (λ (m : CallState). m.caller) shows ∙ told.caller ∙ q.number;
              keeps = subst (λ (k : ℕ). KeepsCaller p n c answers (Halted k) told.kept) (sym count)
                  (is_stopped p n c q.kept answers i q.going less told.kept unlost_now told.steps (omega (arith, more)) (ap (λ (m : CallState). is_idle m.place) shows ∙ stays.open_call) (ap (λ (m : CallState). m.op) shows ∙ told.op ∙ is)
                  (ap (λ (m : CallState). m.steps) shows ∙ stays.steps ∙ omega arith) (omega (arith, within, stays.steps)) (stays.kept ∙ ap (λ (k : KnownCaller). k.ended) before_is));
            }

    -- the same, whatever the answer
    pub held_of : c < p.callers → (o : Outcome) → IsAnswered o → HasEndedWith S L B d0 (sight_of caller) told.before told.steps (caller_call b) (sight_of b) told.kept o → IsHeldAnswer o
    held_of lt (Answered k announced raw steps) is_one closes = held (Answered k announced raw steps) closes lt k announced raw steps refl
    held_of lt (Spent k) is_one closes = absurd is_one
    held_of lt (Lost k) is_one closes = absurd is_one

    pub goes_of : (o : Outcome) → IsAnswered o → HasEndedWith S L B d0 (sight_of caller) told.before told.steps (caller_call b) (sight_of b) told.kept o → (now : List Answer) → Appends (TellsAnswer o) answers now → CallerHasAnswered p n c r b now (i + 1)
    goes_of (Answered k announced raw steps) is_one closes now more = goes_on (Answered k announced raw steps) closes k announced raw steps refl now more
    goes_of (Spent k) is_one closes now more = absurd is_one
    goes_of (Lost k) is_one closes now more = absurd is_one

    abbrev RunEndsAs : Result Outcome CallErr → Type 0
    RunEndsAs z = TellsResult S L B d0 (sight_of caller) told.before told.steps (caller_call b) (sight_of b) told.kept z

    pub stopped_of : (asked : ℕ) → result ≡ Err (Stopped asked) → CallerHasEnded p n c r b answers (Halted asked)
    stopped_of asked as_is = let ends : RunEndsAs (Err (Stopped asked)) = subst RunEndsAs as_is told.result in ends_stopped asked ends.0 ends.1

    pub spent_of : (k : ℕ) → result ≡ Err (Over k) → CallerHasEnded p n c r b answers (RanOut k)
    spent_of k as_is = let ends : RunEndsAs (Err (Over k)) = subst RunEndsAs as_is told.result in ends_spent (Spent k) ends k refl

-- all scripts are answered
pub ends_done : (p : Plan) (r : Row Scripts) (n c : ℕ) (caller : Caller Scripts) (answers : List Answer) (i : ℕ) → CallerHasAnswered p n c r caller answers i → n ≤ length (scripts_of p c) → i ≡ length (scripts_of p c) - n → CallerHasEnded p n c r caller answers Done
ends_done p r n c caller answers i q first all = record {
  seat = q.is_caller.row;
  kept = q.kept;
  kept_is = q.kept_is;
  number = ap (λ (m : CallState). m.caller) q.shown ∙ q.number;
  keeps = is_done p n c q.kept answers i q.going first all;
}
