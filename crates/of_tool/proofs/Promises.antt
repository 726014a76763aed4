-- A report tells of the callers of a run what its record has, and keeps what is promised of it, by
-- what the brakes tell.
use Rattle.std.proofs.Common.{◌≡◌, ℕ, zero, suc, ◌+◌, ◌<◌, List, [], ◌∷◌, ◌++◌, None, length, take, sym, ap, subst, ◌∙◌, arith}
use Rattle.std.specs.Prelude.{map, get_or}
use Rattle.std.proofs.Math.Seq.{take-append_seam}
use Rattle.of_plan.specs.Plan.{Plan}
use Rattle.of_plan.specs.Report.{Line, Start, Report, entries_of, finished_of}
use Rattle.of_plan.specs.Allowance.{answered_of}
use Rattle.of_plan.specs.Ended.{Ended, answers_of}
use Rattle.of_eval.specs.Record.{answer_entries, IsLawfulRecord}
use Rattle.of_eval.specs.Reported.{ReportsRun}
use Rattle.of_caller.specs.Allowances.{KeepsStopAsAllowance, KeepAllowances}
use Rattle.of_caller.specs.InTime.{Mark, RespectsTime}
use Rattle.of_caller.specs.Stops.{CallerKeepsStop, KeepStops}
use Rattle.of_caller.proofs.RecordsLists.{length-answer_entries}
use Rattle.of_tool.specs.Seen.{StepsLeft}
use Rattle.of_tool.specs.Ran.{TellsCallers, IsHistoryOf}

module _ (p : Plan) (s : Start) (e : Ended) (r : Report) where
  tells_callers : IsLawfulRecord p s e r → TellsCallers p s e r
  tells_callers lawful = record { lines = lawful.report.callers; answers = answers }
    where
      answers : (c : ℕ) → c < p.callers → answered_of r c ≡ answer_entries c (finished_of s c) (answers_of e c)
      answers c lt =
          let own = lawful.report.entries c lt in
          ap (λ (l : Line). take l.answered (entries_of r c)) (lawful.report.callers c lt)
          ∙ ap (take (length (answers_of e c))) own.own
          ∙ ap (λ (n : ℕ). take n (answer_entries c (finished_of s c) (answers_of e c) ++ own.extra)) (sym (length-answer_entries c (finished_of s c) (answers_of e c)))
          ∙ take-append_seam (answer_entries c (finished_of s c) (answers_of e c)) own.extra

  -- the report of a run, in which calls began and ended so, is one history
  pub history_of : ReportsRun p s e r → (course : List Mark) → RespectsTime s course r → IsHistoryOf p s course e r
  history_of reports course in_time = record {
    legal = reports.lawful.legal;
    within_limit = reports.within_limit;
    in_time = in_time;
    tells = tells_callers reports.lawful;
  }

-- ---- the brakes of callers from c on, as a list of what they tell

module _ {A : Type 0} (left : A → StepsLeft) (p : Plan) where
  stops_from : (e : Ended) (c : ℕ) (bs : List A) → KeepStops left p e c bs → (i : ℕ) → c + i < p.callers → CallerKeepsStop p e (c + i) (get_or (map left bs) i None)
  stops_from e c [] h i lt = tt
  stops_from e c (b ∷ bs) h zero lt = subst (λ (k : ℕ). CallerKeepsStop p e k (left b)) (omega arith) (h.0 (omega (arith, lt)))
  stops_from e c (b ∷ bs) h (suc i) lt = subst (λ (k : ℕ). CallerKeepsStop p e k (get_or (map left bs) i None)) (omega arith) (stops_from e (c + 1) bs h.1 i (omega (arith, lt)))

  pub told_stops : (e : Ended) (bs : List A) → KeepStops left p e 0 bs → (c : ℕ) → c < p.callers → CallerKeepsStop p e c (get_or (map left bs) c None)
  told_stops e bs h c lt = subst (λ (k : ℕ). CallerKeepsStop p e k (get_or (map left bs) c None)) (omega arith) (stops_from e 0 bs h c (omega (arith, lt)))

  allowances_from : (r : Report) (c : ℕ) (bs : List A) → KeepAllowances left p r c bs → (i : ℕ) → c + i < p.callers → KeepsStopAsAllowance (get_or (map left bs) i None) p r (c + i)
  allowances_from r c [] h i lt = tt
  allowances_from r c (b ∷ bs) h zero lt = subst (KeepsStopAsAllowance (left b) p r) (omega arith) (h.0 (omega (arith, lt)))
  allowances_from r c (b ∷ bs) h (suc i) lt = subst (KeepsStopAsAllowance (get_or (map left bs) i None) p r) (omega arith) (allowances_from r (c + 1) bs h.1 i (omega (arith, lt)))

  pub told_allowances : (r : Report) (bs : List A) → KeepAllowances left p r 0 bs → (c : ℕ) → c < p.callers → KeepsStopAsAllowance (get_or (map left bs) c None) p r c
  told_allowances r bs h c lt = subst (KeepsStopAsAllowance (get_or (map left bs) c None) p r) (omega arith) (allowances_from r 0 bs h c (omega (arith, lt)))
