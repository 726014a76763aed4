-- What holds of the report of every run.
use Rattle.std.proofs.Common.{◌≡◌, ℕ, suc, ◌+◌, ◌<◌, ◌≤◌, Bool, true, false, List, [], ◌∷◌, ◌++◌, length, get_or, drop, refl, sym, ap, subst, ◌∙◌, arith}
use Rattle.std.specs.Prelude.{All, IsTrue, ◌==◌}
use Rattle.std.proofs.Math.Seq.{drop-append_seam}
use Rattle.std.proofs.lemmas.List.Elements.{All-nil, All-cons, All-same}
use Rattle.of_mem.specs.Places.{ticket_cell_at}
use Rattle.of_script.specs.declared.instr.TheConstants.{MOST_INSTRS}
use Rattle.of_eval.specs.Record.{record_number, answer_entry, answer_entries, open_entry, OpenCall, BeyondAnswers, IsLawfulRecord}
use Rattle.of_eval.specs.Reported.{MakeLeastSteps, ReportsRun}
use Rattle.of_plan.specs.declared.answer.Answer.{Answer}
use Rattle.of_plan.specs.declared.answer.Ending.{Ending}
use Rattle.of_plan.specs.declared.answer.Ending.TheVariants.{Done, Stopped, Spent}
use Rattle.of_plan.specs.Plan.{Plan}
use Rattle.of_plan.specs.Report.{Entry, Start, Report, entries_of, finished_of}
use Rattle.of_plan.specs.Ended.{Ended, answers_of, ending_of}
use Rattle.of_plan.specs.Allowance.{least_steps}
use Rattle.of_core.specs.TableMoment.{Moment, TableStart}
use Rattle.of_caller.specs.Runs.{IsRunOfPlan, RunsAreReported}
use Rattle.of_caller.proofs.RecordsLists.{length-answer_entries}
use Rattle.of_caller.proofs.RecordsOwn.{answer_is}
use Rattle.of_caller.proofs.RecordsLawful.{narrow}
use Rattle.of_caller.proofs.Records.{facts}

abbrev IsAnnounced : Entry → Type 0
IsAnnounced f = IsTrue f.announced

-- an open call that recovery finds was announced
open_announced : (p : Plan) (e : Ended) (c x : ℕ) (recovered : Bool) (extra : List Entry) → OpenCall p e c x recovered extra → All IsAnnounced extra
open_announced p e c x true extra told = All-same IsAnnounced extra (open_entry p e c x told.0 ∷ []) told.2 (All-cons IsAnnounced (open_entry p e c x told.0) [] refl (All-nil IsAnnounced))
open_announced p e c x false extra told = All-same IsAnnounced extra [] told (All-nil IsAnnounced)

beyond_announced : (p : Plan) (e : Ended) (c x : ℕ) (ending : Ending) (extra : List Entry) → BeyondAnswers p e c x ending extra → All IsAnnounced extra
beyond_announced p e c x Done extra told = All-same IsAnnounced extra [] told (All-nil IsAnnounced)
beyond_announced p e c x (Stopped asked) extra told = open_announced p e c x (record_number p e (ticket_cell_at MOST_INSTRS c) == x + 1) extra told
beyond_announced p e c x (Spent s) extra told = All-same IsAnnounced extra [] told (All-nil IsAnnounced)

-- what holds of each answer holds of all
make_least : (p : Plan) (c x : ℕ) (answers : List Answer) → ((y : ℕ) (none : Answer) → y < length answers → least_steps p (answer_entry c (x + y) (get_or answers y none)) ≤ (get_or answers y none).steps) → MakeLeastSteps p c x answers
make_least p c x [] h = tt
make_least p c x (a ∷ others) h = (
  subst (λ (n : ℕ). least_steps p (answer_entry c n a) ≤ a.steps) (omega arith) (h 0 a (omega arith)),
  make_least p c (x + 1) others (λ y none lt. subst (λ (n : ℕ). least_steps p (answer_entry c n (get_or others y none)) ≤ (get_or others y none).steps) (omega arith) (h (suc y) none (omega (arith, lt)))),
)

module _ (p : Plan) (s : Start) (B : TableStart) (w : Moment) (e : Ended) (run : IsRunOfPlan p s B w e) (r : Report) (lawful : IsLawfulRecord p s e r) where
  beyond_are : (c : ℕ) → c < p.callers → All IsAnnounced (drop (length (answers_of e c)) (entries_of r c))
  beyond_are c lt =
      let own = lawful.report.entries c lt in
      let answers = answer_entries c (finished_of s c) (answers_of e c) in
      let is : drop (length (answers_of e c)) (entries_of r c) ≡ own.extra =
      ap (drop (length (answers_of e c))) own.own ∙ ap (λ (n : ℕ). drop n (answers ++ own.extra)) (sym (length-answer_entries c (finished_of s c) (answers_of e c))) ∙ drop-append_seam answers own.extra in
      All-same IsAnnounced _ own.extra is (beyond_announced p e c (finished_of s c + length (answers_of e c)) (ending_of e c) own.extra own.beyond)

  run_reported : ReportsRun p s e r
  run_reported =
      let f = facts p s B w e run in
      record {
        lawful = lawful;
        within_limit = omega (arith, lawful.report.seq, f.seq, f.sound.reaches, f.sound.limit);
        announced = beyond_are;
        least = λ c lt. make_least p c (finished_of s c) (answers_of e c) (λ y none among.
            (answer_is p s B w f.sound e c (run.operations c) (run.outcomes c) lt (narrow p s B w e run.operations run.outcomes f c lt) (f.callers c lt) y none among).least);
      }

-- of the report of a run's record
pub run_reports : RunsAreReported
run_reports = run_reported
