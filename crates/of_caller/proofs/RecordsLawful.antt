-- What a run leaves of a world is a lawful record, where its premises hold.
use Rattle.std.proofs.Common.{◌≡◌, ℕ, ◌<◌, ◌≤◌, inl, inr, List, [], ◌∷◌, length, sym, ap, ◌∙◌, arith}
use Rattle.std.specs.Prelude.{All}
use Rattle.std.proofs.lemmas.Bool.{cases_lt}
use Rattle.std.proofs.lemmas.List.Elements.{All-nil, All-cons}
use Rattle.std.proofs.lemmas.List.Sums.{get_or-le-sum_by}
use Rattle.of_cell.specs.Cells.{table_words}
use Rattle.of_script.specs.declared.instr.Instr.{Instr}
use Rattle.of_script.specs.declared.instr.TheConstants.{MOST_INSTRS}
use Rattle.of_eval.specs.Lawful.{DataCellsStandFor}
use Rattle.of_eval.specs.Record.{plan_data_cells, recovered_seq, record_number, line_for, IsRecordOf, IsLawfulRecord}
use Rattle.of_plan.specs.Plan.{Plan, IsPlan, scripts_of}
use Rattle.of_plan.specs.Report.{Entry, done, Report, Start, entries_of}
use Rattle.of_plan.specs.declared.answer.Answer.{Answer}
use Rattle.of_plan.specs.Ended.{Ended, answers_of}
use Rattle.of_eval.specs.Shapes.{IsWhole}
use Rattle.of_core.specs.declared.place.Outcome.TheVariants.{Answered, Spent, Lost}
use Rattle.of_caller.specs.Ends.{AreAnswers}
use Rattle.of_plan.specs.Legal.{IsLegal}
use Rattle.of_plan.specs.Histories.{history_report}
use Rattle.of_plan.proofs.HistoriesLegal.{histories_legal}
use Rattle.of_core.specs.declared.place.Outcome.{Outcome}
use Rattle.of_core.specs.Table.{durable_seq}
use Rattle.of_core.specs.TableMoment.{Moment, TableStart}
use Rattle.of_core.specs.Claim.{IsSound}
use Rattle.of_caller.specs.Tables.{plan_setup}
use Rattle.of_caller.specs.Moments.{store_at_seq}
use Rattle.of_caller.proofs.RecordsFacts.{CallerFacts}
use Rattle.of_caller.proofs.RecordsOwn.{own_entries, IsOwnOf, answer_is, own_at}
use Rattle.of_caller.proofs.RecordsHistory.{moment_history, moment_lines, is_history, line_is, lines_fit}

-- of a world, where the callers have begun these operations and their calls have ended so, and of
-- what a run has left of it
pub record MomentFacts (p : Plan) (s : Start) (B : TableStart) (w : Moment) (e : Ended) (ops : ℕ → List (List ℕ)) (outs : ℕ → List Outcome) : Type 0 where
  pub plan : IsPlan p
  pub seqs : B.seq ≡ s.seq
  pub sound : IsSound (plan_setup p) B w
  pub callers : (c : ℕ) → c < p.callers → CallerFacts p s B w e c (ops c) (outs c)
  pub answers : length e.answers ≡ p.callers
  pub endings : length e.endings ≡ p.callers
  pub words : length e.words ≡ table_words p.callers MOST_INSTRS (plan_data_cells p)
  pub seq : recovered_seq p e ≡ durable_seq (plan_setup p) w.words
  pub stands_for : DataCellsStandFor p.callers MOST_INSTRS p.blocks (record_number p e) (store_at_seq p B s.store w (durable_seq (plan_setup p) w.words))

-- answers that outcomes tell are whole
told_whole : (outs : List Outcome) (answers : List Answer) → AreAnswers outs answers → All (λ (a : Answer). IsWhole a.reply) answers
told_whole [] [] told = All-nil (λ (a : Answer). IsWhole a.reply)
told_whole [] (a ∷ others) told = absurd told
told_whole (Answered s announced raw steps ∷ outs) [] told = absurd told
told_whole (Answered s announced raw steps ∷ outs) (a ∷ others) told = All-cons (λ (b : Answer). IsWhole b.reply) a others told.0.2.0 (told_whole outs others told.1)
told_whole (Spent s ∷ outs) answers told = told_whole outs answers told
told_whole (Lost s ∷ outs) answers told = absurd told

-- a caller's scripts are few
pub few_scripts : (p : Plan) → IsPlan p → (c : ℕ) → c < p.callers → length (scripts_of p c) ≤ 20000
few_scripts p plan c lt = omega (arith, get_or-le-sum_by (λ (scripts : List (List Instr)). length scripts) p.scripts c [] (omega (arith, lt, plan.each_caller)), plan.few_scripts)

module _ (p : Plan) (s : Start) (B : TableStart) (w : Moment) (e : Ended) (ops : ℕ → List (List ℕ)) (outs : ℕ → List Outcome) (facts : MomentFacts p s B w e ops outs) where
  pub narrow : (c : ℕ) → c < p.callers → length (scripts_of p c) < 4294967296
  narrow c lt = omega (arith, few_scripts p facts.plan c lt)

  -- what each caller has beyond its answers
  pub beyond : (c : ℕ) → (extra : List Entry) × (c < p.callers → IsOwnOf p s B w e c extra)
  beyond c = elim (cases_lt c p.callers) [
    | inl lt ↦ let own = own_at p s B w facts.sound e c (ops c) (outs c) lt (narrow c lt) (facts.callers c lt) in (own.0, λ below. own.1)
    | inr high ↦ ([], λ below. absurd (omega (arith, high, below)))
  ]

  abbrev pub extras : ℕ → List Entry
  extras c = (beyond c).0

  -- the report of what is left
  abbrev pub report_left : Report
  report_left = history_report p s (moment_history p s B w e extras) (moment_lines p s e extras)

  legal_left : IsLegal p s report_left × ((c : ℕ) → c < p.callers → entries_of report_left c ≡ own_entries s e c (extras c))
  legal_left =
      histories_legal p s (moment_history p s B w e extras) (moment_lines p s e extras) (is_history p s B facts.seqs w facts.sound e extras (λ c lt. (beyond c).1 lt) facts.sound.from)
      (lines_fit p s B facts.seqs w facts.sound e extras (λ c lt. (beyond c).1 lt) (λ c lt x none among. (answer_is p s B w facts.sound e c (ops c) (outs c) lt (narrow c lt) (facts.callers c lt) x none among).within))

  record_left : IsRecordOf p s e report_left
  record_left = record {
    entries = λ c lt. record { extra = extras c; beyond = ((beyond c).1 lt).beyond; own = legal_left.1 c lt };
    each_caller = legal_left.0.open_calls.each_caller;
    callers = λ c lt. line_is p s B facts.seqs w facts.sound e extras (λ c lt. (beyond c).1 lt) c (record { state = done; answered = 0; entries = 0; longest = 0 }) lt ∙ ap (λ (es : List Entry). line_for e c (length es)) (sym (legal_left.1 c lt));
    seq = sym facts.seq;
    store = facts.stands_for;
  }

  -- what is left is a lawful record
  pub lawful_left : IsLawfulRecord p s e report_left
  lawful_left = record { answers = facts.answers; endings = facts.endings; words = facts.words; whole = λ c lt. told_whole (outs c) (answers_of e c) (facts.callers c lt).tells.told; report = record_left; legal = legal_left.0 }
