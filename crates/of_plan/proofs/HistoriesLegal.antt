-- The report of a history is legal.
use Rattle.std.proofs.Common.{◌≡◌, ℕ, ◌<◌, ◌≤◌, inl, Bool, true, false, eqb, List, [], ◌∷◌, length, map, refl, sym, ap, subst, ◌∙◌, arith}
use Rattle.std.specs.Prelude.{filter, IsTrue, All, Any}
use Rattle.std.specs.List.{range_with_len}
use Rattle.std.proofs.lemmas.List.Elements.{All-from_recursion, All-from_get_or}
use Rattle.of_plan.specs.Plan.{Plan}
use Rattle.of_plan.specs.Report.{Entry, Line, done, Start, finished_of}
use Rattle.of_plan.specs.Legal.{StandInOrder, HasOpenCall, CountOpenCalls, HasSequence, StandsBefore, StandBySequence, LineIsWithinBound, IsLegal}
use Rattle.of_plan.specs.Histories.{IsIn, History, EntryHasPlace, IsHistory, reads_at, history_entries, history_report, FitsLine, LinesFit, HistoriesAreLegal}
use Rattle.of_plan.proofs.HistoriesLists.{each_at, each_weaker, in_left, any_in, pairs_in_line}
use Rattle.of_plan.proofs.HistoriesOrder.{IsKnown, entries_in_line, entries_known, own_entry, in_part, caller_entries}
use Rattle.of_plan.proofs.HistoriesReplay.{entries_lead}

has_sequence : (p : Plan) (s : Start) (h : History) (e : Entry) (a : Bool) → e.announced ≡ a → s.seq ≤ e.seq → EntryHasPlace p s h e a → HasSequence p s e
has_sequence p s h e true is low place = rw is place.0
has_sequence p s h e false is low place = rw is (low, place.0)

-- a list that isn't empty has a first element
first_of_some : {X : Type 0} (xs : List X) → 0 < length xs → (x : X) × IsIn x xs
first_of_some [] some = absurd (omega arith)
first_of_some (x ∷ xs) some = (x, inl refl)

module _ (p : Plan) (s : Start) (h : History) (lines : List Line) (history : IsHistory p s h) (fit : LinesFit p s h lines) where
  same_length : (c : ℕ) → c < p.callers → length (h.own c) ≡ length (filter (λ (e : Entry). eqb e.caller c) (history_entries p s h))
  same_length c lt = ap length (sym (caller_entries p s h history c lt))

  in_order : StandInOrder p s (history_report p s h lines)
  in_order = record {
    of_callers = All-from_recursion (λ (e : Entry). e.caller < p.callers) (history_entries p s h) (each_weaker (IsKnown p h) (λ (e : Entry). e.caller < p.callers) (λ e known. known.0) (history_entries p s h) (entries_known p s h history));
    one_by_one = λ c lt. subst (λ (es : List Entry). map (λ (e : Entry). e.index) es ≡ range_with_len (finished_of s c) (length es)) (sym (caller_entries p s h history c lt)) (history.own c lt).indices;
    of_scripts = λ c lt. omega (arith, same_length c lt, (history.own c lt).few);
  }

  -- what holds of the line of each caller holds of each line
  each_line : (P : Line → Type 0) → ((c : ℕ) (l : Line) → FitsLine p s h c l → P l) → All P lines
  each_line P holds = All-from_get_or P lines (record { state = done; answered = 0; entries = 0; longest = 0 }) (λ c lt. holds c _ (fit.each c (omega (arith, fit.each_caller))))

  open_calls : CountOpenCalls p (history_report p s h lines)
  open_calls = record {
    each_caller = fit.each_caller;
    entries = λ c lt. (fit.each c lt).entries ∙ same_length c lt;
    open_call = each_line (λ (l : Line). HasOpenCall l.state l.answered l.entries) (λ c l fits. fits.open_call);
  }

  none_left_out : (k : ℕ) → s.seq < k → k ≤ h.last → Any (λ (e : Entry). IsTrue e.announced × (e.seq ≡ k)) (history_entries p s h)
  none_left_out k low high =
      let batch = history.batches k low high in
      let found = first_of_some (h.runs k) batch.some in
      let is = each_at (λ (e : Entry). (e.seq ≡ k) × (e.announced ≡ true) × (e.caller < p.callers) × IsIn e (h.own e.caller)) found.0 (h.runs k) batch.each found.1 in
      any_in (λ (e : Entry). IsTrue e.announced × (e.seq ≡ k)) found.0 (history_entries p s h)
      (in_part p s h history found.0 (omega (arith, is.0)) (omega (arith, is.0)) (in_left found.0 (h.runs found.0.seq) (reads_at p h found.0.seq) (subst (λ (m : ℕ). IsIn found.0 (h.runs m)) (sym is.0) found.1)))
      (is.1, is.0)

  by_sequence : StandBySequence p s (history_report p s h lines)
  by_sequence = record {
    order = pairs_in_line StandsBefore (history_entries p s h) (entries_in_line p s h history);
    sequences = All-from_recursion (λ (e : Entry). HasSequence p s e × (e.seq ≤ h.last)) (history_entries p s h) (each_weaker (IsKnown p h) (λ (e : Entry). HasSequence p s e × (e.seq ≤ h.last))
        (λ e known. let own = own_entry p s h history e known in (has_sequence p s h e e.announced refl own.1 own.3, own.2)) (history_entries p s h) (entries_known p s h history));
    from_start = history.from;
    none_left_out = none_left_out;
  }

  report_legal : IsLegal p s (history_report p s h lines)
  report_legal = record {
    in_order = in_order;
    open_calls = open_calls;
    by_sequence = by_sequence;
    replies = (entries_lead p s h history).told;
    final_store = sym (entries_lead p s h history).store;
    endings = λ c lt. (fit.each c lt).ending;
    within_bound = each_line (LineIsWithinBound p) (λ c l fits. fits.within);
  }

pub histories_legal : (p : Plan) (s : Start) → HistoriesAreLegal p s
histories_legal p s h lines history fit = (report_legal p s h lines history fit, caller_entries p s h history)
