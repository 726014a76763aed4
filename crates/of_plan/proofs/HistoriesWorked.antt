-- The worked report is that of a history: two callers, of whom the second reads before it writes, and the first after it wrote.
use Rattle.std.proofs.Common.{◌≡◌, ℕ, zero, suc, ◌<◌, ◌≤◌, inl, inr, List, [], ◌∷◌, get_or, refl, subst, arith}
use Rattle.std.specs.Prelude.{IsTrue, All}
use Rattle.std.proofs.lemmas.List.Elements.{All-nil, All-cons}
use Rattle.of_script.specs.declared.instr.Instr.TheVariants.{Load, Store as StoreInstr, Add}
use Rattle.of_script.specs.Language.{reads_only}
use Rattle.of_store.specs.Store.{Store, empty_store, last_store}
use Rattle.of_plan.specs.Report.{Entry, Line, empty_start, no_line}
use Rattle.of_plan.specs.Legal.{StandsBefore, IsLegal}
use Rattle.of_plan.specs.Histories.{History, IsBatch, IsOwn, IsHistory, FitsLine, history_report}
use Rattle.of_plan.specs.Worked.{two_callers, stores_five, loads_six, loads_nothing, adds_one, both_done, legal_report}
use Rattle.of_plan.proofs.HistoriesLegal.{histories_legal}
use Rattle.of_plan.proofs.HistoriesLists.{pairs_in_line}

abbrev batches : ℕ → List Entry
batches zero = []
batches (suc k) = stores_five ∷ adds_one ∷ []

abbrev own : ℕ → List Entry
own zero = stores_five ∷ loads_six ∷ []
own (suc c) = loads_nothing ∷ adds_one ∷ []

abbrev stores : ℕ → Store
stores zero = empty_store 0
stores (suc k) = last_store (empty_store 0) ((StoreInstr 0 5 ∷ []) ∷ (Add 0 1 ∷ []) ∷ [])

abbrev history : History
history = record { last = 1; runs = batches; own = own; stores = stores }

abbrev lines : List Line
lines = both_done ∷ both_done ∷ []

-- the first read stands before the batch, and the second behind it
report_is : history_report two_callers (empty_start two_callers) history lines ≡ legal_report
report_is = refl

reads_first : All (λ i. IsTrue (reads_only i)) (Load 0 ∷ [])
reads_first = All-cons (λ i. IsTrue (reads_only i)) (Load 0) [] refl (All-nil (λ i. IsTrue (reads_only i)))

one_batch : (k : ℕ) → 0 < k → k ≤ 1 → IsBatch two_callers history k
one_batch zero low high = absurd (omega arith)
one_batch (suc zero) low high = record {
  some = omega arith;
  each = ((refl, refl, omega arith, inl refl), ((refl, refl, omega arith, inr (inl refl)), tt));
  by_caller = pairs_in_line (λ (e f : Entry). e.caller < f.caller) (stores_five ∷ adds_one ∷ []) ((omega arith, tt), (tt, tt));
  replies = refl;
  leads = refl;
}
one_batch (suc (suc k)) low high = absurd (omega arith)

each_own : (c : ℕ) → c < 2 → IsOwn two_callers (empty_start two_callers) history c
each_own zero lt = record {
  each = ((refl, omega arith, omega arith, (omega arith, inl refl)), ((refl, omega arith, omega arith, (reads_first, refl)), tt));
  indices = refl;
  few = omega arith;
  order = pairs_in_line StandsBefore (stores_five ∷ loads_six ∷ []) ((inr (refl, tt), tt), (tt, tt));
}
each_own (suc zero) lt = record {
  each = ((refl, omega arith, omega arith, (reads_first, refl)), ((refl, omega arith, omega arith, (omega arith, inr (inl refl))), tt));
  indices = refl;
  few = omega arith;
  order = pairs_in_line StandsBefore (loads_nothing ∷ adds_one ∷ []) ((inl (omega arith), tt), (tt, tt));
}
each_own (suc (suc c)) lt = absurd (omega arith)

-- it is a history
is_history : IsHistory two_callers (empty_start two_callers) history
is_history = record { from = omega arith; begins = refl; batches = one_batch; own = each_own }

-- a caller that is done has both its scripts among the entries
lines_fit : (c : ℕ) → c < 2 → FitsLine two_callers (empty_start two_callers) history c (get_or lines c no_line)
lines_fit zero lt = record { entries = refl; open_call = refl; ending = refl; within = (omega arith, λ none. absurd (omega (arith, none))) }
lines_fit (suc zero) lt = record { entries = refl; open_call = refl; ending = refl; within = (omega arith, λ none. absurd (omega (arith, none))) }
lines_fit (suc (suc c)) lt = absurd (omega arith)

-- so the report is legal
pub worked_is_legal : IsLegal two_callers (empty_start two_callers) legal_report
worked_is_legal = subst (IsLegal two_callers (empty_start two_callers)) report_is (histories_legal two_callers (empty_start two_callers) history lines is_history (record { each_caller = refl; each = lines_fit })).0
