use Rattle.std.proofs.Common.{◌≡◌, ℕ, ◌+◌, true, List, [], ◌∷◌, get_or, Some, refl, sym, subst, ap, arith}
use Rattle.std.specs.Prelude.{◌==◌}
use Rattle.std.proofs.lemmas.List.Elements.{All-head, All-tail}
use Rattle.std.proofs.lemmas.List.Folds.{list_any-from_Any}
use Rattle.of_store.specs.Store.{Store, Reply, Answered, register}
use Rattle.of_plan.specs.Plan.{bound_of}
use Rattle.of_plan.specs.Report.{Entry}
use Rattle.of_plan.specs.Legal.{LineIsWithinBound}
use Rattle.of_plan.specs.Worked.{two_callers, both_done, sequence_left_out}
use Rattle.of_plan.proofs.HistoriesWorked.{worked_is_legal}
use Rattle.of_plan.proofs.laws.worked_reports.Goals as goal

-- the number that an answer begins with
abbrev first_number : Reply → ℕ
first_number (Answered (Some v ∷ values)) = v
first_number r = 0

pub returns-clause-legal : goal.returns-clause-legal
returns-clause-legal c = worked_is_legal

pub returns-clause-in_order : goal.returns-clause-in_order
returns-clause-in_order c l = let e = ap (λ (xs : List ℕ). get_or xs 1 0) (l.in_order.one_by_one 1 (omega arith)) in absurd (omega (arith, e))

pub returns-clause-open_calls : goal.returns-clause-open_calls
returns-clause-open_calls c l = let e = l.open_calls.entries 1 (omega arith) in absurd (omega (arith, e))

pub returns-clause-by_sequence : goal.returns-clause-by_sequence
returns-clause-by_sequence c l =
    let found = l.by_sequence.none_left_out 2 (omega arith) (omega arith) in
    let among = list_any-from_Any (λ (e : Entry). e.seq == 2) sequence_left_out.entries (found.0, found.1, found.2, found.3, subst (λ (n : ℕ). (n == 2) ≡ true) (sym found.4.1) refl) in cc

pub returns-clause-replies : goal.returns-clause-replies
returns-clause-replies c l = let e = ap (λ (rs : List Reply). first_number (get_or rs 3 (Answered []))) l.replies in absurd (omega (arith, e))

pub returns-clause-final_store : goal.returns-clause-final_store
returns-clause-final_store c l = let e = ap (λ (s : Store). register s 0) l.final_store in absurd (omega (arith, e))

pub returns-clause-endings : goal.returns-clause-endings
returns-clause-endings c l = let e = l.endings 1 (omega arith) in absurd (omega (arith, e))

pub returns-clause-within_bound : goal.returns-clause-within_bound
returns-clause-within_bound c l = let w = All-head (LineIsWithinBound two_callers) (record both_done { longest = bound_of two_callers + 1 }) [] (All-tail (LineIsWithinBound two_callers) both_done (record both_done { longest = bound_of two_callers + 1 } ∷ []) l.within_bound) in absurd (omega (arith, w.0))
