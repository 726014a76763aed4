-- The announced entries of a run's report are the calls of its batches.
use Rattle.std.proofs.Common.{◌≡◌, ℕ, ◌+◌, ◌-◌, ◌<◌, ◌≤◌, Bool, true, false, not, IsTrue, List, [], ◌∷◌, ◌++◌, length, get_or, refl, sym, subst, arith}
use Rattle.std.specs.Prelude.{All, Any, filter, flat_map, ◌&&◌, ◌==◌}
use Rattle.std.specs.List.{range_with_len, AllByRecursion as Each}
use Rattle.std.proofs.lemmas.List.Elements.{All-from_recursion}
use Rattle.of_plan.specs.Plan.{Plan}
use Rattle.of_plan.specs.Report.{Entry, Start}
use Rattle.of_plan.specs.Ended.{Ended}
use Rattle.of_plan.specs.Histories.{IsIn, History, reads_at}
use Rattle.of_plan.proofs.HistoriesLists.{each_append, each_over, each_filter, in_left, in_right, in_over, any_in}
use Rattle.of_core.specs.declared.place.Outcome.{Outcome}
use Rattle.of_core.specs.Table.{durable_seq}
use Rattle.of_core.specs.Machine.{Call, no_call}
use Rattle.of_core.specs.TableMoment.{Moment, TableStart}
use Rattle.of_row.specs.Views.{SeenBatch}
use Rattle.of_caller.specs.Tables.{plan_setup}
use Rattle.of_caller.specs.Moments.{batch_calls}
use Rattle.of_caller.specs.Teams.{IsEntryOf, seen_calls, AnnouncesSeen}
use Rattle.of_caller.proofs.RecordsLists.{in_at, each_by_place}
use Rattle.of_caller.proofs.RecordsCalls.{call_at, entry_at}
use Rattle.of_caller.proofs.RecordsHistory.{moment_history, run_is, run_length, no_entry}
use Rattle.of_caller.proofs.RecordsLawful.{MomentFacts, beyond, extras, report_left}

-- what isn't announced and passes a test besides
unannounced : (b q : Bool) → (not b && q) ≡ true → IsTrue b → ⊥
unannounced true q passes announced = absurd (cc)
unannounced false q passes announced = absurd (cc)

anything : {X : Type 0} (xs : List X) → Each (λ x. Unit {0}) xs
anything [] = tt
anything (x ∷ xs) = (tt, anything xs)

module _ (p : Plan) (s : Start) (B : TableStart) (w : Moment) (e : Ended) (ops : ℕ → List (List ℕ)) (outs : ℕ → List Outcome) (f : MomentFacts p s B w e ops outs) (seen : List SeenBatch) (same : (k : ℕ) → seen_calls B seen k ≡ batch_calls B w k) where
  abbrev h : History
  h = moment_history p s B w e (extras p s B w e ops outs f)

  last : ℕ
  last = durable_seq (plan_setup p) w.words

  long : (k : ℕ) → length (h.runs k) ≡ length (batch_calls B w k)
  long = run_length p s B f.seqs w f.sound e (extras p s B w e ops outs f) (λ c lt. (beyond p s B w e ops outs f c).1 lt)

  is_entry : (k y : ℕ) → y < length (batch_calls B w k) → get_or (h.runs k) y no_entry ≡ entry_at p s B w k y
  is_entry k y lt = run_is p s B f.seqs w f.sound e (extras p s B w e ops outs f) (λ c lt. (beyond p s B w e ops outs f c).1 lt) k y no_entry lt

  -- a call of a batch has a ticket above 0, which is its entry's index and one
  ticket_is : (k y : ℕ) → B.seq < k → k ≤ durable_seq (plan_setup p) w.words → y < length (batch_calls B w k) → (call_at B w k y).ticket ≡ (call_at B w k y).ticket - 1 + 1
  ticket_is k y from upto lt = let some = (f.sound.begun k from (omega (arith, upto, f.sound.reaches)) y no_call lt).1 in omega (arith, some)

  abbrev IsSeen : Entry → Type 0
  IsSeen g = IsTrue g.announced → Any (IsEntryOf g) (seen_calls B seen g.seq)

  reads_pass : (k : ℕ) → Each IsSeen (reads_at p h k)
  reads_pass k = each_over IsSeen (λ c. filter (λ g. not g.announced && (g.seq == k)) (h.own c)) 0 p.callers
      (λ c low high. each_filter (λ g. Unit {0}) IsSeen (λ g. not g.announced && (g.seq == k)) (λ g any passes announced. absurd (unannounced g.announced (g.seq == k) passes announced)) (h.own c) (anything (h.own c)))

  runs_pass : (k : ℕ) → B.seq < k → k ≤ durable_seq (plan_setup p) w.words → Each IsSeen (h.runs k)
  runs_pass k from upto = each_by_place IsSeen (h.runs k) no_entry (λ y lt.
      let among : y < length (batch_calls B w k) = omega (arith, lt, long k) in
      subst IsSeen (sym (is_entry k y among)) (λ announced. any_in (IsEntryOf (entry_at p s B w k y)) (call_at B w k y) (seen_calls B seen k)
      (subst (λ (cs : List Call). IsIn (call_at B w k y) cs) (sym (same k)) (in_at (batch_calls B w k) y no_call among)) (refl, ticket_is k y from upto among)))

  -- the entries of a sequence
  abbrev entries_at : ℕ → List Entry
  entries_at k = h.runs k ++ reads_at p h k

  pub announces : AnnouncesSeen B seen (report_left p s B w e ops outs f)
  announces =
      let n = durable_seq (plan_setup p) w.words - s.seq in
      record {
        entries = All-from_recursion IsSeen (report_left p s B w e ops outs f).entries (each_append IsSeen (reads_at p h s.seq) (flat_map entries_at (range_with_len (s.seq + 1) n)) (reads_pass s.seq)
            (each_over IsSeen entries_at (s.seq + 1) n (λ k low high. each_append IsSeen (h.runs k) (reads_at p h k) (runs_pass k (omega (arith, low, f.seqs)) (omega (arith, high, low))) (reads_pass k))));
        calls = λ k from upto.
            let P : Call → Type 0 = λ d. Any (λ g. IsTrue g.announced × (g.seq ≡ k) × IsEntryOf g d) (report_left p s B w e ops outs f).entries in
            subst (All P) (sym (same k)) (All-from_recursion P (batch_calls B w k) (each_by_place P (batch_calls B w k) no_call (λ y lt.
            let at : y < length (h.runs k) = omega (arith, lt, long k) in
            let here : IsIn (entry_at p s B w k y) (h.runs k) = subst (λ (g : Entry). IsIn g (h.runs k)) (is_entry k y lt) (in_at (h.runs k) y no_entry at) in
            any_in (λ g. IsTrue g.announced × (g.seq ≡ k) × IsEntryOf g (call_at B w k y)) (entry_at p s B w k y) (report_left p s B w e ops outs f).entries
            (in_right (entry_at p s B w k y) (reads_at p h s.seq) (flat_map entries_at (range_with_len (s.seq + 1) n)) (in_over (entry_at p s B w k y) entries_at (s.seq + 1) n k (omega (arith, from, f.seqs)) (omega (arith, from, upto, f.seqs)) (in_left (entry_at p s B w k y) (h.runs k) (reads_at p h k) here)))
            (refl, refl, (refl, ticket_is k y from upto lt)))));
      }
