-- The entries of a history: whose each is and at which sequence, in which order they stand, and which are a caller's.
use Rattle.std.proofs.Common.{◌≡◌, ℕ, ◌+◌, ◌-◌, ◌<◌, ◌≤◌, inl, inr, Bool, true, false, eqb, List, ◌++◌, refl, sym, subst, ◌∙◌, arith}
use Rattle.std.specs.Prelude.{filter, flat_map, not, ◌&&◌, ◌==◌}
use Rattle.std.specs.List.{range_with_len, AllByRecursion as Each}
use Rattle.std.proofs.Math.Nat.{eq-or-lt_of_le}
use Rattle.std.proofs.lemmas.Bool.{false≢true}
use Rattle.std.proofs.lemmas.Bool.Decides.{eqb_tells}
use Rattle.std.proofs.lemmas.Bool.{eqb-true as is_caller, eq-eqb as caller_passes}
use Rattle.of_plan.specs.Plan.{Plan}
use Rattle.of_plan.specs.Report.{Entry, Start}
use Rattle.of_plan.specs.Legal.{StandsBefore, StandsBeforeWithin}
use Rattle.of_plan.specs.Histories.{IsIn, History, IsBatch, EntryHasPlace, IsHistory, reads_at, history_entries}
use Rattle.of_plan.proofs.HistoriesLists.{each_at, each_from_in, each_weaker, each_append, each_filter, each_over, in_left, in_right, in_filter, in_over, InLine, in_line_pairs, in_line_weaker, in_line_append, in_line_filter, in_line_over, same_in_line}

-- ---- which of two entries stands before the other

never_both_within : (a b : Bool) (e f : Entry) → StandsBeforeWithin a b e f → StandsBeforeWithin b a f e → ⊥
never_both_within true true e f before after = omega (arith, before, after)
never_both_within true false e f before after = after
never_both_within false true e f before after = before
never_both_within false false e f (inl before) (inl after) = omega (arith, before, after)
never_both_within false false e f (inl before) (inr after) = omega (arith, before, after.0)
never_both_within false false e f (inr before) (inl after) = omega (arith, before.0, after)
never_both_within false false e f (inr before) (inr after) = omega (arith, before.1, after.1)

never_both : (e f : Entry) → StandsBefore e f → StandsBefore f e → ⊥
never_both e f (inl before) (inl after) = omega (arith, before, after)
never_both e f (inl before) (inr after) = omega (arith, before, after.0)
never_both e f (inr before) (inl after) = omega (arith, before.0, after)
never_both e f (inr before) (inr after) = never_both_within e.announced f.announced e f before.1 after.1

runs_within : (a b : Bool) (e f : Entry) → a ≡ true → b ≡ true → e.caller < f.caller → StandsBeforeWithin a b e f
runs_within true true e f one other lt = lt
runs_within true false e f one other lt = absurd (cc)
runs_within false b e f one other lt = absurd (cc)

run_and_read : (a b : Bool) (e f : Entry) → a ≡ true → b ≡ false → StandsBeforeWithin a b e f
run_and_read true false e f one other = tt
run_and_read true true e f one other = absurd (cc)
run_and_read false b e f one other = absurd (cc)

reads_within : (a b : Bool) (e f : Entry) → a ≡ false → b ≡ false → e.caller < f.caller → StandsBeforeWithin a b e f
reads_within false false e f one other lt = inl lt
reads_within false true e f one other lt = absurd (cc)
reads_within true b e f one other lt = absurd (cc)

-- ---- the test of a read at a sequence

is_read : (a : Bool) (x k : ℕ) → (not a && (x == k)) ≡ true → (a ≡ false) × (x ≡ k)
is_read true x k passes = absurd (cc)
is_read false x k passes = elim (eqb_tells x k) [
  | inl same ↦ (refl, same.1)
  | inr other ↦ absurd (false≢true (sym other.0 ∙ passes))
]

read_passes : (a : Bool) (x k : ℕ) → a ≡ false → x ≡ k → (not a && (x == k)) ≡ true
read_passes true x k is same = absurd (cc)
read_passes false x k is same = elim (eqb_tells x k) [
  | inl here ↦ here.0
  | inr other ↦ absurd (other.1 same)
]

-- a caller's reads at sequence k
abbrev own_reads : History → ℕ → ℕ → List Entry
own_reads h k c = filter (λ e. not e.announced && (e.seq == k)) (h.own c)

-- the entries at sequence k
abbrev pub part : Plan → History → ℕ → List Entry
part p h k = h.runs k ++ reads_at p h k

-- an entry at sequence k is one of its caller's
pub record IsAt (p : Plan) (h : History) (k : ℕ) (e : Entry) : Type 0 where
  pub seq : e.seq ≡ k
  pub known : e.caller < p.callers
  pub own : IsIn e (h.own e.caller)

-- what a batch says of each of its entries
abbrev IsRun : Plan → History → ℕ → Entry → Type 0
IsRun p h k e = (e.seq ≡ k) × (e.announced ≡ true) × (e.caller < p.callers) × IsIn e (h.own e.caller)

-- what a history says of each entry of a caller
abbrev pub OwnEntry : Plan → Start → History → ℕ → Entry → Type 0
OwnEntry p s h c e = (e.caller ≡ c) × (s.seq ≤ e.seq) × (e.seq ≤ h.last) × EntryHasPlace p s h e e.announced

-- one of its caller's entries
abbrev pub IsKnown : Plan → History → Entry → Type 0
IsKnown p h e = (e.caller < p.callers) × IsIn e (h.own e.caller)

run_is_at : (p : Plan) (h : History) (k : ℕ) (e : Entry) → IsRun p h k e → IsAt p h k e
run_is_at p h k e run = record { seq = run.0; known = run.2; own = run.3 }

module _ (p : Plan) (s : Start) (h : History) (history : IsHistory p s h) where
  -- ---- the reads at a sequence

  own_reads_are : (k c : ℕ) → c < p.callers → Each (λ e. IsAt p h k e × (e.announced ≡ false) × (e.caller ≡ c)) (own_reads h k c)
  own_reads_are k c lt =
      each_filter (λ (e : Entry). IsIn e (h.own c)) (λ e. IsAt p h k e × (e.announced ≡ false) × (e.caller ≡ c)) (λ e. not e.announced && (e.seq == k)) (λ e there passes.
      let read = is_read e.announced e.seq k passes in
      let mine : e.caller ≡ c = (each_at (OwnEntry p s h c) e (h.own c) (history.own c lt).each there).0 in
      (record { seq = read.1; known = subst (λ (d : ℕ). d < p.callers) (sym mine) lt; own = subst (λ (d : ℕ). IsIn e (h.own d)) (sym mine) there }, read.0, mine))
      (h.own c) (each_from_in (λ (e : Entry). IsIn e (h.own c)) (h.own c) (λ e there. there))

  pub reads_are : (k : ℕ) → Each (λ e. IsAt p h k e × (e.announced ≡ false)) (reads_at p h k)
  reads_are k =
      each_over (λ e. IsAt p h k e × (e.announced ≡ false)) (own_reads h k) 0 p.callers (λ c low high.
      each_weaker (λ e. IsAt p h k e × (e.announced ≡ false) × (e.caller ≡ c)) (λ e. IsAt p h k e × (e.announced ≡ false)) (λ e at. (at.0, at.1)) (own_reads h k c) (own_reads_are k c (omega arith)))

  reads_in_line : (k : ℕ) → InLine StandsBefore (reads_at p h k)
  reads_in_line k =
      in_line_over StandsBefore (own_reads h k) 0 p.callers
      (λ c low high. in_line_filter StandsBefore (λ e. not e.announced && (e.seq == k)) (h.own c) (in_line_pairs StandsBefore (h.own c) (history.own c (omega arith)).order))
      (λ c d low lt high. each_weaker (λ e. IsAt p h k e × (e.announced ≡ false) × (e.caller ≡ c)) (λ e. Each (StandsBefore e) (own_reads h k d)) (λ e one.
      each_weaker (λ f. IsAt p h k f × (f.announced ≡ false) × (f.caller ≡ d)) (StandsBefore e) (λ f other.
      inr (one.0.seq ∙ sym other.0.seq, reads_within e.announced f.announced e f one.1 other.1 (omega (arith, one.2, other.2, lt))))
      (own_reads h k d) (own_reads_are k d (omega arith)))
      (own_reads h k c) (own_reads_are k c (omega arith)))

  -- ---- the entries at a sequence

  part_is : (k : ℕ) → IsBatch p h k → Each (IsAt p h k) (part p h k)
  part_is k batch =
      each_append (IsAt p h k) (h.runs k) (reads_at p h k) (each_weaker (IsRun p h k) (IsAt p h k) (run_is_at p h k) (h.runs k) batch.each)
      (each_weaker (λ e. IsAt p h k e × (e.announced ≡ false)) (IsAt p h k) (λ e at. at.0) (reads_at p h k) (reads_are k))

  part_in_line : (k : ℕ) → IsBatch p h k → InLine StandsBefore (part p h k)
  part_in_line k batch =
      let runs = in_line_weaker (IsRun p h k) (λ (e f : Entry). e.caller < f.caller) StandsBefore
      (λ e f one other lt. inr (one.0 ∙ sym other.0, runs_within e.announced f.announced e f one.1 other.1 lt)) (h.runs k) batch.each (in_line_pairs (λ (e f : Entry). e.caller < f.caller) (h.runs k) batch.by_caller) in
      in_line_append StandsBefore (h.runs k) (reads_at p h k) runs (reads_in_line k)
      (each_weaker (IsRun p h k) (λ e. Each (StandsBefore e) (reads_at p h k)) (λ e one.
      each_weaker (λ f. IsAt p h k f × (f.announced ≡ false)) (StandsBefore e) (λ f other. inr (one.0 ∙ sym other.0.seq, run_and_read e.announced f.announced e f one.1 other.1)) (reads_at p h k) (reads_are k))
      (h.runs k) batch.each)

  parts_apart : (j k : ℕ) → j < k → (es fs : List Entry) → Each (IsAt p h j) es → Each (IsAt p h k) fs → Each (λ e. Each (StandsBefore e) fs) es
  parts_apart j k lt es fs first second =
      each_weaker (IsAt p h j) (λ e. Each (StandsBefore e) fs) (λ e one. each_weaker (IsAt p h k) (StandsBefore e) (λ f other. inl (omega (arith, one.seq, other.seq, lt))) fs second) es first

  -- ---- all entries

  pub batch_at : (k : ℕ) → s.seq + 1 ≤ k → k < s.seq + 1 + (h.last - s.seq) → IsBatch p h k
  batch_at k low high = history.batches k (omega arith) (omega (arith, history.from))

  first_reads : Each (IsAt p h s.seq) (reads_at p h s.seq)
  first_reads = each_weaker (λ e. IsAt p h s.seq e × (e.announced ≡ false)) (IsAt p h s.seq) (λ e at. at.0) (reads_at p h s.seq) (reads_are s.seq)

  pub entries_in_line : InLine StandsBefore (history_entries p s h)
  entries_in_line =
      in_line_append StandsBefore (reads_at p h s.seq) (flat_map (part p h) (range_with_len (s.seq + 1) (h.last - s.seq))) (reads_in_line s.seq)
      (in_line_over StandsBefore (part p h) (s.seq + 1) (h.last - s.seq) (λ k low high. part_in_line k (batch_at k low high))
      (λ j k low lt high. parts_apart j k lt (part p h j) (part p h k) (part_is j (batch_at j low (omega arith))) (part_is k (batch_at k (omega arith) high))))
      (each_from_in (λ e. Each (StandsBefore e) (flat_map (part p h) (range_with_len (s.seq + 1) (h.last - s.seq)))) (reads_at p h s.seq) (λ e there.
      each_over (StandsBefore e) (part p h) (s.seq + 1) (h.last - s.seq) (λ k low high.
      each_at (λ x. Each (StandsBefore x) (part p h k)) e (reads_at p h s.seq) (parts_apart s.seq k (omega arith) (reads_at p h s.seq) (part p h k) first_reads (part_is k (batch_at k low high))) there)))

  is_known : (k : ℕ) (es : List Entry) → Each (IsAt p h k) es → Each (IsKnown p h) es
  is_known k es all = each_weaker (IsAt p h k) (IsKnown p h) (λ e at. (at.known, at.own)) es all

  pub entries_known : Each (IsKnown p h) (history_entries p s h)
  entries_known =
      each_append (IsKnown p h) (reads_at p h s.seq) (flat_map (part p h) (range_with_len (s.seq + 1) (h.last - s.seq))) (is_known s.seq (reads_at p h s.seq) first_reads)
      (each_over (IsKnown p h) (part p h) (s.seq + 1) (h.last - s.seq) (λ k low high. is_known k (part p h k) (part_is k (batch_at k low high))))

  -- what the history says of such an entry
  pub own_entry : (e : Entry) → IsKnown p h e → OwnEntry p s h e.caller e
  own_entry e known = each_at (OwnEntry p s h e.caller) e (h.own e.caller) (history.own e.caller known.0).each known.1

  -- ---- the entries of a caller

  pub in_part : (e : Entry) → s.seq < e.seq → e.seq ≤ h.last → IsIn e (part p h e.seq) → IsIn e (history_entries p s h)
  in_part e low high here =
      in_right e (reads_at p h s.seq) (flat_map (part p h) (range_with_len (s.seq + 1) (h.last - s.seq))) (in_over e (part p h) (s.seq + 1) (h.last - s.seq) e.seq (omega arith) (omega (arith, history.from)) here)

  placed : (a : Bool) (e : Entry) → e.announced ≡ a → s.seq ≤ e.seq → e.seq ≤ h.last → e.caller < p.callers → IsIn e (h.own e.caller) → EntryHasPlace p s h e a → IsIn e (history_entries p s h)
  placed true e is low high known own place = in_part e place.0 high (in_left e (h.runs e.seq) (reads_at p h e.seq) place.1)
  placed false e is low high known own place =
      let here : IsIn e (reads_at p h e.seq) =
      in_over e (own_reads h e.seq) 0 p.callers e.caller (omega arith) (omega arith) (in_filter (λ f. not f.announced && (f.seq == e.seq)) e (h.own e.caller) own (read_passes e.announced e.seq e.seq is refl)) in
      elim (eq-or-lt_of_le low) [
        | inl same ↦ in_left e (reads_at p h s.seq) (flat_map (part p h) (range_with_len (s.seq + 1) (h.last - s.seq))) (subst (λ (k : ℕ). IsIn e (reads_at p h k)) (sym same) here)
        | inr later ↦ in_part e later high (in_right e (h.runs e.seq) (reads_at p h e.seq) here)
      ]

  own_among : (c : ℕ) → c < p.callers → (e : Entry) → IsIn e (h.own c) → IsIn e (filter (λ f. eqb f.caller c) (history_entries p s h))
  own_among c lt e there =
      let mine = each_at (OwnEntry p s h c) e (h.own c) (history.own c lt).each there in
      in_filter (λ f. eqb f.caller c) e (history_entries p s h) (placed e.announced e refl mine.1 mine.2 (subst (λ (d : ℕ). d < p.callers) (sym mine.0) lt) (subst (λ (d : ℕ). IsIn e (h.own d)) (sym mine.0) there) mine.3)
      (caller_passes e.caller c mine.0)

  -- those of a caller are its own
  pub caller_entries : (c : ℕ) → c < p.callers → filter (λ (e : Entry). eqb e.caller c) (history_entries p s h) ≡ h.own c
  caller_entries c lt =
      same_in_line StandsBefore never_both (filter (λ e. eqb e.caller c) (history_entries p s h)) (h.own c) (in_line_filter StandsBefore (λ e. eqb e.caller c) (history_entries p s h) entries_in_line)
      (in_line_pairs StandsBefore (h.own c) (history.own c lt).order)
      (each_filter (IsKnown p h) (λ e. IsIn e (h.own c)) (λ e. eqb e.caller c) (λ e known passes. subst (λ (d : ℕ). IsIn e (h.own d)) (is_caller e.caller c passes) known.1) (history_entries p s h) entries_known)
      (each_from_in (λ e. IsIn e (filter (λ f. eqb f.caller c) (history_entries p s h))) (h.own c) (own_among c lt))
