-- The text of a legal report tells which report it is.
use Rattle.std.proofs.Common.{◌≡◌, ℕ, zero, suc, ◌+◌, ◌*◌, ◌-◌, ◌^◌, ◌<◌, ◌≤◌, inl, inr, List, [], ◌∷◌, length, map, get_or, refl, sym, ap, ◌∙◌, length-append, arith}
use Rattle.std.specs.Prelude.{All, Any, AllPairs, IsTrue, flat_map}
use Rattle.std.specs.List.{range_with_len}
use Rattle.std.specs.List.Sorted.{IsPermutation}
use Rattle.std.proofs.Math.ListN.{get_or-map}
use Rattle.std.proofs.lemmas.List.{get_or_default, length-map}
use Rattle.std.proofs.lemmas.List.Elements.{All-nil, All-append, recursion_from_All}
use Rattle.std.proofs.lemmas.List.FromFn.{get_or-range_with_len}
use Rattle.std.proofs.lemmas.List.Sorted.{All-permutation, length_permutation}
use Rattle.std.proofs.lemmas.List.Sums.{get_or-le-sum_by}
use Rattle.of_mem.proofs.BucketPlaces.{few_behind}
use Rattle.of_script.specs.declared.instr.Instr.{Instr}
use Rattle.of_store.specs.Store.{replies_in_order, last_store}
use Rattle.of_plan.specs.Plan.{Plan, IsPlan, scripts_of}
use Rattle.of_plan.specs.Report.{Entry, Line, EndState, done, stopped, spent, Report, Start, entries_of, caller_line, no_line, finished_of}
use Rattle.of_plan.specs.Legal.{IsLegal, StandsBefore, HasEndState, scripts_left, script_of_entry}
use Rattle.of_report.specs.ReportText.{TextTellsReport}
use Rattle.of_report.proofs.EqualTexts.{IsSmallEntry, IsSmallLine, IsSmallReport, AreAlike, alike_reports}
use Rattle.of_report.proofs.Gathers.{gathered}
use Rattle.of_report.proofs.Records.{same_report}

-- ---- the numbers of a legal report are small

counted : {X : Type 0} (f : ℕ → List X) (a n : ℕ) → ((c : ℕ) → a ≤ c → c < a + n → length (f c) ≤ 20000) → length (flat_map f (range_with_len a n)) ≤ n * 20000
counted f a zero h = omega arith
counted f a (suc n) h =
    omega (arith, h a (omega arith) (omega arith), counted f (a + 1) n (λ c low high. h c (omega arith) (omega arith)), length-append (f a) (flat_map f (range_with_len (a + 1) n)))

all_over : {X : Type 0} (P : X → Type 0) (f : ℕ → List X) (a n : ℕ) → ((c : ℕ) → a ≤ c → c < a + n → All P (f c)) → All P (flat_map f (range_with_len a n))
all_over P f a zero h = All-nil P
all_over P f a (suc n) h = All-append P (f a) (flat_map f (range_with_len (a + 1) n)) (h a (omega arith) (omega arith)) (all_over P f (a + 1) n (λ c low high. h c (omega arith) (omega arith)))

no_later : (e f : Entry) → StandsBefore e f → e.seq ≤ f.seq
no_later e f (inl h) = omega (arith, h)
no_later e f (inr h) = omega (arith, h.0)

abbrev StandsAt : ℕ → Entry → Type 0
StandsAt k e = IsTrue e.announced × (e.seq ≡ k)

-- the first of entries in order is no later than any
first_low : (e : Entry) (es : List Entry) (k : ℕ) → AllPairs StandsBefore (e ∷ es) → Any (StandsAt k) (e ∷ es) → e.seq ≤ k
first_low e es k pairs (zero, x, lt, is, at) = omega (arith, at.1, ap (λ (y : Entry). y.seq) is)
first_low e es k pairs (suc i, x, lt, is, at) = omega (arith, no_later e (get_or es i x) (pairs 0 (suc i) x (omega arith) lt), ap (λ (y : Entry). y.seq) is, at.1)

-- so a later one is among the others
among_others : (e : Entry) (es : List Entry) (k : ℕ) → e.seq < k → Any (StandsAt k) (e ∷ es) → Any (StandsAt k) es
among_others e es k low (zero, x, lt, is, at) = absurd (omega (arith, low, at.1, ap (λ (y : Entry). y.seq) is))
among_others e es k low (suc i, x, lt, is, at) = (i, x, omega (arith, lt), is, at)

-- entries in order that stand at each of n sequences are n at least
covered : (es : List Entry) (a n : ℕ) → AllPairs StandsBefore es → ((k : ℕ) → a < k → k ≤ a + n → Any (StandsAt k) es) → n ≤ length es
covered [] a zero pairs h = omega arith
covered [] a (suc n) pairs h = absurd (let found = h (a + 1) (omega arith) (omega arith) in omega (arith, found.2))
covered (e ∷ es) a zero pairs h = omega arith
covered (e ∷ es) a (suc n) pairs h =
    let low = first_low e es (a + 1) pairs (h (a + 1) (omega arith) (omega arith)) in
    omega (arith, covered es (a + 1) n (λ i j d l m. pairs (suc i) (suc j) d (omega (arith, l)) (omega (arith, m))) (λ k above upto. among_others e es k (omega (arith, low, above)) (h k (omega (arith, above)) (omega (arith, upto)))))

answered_few : (t : EndState) (answered scripts_left seq limit : ℕ) → HasEndState t answered scripts_left seq limit → answered ≤ scripts_left
answered_few done answered scripts_left seq limit h = omega (arith, h)
answered_few stopped answered scripts_left seq limit h = omega (arith, h)
answered_few spent answered scripts_left seq limit h = omega (arith, h.0)

module _ (p : Plan) (plan : IsPlan p) (s : Start) (low : s.seq ≤ p.limit) (r : Report) (legal : IsLegal p s r) where
  few_scripts : (c : ℕ) → c < p.callers → length (scripts_of p c) ≤ 20000
  few_scripts c lt = omega (arith, get_or-le-sum_by (λ (scripts : List (List Instr)). length scripts) p.scripts c [] (omega (arith, lt, plan.each_caller)), plan.few_scripts)

  few_own : (c : ℕ) → c < p.callers → length (entries_of r c) ≤ 20000
  few_own c lt = omega (arith, legal.in_order.of_scripts c lt, few_scripts c lt)

  moved : IsPermutation (flat_map (entries_of r) (range_with_len 0 p.callers)) r.entries
  moved = gathered (λ (e : Entry). e.caller) p.callers r.entries legal.in_order.of_callers

  few_entries : length r.entries ≤ 320000
  few_entries = omega (arith, length_permutation (flat_map (entries_of r) (range_with_len 0 p.callers)) r.entries moved, counted (entries_of r) 0 p.callers (λ c from lt. few_own c (omega (arith, lt))), plan.few_callers)

  seq_small : r.seq ≤ s.seq + 320000
  seq_small =
      let n = r.seq - s.seq in
      omega (arith, covered r.entries s.seq n legal.by_sequence.order (λ k above upto. legal.by_sequence.none_left_out k above (omega (arith, upto, legal.by_sequence.from_start))), few_entries)

  index_small : (c : ℕ) → c < p.callers → All (λ (e : Entry). e.index < 2 ^ 64) (entries_of r c)
  index_small c lt k d among =
      let is : (get_or (entries_of r c) k d).index ≡ finished_of s c + k =
      sym (get_or-map (λ (e : Entry). e.index) (entries_of r c) k d)
      ∙ get_or_default (map (λ (e : Entry). e.index) (entries_of r c)) k d.index 0 (omega (arith, among, ap length (legal.in_order.one_by_one c lt), length-map (entries_of r c) (λ (e : Entry). e.index)))
      ∙ ap (λ (xs : List ℕ). get_or xs k 0) (legal.in_order.one_by_one c lt)
      ∙ get_or-range_with_len (finished_of s c) (length (entries_of r c)) k 0 among in
      omega (arith, is, among, legal.in_order.of_scripts c lt, few_scripts c lt)

  indices_small : All (λ (e : Entry). e.index < 2 ^ 64) r.entries
  indices_small = All-permutation (λ (e : Entry). e.index < 2 ^ 64) (flat_map (entries_of r) (range_with_len 0 p.callers)) r.entries moved
      (all_over (λ (e : Entry). e.index < 2 ^ 64) (entries_of r) 0 p.callers (λ c from lt. index_small c (omega (arith, lt))))

  entries_small : All IsSmallEntry r.entries
  entries_small k d lt = record {
    seq = omega (arith, (legal.by_sequence.sequences k d lt).1, seq_small, low, plan.limit_range);
    caller = omega (arith, legal.in_order.of_callers k d lt, plan.few_callers);
    index = indices_small k d lt;
  }

  lines_small : All IsSmallLine r.callers
  lines_small k d lt =
      let below : k < p.callers = omega (arith, lt, legal.open_calls.each_caller) in
      let answered = answered_few (caller_line r k).state (caller_line r k).answered (scripts_left p s k) r.seq p.limit (legal.endings k below) in
      let same : caller_line r k ≡ get_or r.callers k d = get_or_default r.callers k no_line d lt in
      record {
        answered = omega (arith, answered, few_scripts k below, ap (λ (l : Line). l.answered) same);
        entries = omega (arith, legal.open_calls.entries k below, few_own k below, ap (λ (l : Line). l.entries) same);
        longest = omega (arith, (legal.within_bound k d lt).0, plan.few_callers, plan.few_blocks, few_behind p.blocks plan.few_blocks);
      }

  pub small_report : IsSmallReport r
  small_report = record {
    entries = recursion_from_All IsSmallEntry r.entries entries_small;
    callers = recursion_from_All IsSmallLine r.callers lines_small;
    seq = omega (arith, seq_small, low, plan.limit_range);
  }

-- ---- and what the text leaves out, replay tells

same_scripts : (p : Plan) (es fs : List Entry) → AreAlike es fs → map (script_of_entry p) es ≡ map (script_of_entry p) fs
same_scripts p [] [] h = refl
same_scripts p [] (f ∷ fs) h = absurd h
same_scripts p (e ∷ es) [] h = absurd h
same_scripts p (e ∷ es) (f ∷ fs) h = λ i. get_or (scripts_of p (h.0.caller i)) (h.0.index i) [] ∷ same_scripts p es fs h.1 i

same_entries : (es fs : List Entry) → AreAlike es fs → map (λ (e : Entry). e.reply) es ≡ map (λ (e : Entry). e.reply) fs → es ≡ fs
same_entries [] [] h e = refl
same_entries [] (f ∷ fs) h e = absurd h
same_entries (e ∷ es) [] h k = absurd h
same_entries (e ∷ es) (f ∷ fs) h k =
    let reply : e.reply ≡ f.reply = cc in
    let others : map (λ (e : Entry). e.reply) es ≡ map (λ (e : Entry). e.reply) fs = cc in
    let rest = same_entries es fs h.1 others in
    λ i. record { seq = h.0.seq i; caller = h.0.caller i; index = h.0.index i; announced = h.0.announced i; reply = reply i } ∷ rest i

pub text_tells_report : TextTellsReport
text_tells_report p s r q plan low legal other same =
    let alike = alike_reports r q (small_report p plan s low r legal) (small_report p plan s low q other) same in
    let scripts = same_scripts p r.entries q.entries alike.entries in
    same_report r q
    (same_entries r.entries q.entries alike.entries (legal.replies ∙ ap (replies_in_order s.store) scripts ∙ sym other.replies))
    alike.callers alike.seq
    (legal.final_store ∙ ap (last_store s.store) scripts ∙ sym other.final_store)
