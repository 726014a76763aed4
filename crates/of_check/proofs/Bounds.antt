-- The numbers of a legal report are small.
use Rattle.std.proofs.Common.{◌≡◌, ℕ, zero, suc, ◌+◌, ◌<◌, ◌≤◌, List, [], ◌∷◌, length, get_or, map, sum, replicate, refl, subst, arith, length-set}
use Rattle.std.specs.Prelude.{sum_by}
use Rattle.std.specs.List.{AllByRecursion as Each}
use Rattle.std.proofs.lemmas.List.{length-replicate, get_or_default}
use Rattle.std.proofs.lemmas.List.Elements.{All-from_recursion, recursion_from_All}
use Rattle.std.proofs.lemmas.List.Sums.{sum_by-cons, sum_by-set, get_or-le-sum_by}
use Rattle.of_mem.proofs.BucketPlaces.{few_behind}
use Rattle.of_script.specs.declared.instr.Instr.{Instr}
use Rattle.of_plan.specs.Plan.{Plan, IsPlan, scripts_of}
use Rattle.of_plan.specs.Report.{Entry, EndState, done, stopped, spent, Line, Report, Start, empty_start, caller_line}
use Rattle.of_plan.specs.Legal.{HasEndState, IsLegal}
use Rattle.of_check.specs.declared.claims.CallClaim.{CallClaim}
use Rattle.of_check.specs.Claims.{call_claim}
use Rattle.of_check.specs.Replay.{Replay, replay_at_start, after_claimed_call, course_end, index_for, AllFollow}
use Rattle.of_check.specs.Endings.{left_of}
use Rattle.of_check.proofs.Own.{still_wide}
use Rattle.of_check.proofs.Following.{own_facts, since_start, few_sequences}
use Rattle.of_check.proofs.Reports.{KnowsEach, follow_all, last_is, is_ending}

-- each call raises one count
counts_are : (p : Plan) (c : Replay) (qs : List CallClaim) → p.callers ≤ length c.counts → AllFollow p c qs → (length (course_end p c qs).counts ≡ length c.counts) × (sum (course_end p c qs).counts ≡ sum c.counts + length qs)
counts_are p c [] wide all = (refl, omega arith)
counts_are p c (q ∷ qs) wide all =
    let again = counts_are p (after_claimed_call p c q) qs (still_wide c.counts q.caller (index_for c q + 1) p.callers wide) all.1 in
    let below : q.caller < p.callers = all.0.caller in
    let raised = sum_by-set (λ (n : ℕ). n) c.counts q.caller (index_for c q + 1) 0 (omega arith) in
    (omega (arith, again.0, length-set c.counts q.caller (index_for c q + 1)), omega (arith, again.1, raised))

sum_zeros : (n : ℕ) → sum (replicate n 0) ≡ 0
sum_zeros zero = refl
sum_zeros (suc n) = omega (arith, sum_zeros n, sum_by-cons (λ (y : ℕ). y) 0 (replicate n 0))

sum_upto : (xs : List ℕ) (ys : List (List (List Instr))) → length xs ≡ length ys → ((k : ℕ) → k < length xs → get_or xs k 0 ≤ length (get_or ys k [])) → sum xs ≤ sum_by length ys
sum_upto [] ys same h = omega arith
sum_upto (x ∷ xs) [] same h = absurd (omega arith)
sum_upto (x ∷ xs) (y ∷ ys) same h =
    let first : x ≤ length y = h 0 (omega arith) in
    omega (arith, first, sum_upto xs ys (omega arith) (λ k lt. h (suc k) (omega (arith, lt))), sum_by-cons (λ (n : ℕ). n) x xs, sum_by-cons length y ys)

pub few_scripts : (p : Plan) → IsPlan p → (c : ℕ) → c < p.callers → length (scripts_of p c) ≤ 20000
few_scripts p plan c lt = omega (arith, get_or-le-sum_by (λ (scripts : List (List Instr)). length scripts) p.scripts c [] (omega (arith, lt, plan.each_caller)), plan.few_scripts)

zero_at : (n a : ℕ) → ◌≡◌ {A = ℕ} (get_or (replicate n 0) a 0) 0
zero_at zero a = refl
zero_at (suc n) zero = refl
zero_at (suc n) (suc a) = zero_at n a

few_calls : (p : Plan) → IsPlan p → (qs : List CallClaim) → AllFollow p (replay_at_start (empty_start p)) qs → length qs ≤ 20000
few_calls p plan qs all =
    let start = replay_at_start (empty_start p) in
    let width : length start.counts ≡ p.callers = length-replicate {A = ℕ} p.callers 0 in
    let counts = counts_are p (replay_at_start (empty_start p)) qs (omega (arith, width)) all in
    let upto = sum_upto (course_end p (replay_at_start (empty_start p)) qs).counts p.scripts (omega (arith, counts.0, width, plan.each_caller))
    (λ k lt.
    let facts = own_facts p (replay_at_start (empty_start p)) qs k (omega (arith, width)) all in
    let none : get_or (replicate p.callers 0) k 0 ≡ 0 = zero_at p.callers k in
    omega (arith, facts.count, facts.few, none)) in
    omega (arith, counts.1, upto, sum_zeros p.callers, plan.few_scripts)

-- no number of 32 bits is too small for these
abbrev pub IsSmallCall : Entry → Type 0
IsSmallCall e = (e.seq ≤ 4294967295) × (e.caller ≤ 4294967295) × (e.index ≤ 4294967295)

-- an index is that of a script
indices_few : (p : Plan) → IsPlan p → (c : Replay) (es : List Entry) → AllFollow p c (map call_claim es) → Each (λ (e : Entry). e.index ≤ 20000) es
indices_few p plan c [] all = tt
indices_few p plan c (e ∷ es) all =
    (omega (arith, all.0.turn, all.0.script, few_scripts p plan e.caller all.0.caller), indices_few p plan (after_claimed_call p c (call_claim e)) es all.1)

abbrev pub IsSmallEnd : Line → Type 0
IsSmallEnd l = (l.answered ≤ 4294967295) × (l.longest ≤ 4294967295)

answered_few : (s : EndState) (answered scripts seq limit : ℕ) → HasEndState s answered scripts seq limit → answered ≤ scripts
answered_few done answered scripts seq limit h = omega (arith, h)
answered_few stopped answered scripts seq limit h = omega (arith, h)
answered_few spent answered scripts seq limit h = omega (arith, h.0)

-- a legal report from the empty start has few sequences
pub seq_few : (p : Plan) → IsPlan p → (r : Report) → IsLegal p (empty_start p) r → r.seq ≤ 20000
seq_few p plan r legal =
    let knows : KnowsEach p (empty_start p) = length-replicate {A = ℕ} p.callers 0 in
    let follow = follow_all p (empty_start p) knows r legal in
    omega (arith, last_is p (empty_start p) knows r legal, few_sequences p 0 (replay_at_start (empty_start p)) (map call_claim r.entries) (since_start (empty_start p)) follow, few_calls p plan (map call_claim r.entries) follow)

module _ (p : Plan) (plan : IsPlan p) (s : Start) (knows : KnowsEach p s) (r : Report) (legal : IsLegal p s r) (range : r.seq ≤ 4294967295) where
  pub small_calls : Each IsSmallCall r.entries
  small_calls = recursion_from_All IsSmallCall r.entries (λ k d lt.
      let within = (legal.by_sequence.sequences k d lt).1 in
      let caller = legal.in_order.of_callers k d lt in
      let index = All-from_recursion (λ (e : Entry). e.index ≤ 20000) r.entries (indices_few p plan (replay_at_start s) r.entries (follow_all p s knows r legal)) k d lt in
      (omega (arith, range, within), omega (arith, caller, plan.few_callers), omega (arith, index)))

  pub small_ends : Each IsSmallEnd r.callers
  small_ends = recursion_from_All IsSmallEnd r.callers (λ k d lt. small k d lt)
    where
      small : (k : ℕ) (d : Line) → k < length r.callers → IsSmallEnd (get_or r.callers k d)
      small k d lt =
          let below : k < p.callers = omega (arith, lt, legal.open_calls.each_caller) in
          let is = is_ending p s knows r legal k below in
          let answered = answered_few (caller_line r k).state (caller_line r k).answered (left_of p s.finished k) r.seq p.limit is.ended in
          subst IsSmallEnd (get_or_default r.callers k (record { state = done; answered = 0; entries = 0; longest = 0 }) d lt)
          (omega (arith, answered, few_scripts p plan k below), omega (arith, is.within.0, plan.few_callers, plan.few_blocks, few_behind p.blocks plan.few_blocks))
