-- A legal report of a load in which every caller is done has one summary: that of the load's serial report.
use Rattle.std.proofs.Common.{◌≡◌, ◌≢◌, inl, inr, ℕ, zero, suc, ◌+◌, ◌*◌, ◌<◌, ◌≤◌, Bool, true, false, eqb, List, [], ◌∷◌, length, map, get_or, drop, refl, sym, ap, subst, ◌∙◌, arith}
use Rattle.std.specs.Prelude.{filter, count_by, if◌then◌else◌}
use Rattle.std.specs.List.{range_with_len, AllByRecursion as Each}
use Rattle.std.proofs.lemmas.Bool.Decides.{eqb_tells}
use Rattle.std.proofs.lemmas.List.{get_or-replicate}
use Rattle.std.proofs.lemmas.List.Elements.{recursion_from_All}
use Rattle.std.proofs.lemmas.List.FromFn.{get_or-map-range_with_len, length-map-range_with_len}
use Rattle.of_script.specs.declared.instr.Instr.{Instr}
use Rattle.of_store.specs.Store.{Store, run, last_store, empty_store}
use Rattle.of_plan.specs.Plan.{Plan, IsPlan, scripts_of}
use Rattle.of_plan.specs.Report.{Entry, EndState, done, stopped, spent, Line, Report, no_line, empty_start, caller_line, finished_of}
use Rattle.of_plan.specs.Legal.{script_of_entry, scripts_left, HasOpenCall, HasEndState, IsLegal}
use Rattle.of_plan.specs.Serial.{CallId, serial_calls, serial_line, serial_report}
use Rattle.of_plan.proofs.LoadPlans.{generated_is_plan, each_within}
use Rattle.of_plan.proofs.SerialLegal.{serial_legal}
use Rattle.of_report.specs.LoadText.{load_text}
use Rattle.of_check.proofs.Bounds.{seq_few}
use Rattle.of_plan.specs.Generated.{load_script, load_scripts, generated_plan}
use Rattle.of_tool.proofs.LoadStores.{total, total_raised, one_more, Holds, held_same, empty_holds, goes_on, one_load}

-- the entries of a caller in a list
abbrev pub own_in : ℕ → List Entry → List Entry
own_in u es = filter (λ e. eqb e.caller u) es

own_first : (u : ℕ) (e : Entry) (es : List Entry) → e.caller ≡ u → own_in u (e ∷ es) ≡ e ∷ own_in u es
own_first u e es is = elim (eqb_tells e.caller u) [ inl p ↦ (let yes = p.0 in rw yes refl) | inr p ↦ absurd (p.1 is) ]

own_other : (u : ℕ) (e : Entry) (es : List Entry) → e.caller ≢ u → own_in u (e ∷ es) ≡ own_in u es
own_other u e es ne = elim (eqb_tells e.caller u) [ inl p ↦ absurd (ne p.1) | inr p ↦ (let no = p.0 in rw no refl) ]

more_at : (t : ℕ) (c : ℕ → ℕ) → one_more t c t ≡ suc (c t)
more_at t c = elim (eqb_tells t t) [ inl p ↦ (let e = p.0 in rw e refl) | inr p ↦ absurd (p.1 refl) ]

more_other : (t u : ℕ) (c : ℕ → ℕ) → u ≢ t → one_more t c u ≡ c u
more_other t u c ne = elim (eqb_tells u t) [ inl p ↦ absurd (ne p.1) | inr p ↦ (let e = p.0 in rw e refl) ]

-- each caller has made so many calls, and its entries in the list are the next ones
record Follow (n m : ℕ) (c : ℕ → ℕ) (es : List Entry) : Type 0 where
  pub callers : Each (λ e. e.caller < n) es
  pub indices : (u : ℕ) → u < n → map (λ e. e.index) (own_in u es) ≡ range_with_len (c u) (length (own_in u es))
  pub few : (u : ℕ) → u < n → c u + length (own_in u es) ≤ m

script_at : (n m : ℕ) (e : Entry) → e.caller < n → e.index < m → script_of_entry (generated_plan n m) e ≡ load_script e.caller e.index
script_at n m e lt lt_i =
    ap (λ (scripts : List (List Instr)). get_or scripts e.index []) (get_or-map-range_with_len (load_scripts m) 0 n e.caller e.caller [] lt (omega arith))
    ∙ get_or-map-range_with_len (load_script e.caller) 0 m e.index e.index [] lt_i (omega arith)

module _ (n m : ℕ) (few : n ≤ 16) (all : n * m ≤ 20000) where
  follow_first : (c : ℕ → ℕ) (e : Entry) (es : List Entry) → Follow n m c (e ∷ es) → (e.index ≡ c e.caller) × (c e.caller < m) × Follow n m (one_more e.caller c) es
  follow_first c e es f =
      let t = e.caller in
      let own = own_first t e es refl in
      let here : map (λ (d : Entry). d.index) (e ∷ own_in t es) ≡ range_with_len (c t) (length (e ∷ own_in t es)) = subst (λ (ds : List Entry). map (λ (d : Entry). d.index) ds ≡ range_with_len (c t) (length ds)) own (f.indices t f.callers.0) in
      let upto : c t + length (e ∷ own_in t es) ≤ m = subst (λ (ds : List Entry). c t + length ds ≤ m) own (f.few t f.callers.0) in (
        ap (λ (xs : List ℕ). get_or xs 0 0) here,
        omega arith,
        record {
          callers = f.callers.1;
          indices = λ u lt. elim (eqb_tells u t) [
            | inl p ↦ (let is = p.1 in let rest : map (λ (d : Entry). d.index) (own_in t es) ≡ range_with_len (c t + 1) (length (own_in t es)) = ap (drop 1) here in
                let counts : c t + 1 ≡ one_more t c t = omega (arith, more_at t c) in
                subst (λ (v : ℕ). map (λ (d : Entry). d.index) (own_in v es) ≡ range_with_len (one_more t c v) (length (own_in v es))) (sym is) (rest ∙ ap (λ (a : ℕ). range_with_len a (length (own_in t es))) counts))
            | inr p ↦ (let same = own_other u e es (λ h. p.1 (sym h)) in
                subst (λ (ds : List Entry). map (λ (d : Entry). d.index) ds ≡ range_with_len (one_more t c u) (length ds)) same (f.indices u lt ∙ ap (λ (a : ℕ). range_with_len a (length (own_in u (e ∷ es)))) (sym (more_other t u c p.1))))
          ];
          few = λ u lt. elim (eqb_tells u t) [
            | inl p ↦ (let is = p.1 in let at = more_at t c in subst (λ (v : ℕ). one_more t c v + length (own_in v es) ≤ m) (sym is) (omega (arith, at)))
            | inr p ↦ (let same = own_other u e es (λ h. p.1 (sym h)) in let count = more_other t u c p.1 in let size = ap length same in omega (arith, f.few u lt, count, size))
          ];
        },
      )

  counted : (c : ℕ → ℕ) (e : Entry) (es : List Entry) (u : ℕ) → one_more e.caller c u + length (own_in u es) ≡ c u + length (own_in u (e ∷ es))
  counted c e es u = elim (eqb_tells u e.caller) [
    | inl p ↦ (let is = p.1 in let size = ap length (own_first u e es (sym is)) in let at : one_more e.caller c u ≡ suc (c u) = subst (λ (v : ℕ). one_more v c u ≡ suc (c u)) is (more_at u c) in omega (arith, size, at))
    | inr p ↦ (let size = ap length (own_other u e es (λ h. p.1 (sym h))) in omega (arith, size, more_other e.caller u c p.1))
  ]

  -- what entries leave that follow
  walk : (c : ℕ → ℕ) (es : List Entry) → Follow n m c es → (s : Store) → Holds n c s → Holds n (λ u. c u + length (own_in u es)) (last_store s (map (script_of_entry (generated_plan n m)) es))
  walk c [] f s h = held_same n c (λ u. c u + length (own_in u [])) s (λ u lt. omega arith) h
  walk c (e ∷ es) f s h =
      let first = follow_first c e es f in
      let script = script_at n m e f.callers.0 (omega (arith, first.0, first.1)) ∙ ap (load_script e.caller) first.0 in
      let upto : (u : ℕ) → u < n → c u ≤ m = λ u lt. (let fits = f.few u lt in omega arith) in
      let next = goes_on n m few all c upto e.caller f.callers.0 s h in
      let on = walk (one_more e.caller c) es first.2 (run s (load_script e.caller (c e.caller))).0 next in
      let left = λ (scr : List Instr). last_store (run s scr).0 (map (script_of_entry (generated_plan n m)) es) in
      held_same n (λ u. one_more e.caller c u + length (own_in u es)) (λ u. c u + length (own_in u (e ∷ es))) (left (script_of_entry (generated_plan n m) e)) (λ u lt. counted c e es u)
      (subst (λ (scr : List Instr). Holds n (λ u. one_more e.caller c u + length (own_in u es)) (left scr)) (sym script) on)

  -- each entry is some caller's
  all_own : (es : List Entry) → Each (λ e. e.caller < n) es → total (λ u. length (own_in u es)) n ≡ length es
  all_own [] h = nothing n
    where
      nothing : (k : ℕ) → total (λ u. length (own_in u [])) k ≡ 0
      nothing zero = refl
      nothing (suc k) = omega (arith, nothing k)
  all_own (e ∷ es) h =
      omega (arith, all_own es h.1, total_raised (λ u. length (own_in u es)) (λ u. length (own_in u (e ∷ es))) e.caller 1 n h.0 (let size = ap length (own_first e.caller e es refl) in omega (arith, size)) (λ u ne. ap length (own_other u e es (λ h. ne (sym h)))))

  total_each : (f : ℕ → ℕ) (k : ℕ) → ((u : ℕ) → u < k → f u ≡ m) → total f k ≡ k * m
  total_each f zero h = omega arith
  total_each f (suc k) h = omega (arith, h k (omega arith), total_each f k (λ u lt. h u (omega (arith, lt))))

  module _ (r : Report) (legal : IsLegal (generated_plan n m) (empty_start (generated_plan n m)) r) where
    nothing_done : (u : ℕ) → u < n → finished_of (empty_start (generated_plan n m)) u ≡ 0
    nothing_done u lt = get_or-replicate n u 0 0 lt

    all_to_do : (u : ℕ) → u < n → scripts_left (generated_plan n m) (empty_start (generated_plan n m)) u ≡ m
    all_to_do u lt =
        let scripts : length (scripts_of (generated_plan n m) u) ≡ m = ap length (get_or-map-range_with_len (load_scripts m) 0 n u u [] lt (omega arith)) ∙ length-map-range_with_len (load_script u) 0 m in
        omega (arith, scripts, nothing_done u lt)

    answered : (state : EndState) (a es n seq limit : ℕ) → state ≡ done → HasOpenCall state a es → HasEndState state a n seq limit → es ≡ n
    answered done a es n seq limit is opened ended = opened ∙ ended
    answered stopped a es n seq limit is opened ended = absurd cc
    answered spent a es n seq limit is opened ended = absurd cc

    module _ (all_done : (u : ℕ) → u < n → (caller_line r u).state ≡ done) where
      each_done : (u : ℕ) → u < n → length (own_in u r.entries) ≡ m
      each_done u lt =
          let line = legal.open_calls in
          sym (line.entries u lt) ∙ answered (caller_line r u).state (caller_line r u).answered (caller_line r u).entries _ r.seq 4294967294 (all_done u lt)
          (line.open_call u no_line (omega (arith, line.each_caller, lt))) (legal.endings u lt) ∙ all_to_do u lt

      follows : Follow n m (λ u. 0) r.entries
      follows = record {
        callers = recursion_from_All (λ e. e.caller < n) r.entries legal.in_order.of_callers;
        indices = λ u lt. legal.in_order.one_by_one u lt ∙ ap (λ (a : ℕ). range_with_len a (length (own_in u r.entries))) (nothing_done u lt);
        few = λ u lt. omega (arith, each_done u lt);
      }

      pub one_store : Holds n (λ u. m) r.store
      one_store = subst (Holds n (λ u. m)) (sym legal.final_store)
          (held_same n (λ u. 0 + length (own_in u r.entries)) (λ u. m) _ (λ u lt. omega (arith, each_done u lt)) (walk (λ u. 0) r.entries follows (empty_store 512) (empty_holds n)))

      pub entries_count : length r.entries ≡ n * m
      entries_count = sym (all_own r.entries follows.callers) ∙ total_each (λ u. length (own_in u r.entries)) n each_done

not_stopped_is_done : (state : EndState) (a n seq : ℕ) → HasEndState state a n seq 4294967294 → (state ≡ stopped → ⊥) → seq ≤ 20000 → state ≡ done
not_stopped_is_done done a n seq ended on few = refl
not_stopped_is_done stopped a n seq ended on few = absurd (on refl)
not_stopped_is_done spent a n seq ended on few = absurd (omega (arith, ended.1, few))

same_text : (r q : Report) → length r.callers ≡ length q.callers → length r.entries ≡ length q.entries → r.store.registers ≡ q.store.registers → r.store.keys ≡ q.store.keys → load_text r ≡ load_text q
same_text r q callers entries registers keys = cc

module _ (n m : ℕ) (some : 1 ≤ n) (few : n ≤ 16) (all : n * m ≤ 20000) where
  abbrev p : Plan
  p = generated_plan n m

  plan : IsPlan p
  plan = generated_is_plan n m some few (each_within n m 20000 some all) all

  -- no sequence is wanting, so whoever isn't stopped is done
  pub done_if : (r : Report) → IsLegal p (empty_start p) r → (u : ℕ) → u < n → ((caller_line r u).state ≡ stopped → ⊥) → (caller_line r u).state ≡ done
  done_if r legal u lt on = not_stopped_is_done (caller_line r u).state (caller_line r u).answered _ r.seq (legal.endings u lt) on (seq_few p plan r legal)

  serial_goes_on : (answered scripts : ℕ) → (serial_line answered scripts).state ≡ stopped → ⊥
  serial_goes_on answered scripts = by (eqb answered scripts)
    where
      by : (b : Bool) → (if b then done else spent) ≡ stopped → ⊥
      by true e = absurd cc
      by false e = absurd cc

  serial_done : (u : ℕ) → u < n → (caller_line (serial_report p) u).state ≡ done
  serial_done u lt = done_if (serial_report p) (serial_legal p) u lt
      (λ e. serial_goes_on (count_by (λ (call : CallId). eqb call.0 u) (serial_calls p)) (length (scripts_of p u))
      (sym (ap (λ (l : Line). l.state) (get_or-map-range_with_len (λ c. serial_line (count_by (λ (call : CallId). eqb call.0 c) (serial_calls p)) (length (scripts_of p c))) 0 n u u no_line lt (omega arith))) ∙ e))

  pub one_text : (r : Report) → IsLegal p (empty_start p) r → ((u : ℕ) → u < n → (caller_line r u).state ≡ done) → load_text r ≡ load_text (serial_report p)
  one_text r legal all_done =
      let serial = serial_legal p in
      let same = one_load n (λ u. m) r.store (serial_report p).store (one_store n m few all r legal all_done) (one_store n m few all (serial_report p) serial serial_done) in
      same_text r (serial_report p) (legal.open_calls.each_caller ∙ sym serial.open_calls.each_caller)
      (entries_count n m few all r legal all_done ∙ sym (entries_count n m few all (serial_report p) serial serial_done)) same.0 same.1
