-- The calls of a plan, caller by caller: those of one caller among the first of them are its first scripts in order.
use Rattle.std.proofs.Common.{◌≡◌, ◌≢◌, ℕ, zero, suc, ◌+◌, ◌<◌, ◌≤◌, ◌⊎◌, inl, inr, cond, eqb, List, [], ◌∷◌, ◌++◌, length, map, take, drop, refl, sym, ap, subst, ◌∙◌, arith, length-append, length-take-le}
use Rattle.std.specs.Prelude.{filter, flat_map, All}
use Rattle.std.specs.List.{range_with_len, AllByRecursion}
use Rattle.std.proofs.Math.Seq.{take-append_seam}
use Rattle.std.proofs.lemmas.List.{take-append-drop, take_all, length-map, append-nil}
use Rattle.std.proofs.lemmas.List.Elements.{filter-append, All-nil, All-append, All-take, All-from_recursion}
use Rattle.std.proofs.lemmas.List.FromFn.{take-map-range_with_len, length-range_with_len}
use Rattle.std.proofs.lemmas.Bool.Decides.{eqb_tells}
use Rattle.of_plan.specs.Plan.{Plan, scripts_of}
use Rattle.of_plan.specs.Serial.{CallId, calls_of, all_calls, serial_calls}

-- the calls of a caller among others
abbrev pub of_caller : ℕ → List CallId → List CallId
of_caller c calls = filter (λ call. eqb call.0 c) calls

own_calls : (c : ℕ) (is : List ℕ) → of_caller c (map (λ i. (c, i)) is) ≡ map (λ i. (c, i)) is
own_calls c [] = refl
own_calls c (i ∷ is) = elim (eqb_tells c c) [
  | inl same ↦ ap (λ b. cond b ((c, i) ∷ of_caller c (map (λ i. (c, i)) is)) (of_caller c (map (λ i. (c, i)) is))) same.0 ∙ ap (λ (t : List CallId). (c, i) ∷ t) (own_calls c is)
  | inr other ↦ absurd (other.1 refl)
]

other_calls : (c d : ℕ) (is : List ℕ) → d ≢ c → of_caller c (map (λ i. (d, i)) is) ≡ []
other_calls c d [] ne = refl
other_calls c d (i ∷ is) ne = elim (eqb_tells d c) [
  | inl same ↦ absurd (ne same.1)
  | inr other ↦ ap (λ b. cond b ((d, i) ∷ of_caller c (map (λ i. (d, i)) is)) (of_caller c (map (λ i. (d, i)) is))) other.0 ∙ other_calls c d is ne
]

later_callers : (p : Plan) (c a n : ℕ) → c < a → of_caller c (flat_map (calls_of p) (range_with_len a n)) ≡ []
later_callers p c a zero lt = refl
later_callers p c a (suc n) lt =
    filter-append (λ (call : CallId). eqb call.0 c) (calls_of p a) (flat_map (calls_of p) (range_with_len (a + 1) n))
    ∙ ap (λ (t : List CallId). t ++ of_caller c (flat_map (calls_of p) (range_with_len (a + 1) n))) (other_calls c a (range_with_len 0 (length (scripts_of p a))) (λ e. absurd (omega arith)))
    ∙ later_callers p c (a + 1) n (omega arith)

calls_among : (p : Plan) (c a n : ℕ) → a ≤ c → c < a + n → of_caller c (flat_map (calls_of p) (range_with_len a n)) ≡ calls_of p c
calls_among p c a zero le lt = absurd (omega arith)
calls_among p c a (suc n) le lt =
    filter-append (λ (call : CallId). eqb call.0 c) (calls_of p a) (flat_map (calls_of p) (range_with_len (a + 1) n))
    ∙ elim (eqb_tells a c) [
      | inl same ↦
          let mine : of_caller c (calls_of p a) ≡ calls_of p c =
          let P : ℕ → Type 0 = λ d. of_caller c (calls_of p d) ≡ calls_of p c in subst P (sym same.1) (own_calls c (range_with_len 0 (length (scripts_of p c)))) in
          ap (λ (t : List CallId). t ++ of_caller c (flat_map (calls_of p) (range_with_len (a + 1) n))) mine
          ∙ ap (λ (t : List CallId). calls_of p c ++ t) (later_callers p c (a + 1) n (omega arith)) ∙ append-nil (calls_of p c)
      | inr other ↦ ap (λ (t : List CallId). t ++ of_caller c (flat_map (calls_of p) (range_with_len (a + 1) n))) (other_calls c a (range_with_len 0 (length (scripts_of p a))) other.1) ∙ calls_among p c (a + 1) n (omega (arith, other.1)) (omega arith)
    ]

-- all calls of a caller are its scripts in order
pub calls_of_caller : (p : Plan) (c : ℕ) → c < p.callers → of_caller c (all_calls p) ≡ calls_of p c
calls_of_caller p c lt = calls_among p c 0 p.callers (omega arith) (omega arith)

-- a front of a list, filtered, is a front of the filtered list
filter-take : {X : Type 0} (test : X → _) (k : ℕ) (xs : List X) → take (length (filter test (take k xs))) (filter test xs) ≡ filter test (take k xs)
filter-take test k xs =
    ap (λ t. take (length (filter test (take k xs))) (filter test t)) (sym (take-append-drop k xs))
    ∙ ap (take (length (filter test (take k xs)))) (filter-append test (take k xs) (drop k xs))
    ∙ take-append_seam (filter test (take k xs)) (filter test (drop k xs))

length-filter-take : {X : Type 0} (test : X → _) (k : ℕ) (xs : List X) → length (filter test (take k xs)) ≤ length (filter test xs)
length-filter-take test k xs =
    let e = ap (λ t. length (filter test t)) (sym (take-append-drop k xs)) ∙ ap length (filter-append test (take k xs) (drop k xs)) in
    omega (arith, e, length-append (filter test (take k xs)) (filter test (drop k xs)))

length-calls_of : (p : Plan) (c : ℕ) → length (calls_of p c) ≡ length (scripts_of p c)
length-calls_of p c = length-map (range_with_len 0 (length (scripts_of p c))) (λ i. (c, i)) ∙ length-range_with_len 0 (length (scripts_of p c))

-- no more calls of a caller than scripts
pub few_calls : (p : Plan) (c : ℕ) → c < p.callers → length (of_caller c (serial_calls p)) ≤ length (scripts_of p c)
few_calls p c lt = omega (arith, length-filter-take (λ (call : CallId). eqb call.0 c) p.limit (all_calls p), ap length (calls_of_caller p c lt), length-calls_of p c)

indices : (c : ℕ) (is : List ℕ) → map (λ (call : CallId). call.1) (map (λ i. (c, i)) is) ≡ is
indices c [] = refl
indices c (i ∷ is) = ap (λ (t : List ℕ). i ∷ t) (indices c is)

-- the indices of a caller's calls count up from 0
pub indices_of_caller : (p : Plan) (c : ℕ) → c < p.callers → map (λ (call : CallId). call.1) (of_caller c (serial_calls p)) ≡ range_with_len 0 (length (of_caller c (serial_calls p)))
indices_of_caller p c lt =
    let m = length (of_caller c (serial_calls p)) in
    let front = sym (filter-take (λ (call : CallId). eqb call.0 c) p.limit (all_calls p)) ∙ ap (take m) (calls_of_caller p c lt) ∙ take-map-range_with_len (λ i. (c, i)) 0 (length (scripts_of p c)) m (few_calls p c lt) in
    ap (map (λ (call : CallId). call.1)) front ∙ indices c (range_with_len 0 m)

le_or_more : (a b : ℕ) → (a ≤ b) ⊎ (b ≤ a)
le_or_more a b = grind arith

-- where a caller has a script left, the limit is reached
pub limit_reached : (p : Plan) (c : ℕ) → c < p.callers → length (of_caller c (serial_calls p)) < length (scripts_of p c) → length (serial_calls p) ≡ p.limit
limit_reached p c lt left = elim (le_or_more p.limit (length (all_calls p))) [
  | inl few ↦ length-take-le p.limit (all_calls p) few
  | inr all ↦
      let whole = ap (of_caller c) (take_all p.limit (all_calls p) all) ∙ calls_of_caller p c lt in
      absurd (omega (arith, ap length whole, length-calls_of p c))
]

own_callers : (c : ℕ) (is : List ℕ) (n : ℕ) → c < n → AllByRecursion (λ (call : CallId). call.0 < n) (map (λ i. (c, i)) is)
own_callers c [] n lt = tt
own_callers c (i ∷ is) n lt = (lt, own_callers c is n lt)

callers_among : (p : Plan) (a m n : ℕ) → a + m ≤ n → All (λ (call : CallId). call.0 < n) (flat_map (calls_of p) (range_with_len a m))
callers_among p a zero n le = All-nil (λ (call : CallId). call.0 < n)
callers_among p a (suc m) n le =
    let own = All-from_recursion (λ (call : CallId). call.0 < n) (calls_of p a) (own_callers a (range_with_len 0 (length (scripts_of p a))) n (omega arith)) in
    All-append (λ (call : CallId). call.0 < n) (calls_of p a) (flat_map (calls_of p) (range_with_len (a + 1) m)) own (callers_among p (a + 1) m n (omega arith))

-- each call is of a caller of the plan
pub callers_known : (p : Plan) → All (λ (call : CallId). call.0 < p.callers) (serial_calls p)
callers_known p = All-take (λ (call : CallId). call.0 < p.callers) p.limit (all_calls p) (callers_among p 0 p.callers p.callers (omega arith))
