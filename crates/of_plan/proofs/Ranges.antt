-- The plan of a heading and entries that fit keeps the ranges of plans.
use Rattle.std.proofs.Common.{◌≡◌, ◌≢◌, inl, inr, ℕ, zero, suc, ◌+◌, ◌≤◌, true, eqb, List, [], ◌∷◌, length, map, IfSome, Option, Some, None, refl, sym, subst, arith}
use Rattle.std.specs.Option.{unwrap_or}
use Rattle.std.specs.List.{AllByRecursion, range_with_len, sum_by, filter_map}
use Rattle.std.proofs.lemmas.List.Sums.{sum_by-cons}
use Rattle.std.proofs.lemmas.Bool.Decides.{eqb_tells}
use Rattle.std.proofs.lemmas.List.FromFn.{length-map-range_with_len}
use Rattle.std.proofs.lemmas.Bool.{ne_eqb as eqb_no}
use Rattle.of_script.specs.declared.instr.Instr.{Instr}
use Rattle.of_script.specs.Language.{IsScript}
use Rattle.of_plan.specs.declared.parser.line.BodyLine.{BodyLine}
use Rattle.of_plan.specs.declared.parser.line.BodyLine.TheVariants.{Script, Stop, Turns, Evict}
use Rattle.of_plan.specs.Plan.{Plan, IsPlan, IsScheduleItem}
use Rattle.of_plan.specs.Grammar.{Heading, IsHeading, IsEntryInRange, AreEntries, SpellsPlan, plan_of, item_of, is_script, scripts_in, stop_in}
use Rattle.of_plan.proofs.Lists.{all_below}

limit_fits : (o : Option ℕ) → IfSome o (λ x. (1 ≤ x) × (x ≤ 4294967294)) → (1 ≤ unwrap_or o 4294967294) × (unwrap_or o 4294967294 ≤ 4294967294)
limit_fits None h = (omega arith, omega arith)
limit_fits (Some x) h = h

scripts_fit : (h : Heading) (c : ℕ) (es : List BodyLine) → AllByRecursion (IsEntryInRange h) es → AllByRecursion IsScript (scripts_in es c)
scripts_fit h c [] r = tt
scripts_fit h c (Script d s ∷ es) r = elim (eqb_tells d c) [ inl p ↦ rw p.0 (r.0.1, scripts_fit h c es r.1) | inr p ↦ rw p.0 (scripts_fit h c es r.1) ]
scripts_fit h c (Stop d x ∷ es) r = scripts_fit h c es r.1
scripts_fit h c (Turns d x ∷ es) r = scripts_fit h c es r.1
scripts_fit h c (Evict a ∷ es) r = scripts_fit h c es r.1

stop_fits : (h : Heading) (c : ℕ) (es : List BodyLine) → AllByRecursion (IsEntryInRange h) es → IfSome (stop_in es c) (λ x. x ≤ 4294967295)
stop_fits h c [] r = tt
stop_fits h c (Script d s ∷ es) r = stop_fits h c es r.1
stop_fits h c (Stop d x ∷ es) r = elim (eqb_tells d c) [ inl p ↦ rw p.0 r.0.1 | inr p ↦ rw p.0 (stop_fits h c es r.1) ]
stop_fits h c (Turns d x ∷ es) r = stop_fits h c es r.1
stop_fits h c (Evict a ∷ es) r = stop_fits h c es r.1

items_fit : (h : Heading) (all es : List BodyLine) → AllByRecursion (IsEntryInRange h) es → AllByRecursion (IsScheduleItem (plan_of h all)) (filter_map item_of es)
items_fit h all [] r = tt
items_fit h all (Script d s ∷ es) r = items_fit h all es r.1
items_fit h all (Stop d x ∷ es) r = items_fit h all es r.1
items_fit h all (Turns d x ∷ es) r = (r.0, items_fit h all es r.1)
items_fit h all (Evict a ∷ es) r = (r.0, items_fit h all es r.1)

-- ---- each script entry goes to one caller at most

first : (f : ℕ → List (List Instr)) (k n : ℕ) → sum_by length (map f (range_with_len k (suc n))) ≡ length (f k) + sum_by length (map f (range_with_len (k + 1) n))
first f k n = sum_by-cons length (f k) (map f (range_with_len (k + 1) n))

no_more : (f g : ℕ → List (List Instr)) (k n : ℕ) → ((c : ℕ) → k ≤ c → length (g c) ≡ length (f c)) → sum_by length (map g (range_with_len k n)) ≡ sum_by length (map f (range_with_len k n))
no_more f g k zero h = refl
no_more f g k (suc n) h = omega (arith, first g k n, first f k n, h k (omega arith), no_more f g (k + 1) n (λ c le. h c (omega arith)))

one_more : (f g : ℕ → List (List Instr)) (d k n : ℕ) → ((c : ℕ) → c ≢ d → length (g c) ≡ length (f c)) → length (g d) ≡ length (f d) + 1 → sum_by length (map g (range_with_len k n)) ≤ sum_by length (map f (range_with_len k n)) + 1
one_more f g d k zero other own = omega arith
one_more f g d k (suc n) other own = elim (eqb_tells k d) [
  | inl p ↦ (let here : length (g k) ≡ length (f k) + 1 = subst (λ (c : ℕ). length (g c) ≡ length (f c) + 1) (sym p.1) own in
      omega (arith, first g k n, first f k n, here, no_more f g (k + 1) n (λ c le. other c (λ e. let at = p.1 in omega (arith, e, at)))))
  | inr p ↦ omega (arith, first g k n, first f k n, other k p.1, one_more f g d (k + 1) n other own)
]

none_below : (k n : ℕ) → sum_by length (map (scripts_in []) (range_with_len k n)) ≡ 0
none_below k zero = refl
none_below k (suc n) = none_below (k + 1) n

eqb_yes : (a : ℕ) → eqb a a ≡ true
eqb_yes a = elim (eqb_tells a a) [ inl p ↦ p.0 | inr p ↦ absurd (p.1 refl) ]

scripts_few : (n : ℕ) (es : List BodyLine) → sum_by length (map (scripts_in es) (range_with_len 0 n)) ≤ sum_by is_script es
scripts_few n [] = omega (arith, none_below 0 n)
scripts_few n (Script d s ∷ es) =
    omega (
      arith,
      sum_by-cons is_script (Script d s) es,
      scripts_few n es,
      one_more (scripts_in es) (scripts_in (Script d s ∷ es)) d 0 n
          (λ c ne. let no = eqb_no d c (λ e. ne (sym e)) in rw no refl)
          (let yes = eqb_yes d in rw yes (omega arith)),
    )
scripts_few n (Stop d x ∷ es) = omega (arith, sum_by-cons is_script (Stop d x) es, scripts_few n es)
scripts_few n (Turns d x ∷ es) = omega (arith, sum_by-cons is_script (Turns d x) es, scripts_few n es)
scripts_few n (Evict a ∷ es) = omega (arith, sum_by-cons is_script (Evict a) es, scripts_few n es)

pub plan_fits : (h : Heading) (es : List BodyLine) → IsHeading h → AreEntries h es → IsPlan (plan_of h es)
plan_fits h es k a = record {
  some_callers = k.some_callers;
  few_callers = k.few_callers;
  few_blocks = k.few_blocks;
  some_limit = (limit_fits h.limit k.limit_range).0;
  limit_range = (limit_fits h.limit k.limit_range).1;
  each_caller = length-map-range_with_len (scripts_in es) 0 h.callers;
  each_script = all_below (AllByRecursion IsScript) (scripts_in es) 0 h.callers (λ c. scripts_fit h c es a.in_range);
  few_scripts = omega (arith, scripts_few h.callers es, a.few_scripts);
  each_stop = length-map-range_with_len (stop_in es) 0 h.callers;
  stop_range = all_below (λ o. IfSome o (λ x. x ≤ 4294967295)) (stop_in es) 0 h.callers (λ c. stop_fits h c es a.in_range);
  each_item = items_fit h es es a.in_range;
  few_turns = a.few_turns;
}

pub spelled_is_plan : (text : List ℕ) (plan : Plan) → SpellsPlan text plan → IsPlan plan
spelled_is_plan text plan s = subst IsPlan (sym s.is) (plan_fits s.heading s.entries s.heading_fits s.entries_fit)
