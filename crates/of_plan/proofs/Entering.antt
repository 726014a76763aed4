-- The reading takes an entry exactly where the grammar lets it come next.
use Rattle.std.proofs.Common.{◌≡◌, inl, inr, ℕ, ◌+◌, ◌<◌, ◌≤◌, Bool, true, false, cond, eqb, List, [], ◌∷◌, ◌++◌, length, get_or, set, is_some, Option, Some, None, refl, sym, ap, ◌∙◌, arith}
use Rattle.std.specs.List.{filter_map}
use Rattle.std.proofs.lemmas.Bool.{leb-false, lt-leb}
use Rattle.std.proofs.lemmas.Bool.Decides.{eqb_tells}
use Rattle.std.proofs.lemmas.List.FromFn.{get_or-map-range_with_len}
use Rattle.of_cell.specs.Cells.{durable_cells}
use Rattle.of_script.specs.declared.instr.Instr.{Instr}
use Rattle.of_script.proofs.Instrs.{some_is}
use Rattle.of_plan.specs.declared.plan.Item.TheVariants.{Turns as TurnsItem, Evict as EvictItem}
use Rattle.of_plan.specs.declared.parser.line.BodyLine.{BodyLine}
use Rattle.of_plan.specs.declared.parser.line.BodyLine.TheVariants.{Script, Stop, Turns, Evict}
use Rattle.of_plan.specs.declared.parser.line.PlanLine.TheVariants.{Body}
use Rattle.of_plan.specs.declared.parser.state.Stage.{Stage}
use Rattle.of_plan.specs.Plan.{data_cells}
use Rattle.of_plan.specs.Grammar.{Heading, AreEntries, stop_at, head_of, stop_in}
use Rattle.of_plan.specs.LineReading.{IsLineInRange}
use Rattle.of_plan.specs.Reading.{Reading, with_entry}
use Rattle.of_plan.proofs.Entries.{after, after_script, after_stop, after_item, Adds, stop_same}

-- a script goes to its caller
pub script_entered : (p : Reading) (scripts : List (List (List Instr))) (c : ℕ) (script : List Instr) → c < p.callers → p.count < 20000 → scripts ≡ set p.scripts c (get_or p.scripts c [] ++ script ∷ []) → with_entry p (Script c script) ≡ Some (record p { scripts = scripts; count = p.count + 1 })
script_entered p scripts c script lt few is =
    let one = lt-leb p.callers c lt in
    let two = lt-leb 20000 p.count few in
    rw (one, two) (ap (λ (ss : List (List (List Instr))). Some (record p { scripts = ss; count = p.count + 1 })) (sym is))

-- ---- what is taken may come next

-- where a test refuses, nothing is taken
passed : (b : Bool) (o : Option Reading) (q : Reading) → cond b None o ≡ Some q → (b ≡ false) × (o ≡ Some q)
passed true o q e = absurd cc
passed false o q e = (refl, e)

none_first : (xs : List ℕ) → is_some (head_of xs) ≡ false → xs ≡ []
none_first [] e = refl
none_first (x ∷ xs) e = absurd cc

-- no stop of this caller stands among the entries
no_stop : (stage : Stage) (h : Heading) (es : List BodyLine) (d : ℕ) → d < h.callers → is_some (get_or (after stage h es).stops d None) ≡ false → filter_map (stop_at d) es ≡ []
no_stop stage h es d lt e =
    let at : get_or (after stage h es).stops d None ≡ stop_in es d = get_or-map-range_with_len (stop_in es) 0 h.callers d d None lt (omega arith) in
    none_first (filter_map (stop_at d) es) (ap is_some (sym at) ∙ e)

-- a stop of a caller without one is the only one
only_stop : (h : Heading) (es : List BodyLine) (d x : ℕ) → AreEntries h es → filter_map (stop_at d) es ≡ [] → (c : ℕ) → length (filter_map (stop_at c) es) + length (filter_map (stop_at c) (Stop d x ∷ [])) ≤ 1
only_stop h es d x a none c = elim (eqb_tells d c) [
  | inl p ↦ (let here : length (filter_map (stop_at c) es) ≡ 0 = ap (λ (k : ℕ). length (filter_map (stop_at k) es)) (sym p.1) ∙ ap length none in rw p.0 (omega (arith, here)))
  | inr p ↦ rw p.0 (omega (arith, a.one_stop c))
]

pub record Taken (stage : Stage) (h : Heading) (es : List BodyLine) (e : BodyLine) (q : Reading) : Type 0 where
  pub adds : Adds h es e
  pub leads : after stage h (es ++ e ∷ []) ≡ q

pub taken : (stage : Stage) (h : Heading) (es : List BodyLine) (e : BodyLine) (q : Reading) → AreEntries h es → IsLineInRange (Body e) → with_entry (after stage h es) e ≡ Some q → Taken stage h es e q
taken stage h es (Script d s) q a r e =
    let one = passed _ _ q e in
    let two = passed _ _ q one.1 in
    let lt = leb-false h.callers d one.0 in
    let few = leb-false 20000 (after stage h es).count two.0 in
    record {
      adds = record { range = (lt, r.1); scripts = omega arith; turns = omega (arith, a.few_turns); stops = λ c. omega (arith, a.one_stop c) };
      leads = after_script stage h es d s lt ∙ some_is _ _ two.1;
    }
taken stage h es (Stop d x) q a r e =
    let one = passed _ _ q e in
    let two = passed _ _ q one.1 in
    let lt = leb-false h.callers d one.0 in
    let none = no_stop stage h es d lt two.0 in
    record {
      adds = record { range = (lt, r.1); scripts = omega (arith, a.few_scripts); turns = omega (arith, a.few_turns); stops = only_stop h es d x a none };
      leads = after_stop stage h es d x lt none ∙ some_is _ _ two.1;
    }
taken stage h es (Turns d x) q a r e =
    let one = passed _ _ q e in
    let two = passed _ _ q one.1 in
    let three = passed _ _ q two.1 in
    let lt = leb-false h.callers d one.0 in
    let some : 1 ≤ x = elim (eqb_tells x 0) [ inl p ↦ absurd (let k = sym p.0 ∙ two.0 in cc) | inr p ↦ (let ne = p.1 in omega arith) ] in
    let few : (after stage h es).turns + x ≤ 10000000 = omega (arith, leb-false (10000000 + 1) ((after stage h es).turns + x) three.0) in
    record {
      adds = record { range = (lt, some); scripts = omega (arith, a.few_scripts); turns = omega arith; stops = λ c. omega (arith, a.one_stop c) };
      leads = after_item stage h es (Turns d x) (TurnsItem d x) _ refl (λ c. refl) (λ c. refl) refl refl ∙ some_is _ _ three.1;
    }
taken stage h es (Evict c) q a r e =
    let one = passed _ _ q e in
    let lt = leb-false (durable_cells h.callers (data_cells h.callers h.blocks)) c one.0 in
    record {
      adds = record { range = lt; scripts = omega (arith, a.few_scripts); turns = omega (arith, a.few_turns); stops = λ k. omega (arith, a.one_stop k) };
      leads = after_item stage h es (Evict c) (EvictItem c) (after stage h es).turns refl (λ k. refl) (λ k. refl) refl (omega arith) ∙ some_is _ _ one.1;
    }

-- ---- what may come next is taken

empty_stop : (xs : List ℕ) → length xs ≡ 0 → xs ≡ []
empty_stop [] e = refl
empty_stop (x ∷ xs) e = absurd (omega arith)

pub enters : (stage : Stage) (h : Heading) (es : List BodyLine) (e : BodyLine) → Adds h es e → with_entry (after stage h es) e ≡ Some (after stage h (es ++ e ∷ []))
enters stage h es (Script d s) k =
    let one = lt-leb h.callers d k.range.0 in
    let two = lt-leb 20000 (after stage h es).count (omega (arith, k.scripts)) in
    rw (one, two) (ap (λ (p : Reading). Some p) (sym (after_script stage h es d s k.range.0)))
enters stage h es (Stop d x) k =
    let own : length (filter_map (stop_at d) (Stop d x ∷ [])) ≡ 1 = rw (stop_same d x) refl in
    let none = empty_stop (filter_map (stop_at d) es) (omega (arith, k.stops d, own)) in
    let one = lt-leb h.callers d k.range.0 in
    let two : is_some (get_or (after stage h es).stops d None) ≡ false = ap is_some (get_or-map-range_with_len (stop_in es) 0 h.callers d d None k.range.0 (omega arith) ∙ ap head_of none) in
    rw (one, two) (ap (λ (p : Reading). Some p) (sym (after_stop stage h es d x k.range.0 none)))
enters stage h es (Turns d x) k =
    let one = lt-leb h.callers d k.range.0 in
    let two : eqb x 0 ≡ false = elim (eqb_tells x 0) [ inl p ↦ absurd (let z = p.1 in omega (arith, k.range.1)) | inr p ↦ p.0 ] in
    let three = lt-leb (10000000 + 1) ((after stage h es).turns + x) (omega (arith, k.turns)) in
    rw (one, two, three) (ap (λ (p : Reading). Some p) (sym (after_item stage h es (Turns d x) (TurnsItem d x) _ refl (λ c. refl) (λ c. refl) refl refl)))
enters stage h es (Evict a) k =
    let one = lt-leb (durable_cells h.callers (data_cells h.callers h.blocks)) a k.range in
    rw one (ap (λ (p : Reading). Some p) (sym (after_item stage h es (Evict a) (EvictItem a) (after stage h es).turns refl (λ c. refl) (λ c. refl) refl (omega arith))))
