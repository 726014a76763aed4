-- What is printed of a plan is read again: its entries fit, and their plan is the plan.
use Rattle.std.proofs.Common.{◌≡◌, ◌≢◌, ℕ, zero, suc, ◌+◌, ◌<◌, ◌≤◌, List, [], ◌∷◌, ◌++◌, length, get_or, map, IfSome, option_to_list, Option, Some, None, refl, sym, ap, ◌∙◌, arith}
use Rattle.std.specs.List.{AllByRecursion, range_with_len, sum_by, filter_map, cons_option}
use Rattle.std.proofs.lemmas.List.{append-nil}
use Rattle.std.proofs.lemmas.List.Elements.{filter_map-append}
use Rattle.std.proofs.lemmas.List.FromFn.{fill_by_all}
use Rattle.std.proofs.lemmas.List.Sums.{sum_by-append, sum_by-cons}
use Rattle.of_script.specs.declared.instr.Instr.{Instr}
use Rattle.of_script.specs.Language.{IsScript}
use Rattle.of_plan.specs.declared.plan.Item.{Item}
use Rattle.of_plan.specs.declared.plan.Item.TheVariants.{Turns as TurnsItem, Evict as EvictItem}
use Rattle.of_plan.specs.declared.parser.line.BodyLine.{BodyLine}
use Rattle.of_plan.specs.declared.parser.line.BodyLine.TheVariants.{Script, Stop, Turns, Evict}
use Rattle.of_plan.specs.Plan.{Plan, IsPlan, IsScheduleItem, turns_of}
use Rattle.of_plan.specs.Grammar.{Heading, IsHeading, IsEntryInRange, AreEntries, SpellsPlan, plan_lines, plan_of, script_in_entry, stop_at, item_of, is_script, head_of, scripts_in, stop_in}
use Rattle.of_plan.specs.PlanText.{caller_entries, script_entries, stop_entries, item_entry, printed_heading, printed_entries, plan_text}
use Rattle.of_plan.proofs.Lists.{all-both}
use Rattle.of_plan.proofs.Entries.{script_same, script_other, stop_same, stop_other}
use Rattle.of_plan.proofs.Following.{lines_range}
use Rattle.of_plan.proofs.PrintedLines.{printed_lines}

-- ---- filters of what is printed

keep_none : {X : Type 0} (f : BodyLine → Option X) (e : BodyLine) (es : List BodyLine) → f e ≡ None → filter_map f (e ∷ es) ≡ filter_map f es
keep_none f e es h = ap (λ (o : Option _). cons_option o (filter_map f es)) h

keep_some : {X : Type 0} (f : BodyLine → Option X) (e : BodyLine) (x : X) (es : List BodyLine) → f e ≡ Some x → filter_map f (e ∷ es) ≡ x ∷ filter_map f es
keep_some f e x es h = ap (λ (o : Option _). cons_option o (filter_map f es)) h

own_scripts : (c : ℕ) (ss : List (List Instr)) → filter_map (script_in_entry c) (caller_entries c ss) ≡ ss
own_scripts c [] = refl
own_scripts c (s ∷ ss) = keep_some (script_in_entry c) (Script c s) s (caller_entries c ss) (script_same c s) ∙ ap (λ (l : List (List Instr)). s ∷ l) (own_scripts c ss)

other_scripts : (c d : ℕ) (ss : List (List Instr)) → c ≢ d → filter_map (script_in_entry c) (caller_entries d ss) ≡ []
other_scripts c d [] ne = refl
other_scripts c d (s ∷ ss) ne = keep_none (script_in_entry c) (Script d s) (caller_entries d ss) (script_other c d s ne) ∙ other_scripts c d ss ne

later_scripts : (c k : ℕ) (xs : List (List (List Instr))) → c < k → filter_map (script_in_entry c) (script_entries k xs) ≡ []
later_scripts c k [] lt = refl
later_scripts c k (ss ∷ xs) lt =
    filter_map-append (script_in_entry c) (caller_entries k ss) (script_entries (k + 1) xs)
    ∙ ap (λ (l : List (List Instr)). l ++ filter_map (script_in_entry c) (script_entries (k + 1) xs)) (other_scripts c k ss (λ e. omega arith))
    ∙ later_scripts c (k + 1) xs (omega arith)

scripts_back : (c k i : ℕ) (xs : List (List (List Instr))) → k + i ≡ c → filter_map (script_in_entry c) (script_entries k xs) ≡ get_or xs i []
scripts_back c k i [] e = refl
scripts_back c k zero (ss ∷ xs) e =
    let same : c ≡ k = omega arith in
    filter_map-append (script_in_entry c) (caller_entries k ss) (script_entries (k + 1) xs)
    ∙ ap (λ (l : List (List Instr)). l ++ filter_map (script_in_entry c) (script_entries (k + 1) xs)) (ap (λ (d : ℕ). filter_map (script_in_entry c) (caller_entries d ss)) (sym same) ∙ own_scripts c ss)
    ∙ ap (λ (l : List (List Instr)). ss ++ l) (later_scripts c (k + 1) xs (omega arith))
    ∙ append-nil ss
scripts_back c k (suc i) (ss ∷ xs) e =
    filter_map-append (script_in_entry c) (caller_entries k ss) (script_entries (k + 1) xs)
    ∙ ap (λ (l : List (List Instr)). l ++ filter_map (script_in_entry c) (script_entries (k + 1) xs)) (other_scripts c k ss (λ q. omega arith))
    ∙ scripts_back c (k + 1) i xs (omega arith)

later_stops : (c k : ℕ) (xs : List (Option ℕ)) → c < k → filter_map (stop_at c) (stop_entries k xs) ≡ []
later_stops c k [] lt = refl
later_stops c k (None ∷ xs) lt = later_stops c (k + 1) xs (omega arith)
later_stops c k (Some x ∷ xs) lt = keep_none (stop_at c) (Stop k x) (stop_entries (k + 1) xs) (stop_other c k x (λ e. omega arith)) ∙ later_stops c (k + 1) xs (omega arith)

stops_back : (c k i : ℕ) (xs : List (Option ℕ)) → k + i ≡ c → filter_map (stop_at c) (stop_entries k xs) ≡ option_to_list (get_or xs i None)
stops_back c k i [] e = refl
stops_back c k zero (None ∷ xs) e = later_stops c (k + 1) xs (omega arith)
stops_back c k zero (Some x ∷ xs) e =
    let same : c ≡ k = omega arith in
    keep_some (stop_at c) (Stop k x) x (stop_entries (k + 1) xs) (ap (λ (d : ℕ). stop_at c (Stop d x)) (sym same) ∙ stop_same c x)
    ∙ ap (λ (l : List ℕ). x ∷ l) (later_stops c (k + 1) xs (omega arith))
stops_back c k (suc i) (None ∷ xs) e = stops_back c (k + 1) i xs (omega arith)
stops_back c k (suc i) (Some x ∷ xs) e =
    keep_none (stop_at c) (Stop k x) (stop_entries (k + 1) xs) (stop_other c k x (λ q. omega arith)) ∙ stops_back c (k + 1) i xs (omega arith)

items_back : (items : List Item) → filter_map item_of (map item_entry items) ≡ items
items_back [] = refl
items_back (TurnsItem c x ∷ items) = ap (λ (l : List Item). TurnsItem c x ∷ l) (items_back items)
items_back (EvictItem a ∷ items) = ap (λ (l : List Item). EvictItem a ∷ l) (items_back items)

-- what no entry of a list gives
nothing_of : {X : Type 0} (f : BodyLine → Option X) (ss : List (List Instr)) (c : ℕ) → ((s : List Instr) → f (Script c s) ≡ None) → filter_map f (caller_entries c ss) ≡ []
nothing_of f [] c h = refl
nothing_of f (s ∷ ss) c h = keep_none f (Script c s) (caller_entries c ss) (h s) ∙ nothing_of f ss c h

no_scripts_of : {X : Type 0} (f : BodyLine → Option X) (k : ℕ) (xs : List (List (List Instr))) → ((c : ℕ) (s : List Instr) → f (Script c s) ≡ None) → filter_map f (script_entries k xs) ≡ []
no_scripts_of f k [] h = refl
no_scripts_of f k (ss ∷ xs) h =
    filter_map-append f (caller_entries k ss) (script_entries (k + 1) xs)
    ∙ ap (λ (l : List _). l ++ filter_map f (script_entries (k + 1) xs)) (nothing_of f ss k (h k)) ∙ no_scripts_of f (k + 1) xs h

no_stops_of : {X : Type 0} (f : BodyLine → Option X) (k : ℕ) (xs : List (Option ℕ)) → ((c x : ℕ) → f (Stop c x) ≡ None) → filter_map f (stop_entries k xs) ≡ []
no_stops_of f k [] h = refl
no_stops_of f k (None ∷ xs) h = no_stops_of f (k + 1) xs h
no_stops_of f k (Some x ∷ xs) h = keep_none f (Stop k x) (stop_entries (k + 1) xs) (h k x) ∙ no_stops_of f (k + 1) xs h

no_items_of : {X : Type 0} (f : BodyLine → Option X) (items : List Item) → ((item : Item) → f (item_entry item) ≡ None) → filter_map f (map item_entry items) ≡ []
no_items_of f [] h = refl
no_items_of f (item ∷ items) h = keep_none f (item_entry item) (map item_entry items) (h item) ∙ no_items_of f items h

no_script_item : (c : ℕ) (item : Item) → script_in_entry c (item_entry item) ≡ None
no_script_item c (TurnsItem d x) = refl
no_script_item c (EvictItem a) = refl

no_stop_item : (c : ℕ) (item : Item) → stop_at c (item_entry item) ≡ None
no_stop_item c (TurnsItem d x) = refl
no_stop_item c (EvictItem a) = refl

-- the three parts of what is printed
parts : {X : Type 0} (f : BodyLine → Option X) (p : Plan) (xs ys zs : List X) → filter_map f (script_entries 0 p.scripts) ≡ xs → filter_map f (stop_entries 0 p.stops) ≡ ys → filter_map f (map item_entry p.schedule) ≡ zs → filter_map f (printed_entries p) ≡ xs ++ (ys ++ zs)
parts f p xs ys zs a b c =
    filter_map-append f (script_entries 0 p.scripts) (stop_entries 0 p.stops ++ map item_entry p.schedule)
    ∙ ap (λ (l : List _). l ++ filter_map f (stop_entries 0 p.stops ++ map item_entry p.schedule)) a
    ∙ ap (λ (l : List _). xs ++ l) (filter_map-append f (stop_entries 0 p.stops) (map item_entry p.schedule) ∙ ap (λ (l : List _). l ++ filter_map f (map item_entry p.schedule)) b ∙ ap (λ (l : List _). ys ++ l) c)

printed_scripts : (p : Plan) (c : ℕ) → scripts_in (printed_entries p) c ≡ get_or p.scripts c []
printed_scripts p c =
    parts (script_in_entry c) p (get_or p.scripts c []) [] [] (scripts_back c 0 c p.scripts (omega arith)) (no_stops_of (script_in_entry c) 0 p.stops (λ d x. refl)) (no_items_of (script_in_entry c) p.schedule (no_script_item c))
    ∙ append-nil (get_or p.scripts c [])

printed_stops : (p : Plan) (c : ℕ) → filter_map (stop_at c) (printed_entries p) ≡ option_to_list (get_or p.stops c None)
printed_stops p c =
    parts (stop_at c) p [] (option_to_list (get_or p.stops c None)) [] (no_scripts_of (stop_at c) 0 p.scripts (λ d s. refl)) (stops_back c 0 c p.stops (omega arith)) (no_items_of (stop_at c) p.schedule (no_stop_item c))
    ∙ append-nil (option_to_list (get_or p.stops c None))

printed_items : (p : Plan) → filter_map item_of (printed_entries p) ≡ p.schedule
printed_items p = parts item_of p [] [] p.schedule (no_scripts_of item_of 0 p.scripts (λ d s. refl)) (no_stops_of item_of 0 p.stops (λ d x. refl)) (items_back p.schedule)

-- ---- what is printed fits

caller_in_range : (h : Heading) (c : ℕ) (ss : List (List Instr)) → c < h.callers → AllByRecursion IsScript ss → AllByRecursion (IsEntryInRange h) (caller_entries c ss)
caller_in_range h c [] lt k = tt
caller_in_range h c (s ∷ ss) lt k = ((lt, k.0), caller_in_range h c ss lt k.1)

scripts_in_range : (h : Heading) (k : ℕ) (xs : List (List (List Instr))) → k + length xs ≤ h.callers → AllByRecursion (AllByRecursion IsScript) xs → AllByRecursion (IsEntryInRange h) (script_entries k xs)
scripts_in_range h k [] le r = tt
scripts_in_range h k (ss ∷ xs) le r = all-both (IsEntryInRange h) (caller_entries k ss) (script_entries (k + 1) xs) (caller_in_range h k ss (omega arith) r.0) (scripts_in_range h (k + 1) xs (omega arith) r.1)

stops_in_range : (h : Heading) (k : ℕ) (xs : List (Option ℕ)) → k + length xs ≤ h.callers → AllByRecursion (λ o. IfSome o (λ x. x ≤ 4294967295)) xs → AllByRecursion (IsEntryInRange h) (stop_entries k xs)
stops_in_range h k [] le r = tt
stops_in_range h k (None ∷ xs) le r = stops_in_range h (k + 1) xs (omega arith) r.1
stops_in_range h k (Some x ∷ xs) le r = ((omega arith, r.0), stops_in_range h (k + 1) xs (omega arith) r.1)

items_in_range : (p : Plan) (items : List Item) → AllByRecursion (IsScheduleItem p) items → AllByRecursion (IsEntryInRange (printed_heading p)) (map item_entry items)
items_in_range p [] r = tt
items_in_range p (TurnsItem c x ∷ items) r = (r.0, items_in_range p items r.1)
items_in_range p (EvictItem a ∷ items) r = (r.0, items_in_range p items r.1)

count_caller : (c : ℕ) (ss : List (List Instr)) → sum_by is_script (caller_entries c ss) ≡ length ss
count_caller c [] = refl
count_caller c (s ∷ ss) = omega (arith, sum_by-cons is_script (Script c s) (caller_entries c ss), count_caller c ss)

count_scripts : (k : ℕ) (xs : List (List (List Instr))) → sum_by is_script (script_entries k xs) ≡ sum_by length xs
count_scripts k [] = refl
count_scripts k (ss ∷ xs) = omega (arith, sum_by-append is_script (caller_entries k ss) (script_entries (k + 1) xs), count_caller k ss, count_scripts (k + 1) xs, sum_by-cons length ss xs)

count_stops : (k : ℕ) (xs : List (Option ℕ)) → sum_by is_script (stop_entries k xs) ≡ 0
count_stops k [] = refl
count_stops k (None ∷ xs) = count_stops (k + 1) xs
count_stops k (Some x ∷ xs) = omega (arith, sum_by-cons is_script (Stop k x) (stop_entries (k + 1) xs), count_stops (k + 1) xs)

count_items : (items : List Item) → sum_by is_script (map item_entry items) ≡ 0
count_items [] = refl
count_items (TurnsItem c x ∷ items) = omega (arith, sum_by-cons is_script (Turns c x) (map item_entry items), count_items items)
count_items (EvictItem a ∷ items) = omega (arith, sum_by-cons is_script (Evict a) (map item_entry items), count_items items)

one_at_most : (o : Option ℕ) → length (option_to_list o) ≤ 1
one_at_most None = omega arith
one_at_most (Some x) = omega arith

heading_fits : (p : Plan) → IsPlan p → IsHeading (printed_heading p)
heading_fits p h = record { some_callers = h.some_callers; few_callers = h.few_callers; few_blocks = h.few_blocks; limit_range = (h.some_limit, h.limit_range) }

entries_fit : (p : Plan) → IsPlan p → AreEntries (printed_heading p) (printed_entries p)
entries_fit p h = record {
  in_range = all-both (IsEntryInRange (printed_heading p)) (script_entries 0 p.scripts) (stop_entries 0 p.stops ++ map item_entry p.schedule)
      (scripts_in_range (printed_heading p) 0 p.scripts (omega (arith, h.each_caller)) h.each_script)
      (all-both (IsEntryInRange (printed_heading p)) (stop_entries 0 p.stops) (map item_entry p.schedule)
      (stops_in_range (printed_heading p) 0 p.stops (omega (arith, h.each_stop)) h.stop_range)
      (items_in_range p p.schedule h.each_item));
  few_scripts = omega (arith, h.few_scripts, sum_by-append is_script (script_entries 0 p.scripts) (stop_entries 0 p.stops ++ map item_entry p.schedule), sum_by-append is_script (stop_entries 0 p.stops) (map item_entry p.schedule), count_scripts 0 p.scripts, count_stops 0 p.stops, count_items p.schedule);
  few_turns = omega (arith, h.few_turns, ap (sum_by turns_of) (printed_items p));
  one_stop = λ c. omega (arith, ap length (printed_stops p c), one_at_most (get_or p.stops c None));
}

-- ---- and its plan is the plan

first_is : (o : Option ℕ) → head_of (option_to_list o) ≡ o
first_is None = refl
first_is (Some x) = refl

same_plan : (p : Plan) → IsPlan p → p ≡ plan_of (printed_heading p) (printed_entries p)
same_plan p h =
    let es = printed_entries p in
    let scripts : p.scripts ≡ map (scripts_in es) (range_with_len 0 p.callers) = fill_by_all (scripts_in es) p.scripts p.callers [] h.each_caller (λ k lt. sym (printed_scripts p k)) in
    let stops : p.stops ≡ map (stop_in es) (range_with_len 0 p.callers) = fill_by_all (stop_in es) p.stops p.callers None h.each_stop (λ k lt. sym (ap head_of (printed_stops p k) ∙ first_is (get_or p.stops k None))) in
    let schedule : p.schedule ≡ filter_map item_of es = sym (printed_items p) in
    λ i. record { callers = p.callers; blocks = p.blocks; limit = p.limit; scripts = scripts i; stops = stops i; schedule = schedule i }

pub printed_again : (p : Plan) → IsPlan p → SpellsPlan (plan_text p) p
printed_again p h = record {
  heading = printed_heading p;
  entries = printed_entries p;
  heading_fits = heading_fits p h;
  entries_fit = entries_fit p h;
  each = printed_lines (plan_lines (printed_heading p) (printed_entries p)) (lines_range (printed_heading p) (printed_entries p) (heading_fits p h) (entries_fit p h));
  is = same_plan p h;
}
