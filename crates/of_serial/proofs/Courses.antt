-- Calls that run one after another: one more call, and the calls of one more caller up to the limit.
use Rattle.std.proofs.Common.{◌≡◌, ℕ, zero, suc, ◌+◌, ◌-◌, ◌<◌, ◌≤◌, ◌⊎◌, inl, inr, min, cond, eqb, Bool, List, [], ◌∷◌, ◌++◌, length, get_or, map, take, refl, sym, ap, ◌∙◌, arith, add-zero, zero-add, add-one, append_assoc, length-append}
use Rattle.std.specs.List.{enumerate_from, zip, flat_map, range_with_len}
use Rattle.std.proofs.lemmas.List.{length-map, map-append, append-nil, get_or-take, get_or_default, take_all}
use Rattle.std.proofs.lemmas.Grind.{flat_map-append}
use Rattle.std.proofs.lemmas.List.FromFn.{map-range_with_len_more, take-map-range_with_len, length-map-range_with_len}
use Rattle.of_script.specs.declared.instr.Instr.{Instr}
use Rattle.of_store.specs.Store.{Store, Reply, run, empty_store, replies_in_order, last_store}
use Rattle.of_plan.specs.Plan.{Plan, scripts_of}
use Rattle.of_plan.specs.Report.{Entry, Line}
use Rattle.of_plan.specs.Serial.{CallId, called_script, calls_of, serial_calls, serial_entry, serial_line, serial_report}
use Rattle.of_plan.proofs.SerialEntries.{length-replies}
use Rattle.of_serial.specs.SerialRun.{HasComeTo, after_call, course_after, calls_within}
use Rattle.of_serial.specs.declared.serial_run.SerialRun.{SerialRun as RustSerialRun}
use Rattle.of_report.specs.declared.report.Report.{Report}
use Rattle.of_report.specs.Report.{entry_value, report_value}
use Rattle.std.specs.Prelude.{count_by}
use Rattle.std.proofs.lemmas.List.Sums.{sum_by-append, sum_by-cons}
use Rattle.std.proofs.lemmas.Bool.{eq-eqb, ne_eqb}

entries_more : (n : ℕ) (calls : List CallId) (rs : List Reply) (call : CallId) (r : Reply) → length rs ≡ length calls
    → map serial_entry (enumerate_from n (zip (calls ++ call ∷ []) (rs ++ r ∷ []))) ≡ map serial_entry (enumerate_from n (zip calls rs)) ++ serial_entry (n + length calls, (call, r)) ∷ []
entries_more n [] [] call r same = ap (λ (m : ℕ). serial_entry (m, (call, r)) ∷ []) (sym (add-zero n))
entries_more n [] (q ∷ qs) call r same = absurd (omega arith)
entries_more n (c ∷ cs) [] call r same = absurd (omega arith)
entries_more n (c ∷ cs) (q ∷ qs) call r same =
    let place : n + 1 + length cs ≡ n + suc (length cs) = omega arith in
    ap (λ (t : List Entry). serial_entry (n, (c, q)) ∷ t) (entries_more (n + 1) cs qs call r (omega arith))
    ∙ ap (λ (m : ℕ). serial_entry (n, (c, q)) ∷ (map serial_entry (enumerate_from (n + 1) (zip cs qs)) ++ serial_entry (m, (call, r)) ∷ [])) place

replies_more : (s : Store) (scripts : List (List Instr)) (script : List Instr) → replies_in_order s (scripts ++ script ∷ []) ≡ replies_in_order s scripts ++ (run (last_store s scripts) script).1 ∷ []
replies_more s [] script = refl
replies_more s (first ∷ others) script = ap (λ (t : List Reply). (run s first).1 ∷ t) (replies_more (run s first).0 others script)

last_store_more : (s : Store) (scripts : List (List Instr)) (script : List Instr) → last_store s (scripts ++ script ∷ []) ≡ (run (last_store s scripts) script).0
last_store_more s [] script = refl
last_store_more s (first ∷ others) script = last_store_more (run s first).0 others script

-- one more call of a plan, with its script
pub one_more_call : (p : Plan) (calls : List CallId) (call : CallId) → after_call (course_after p calls) call (called_script p call) ≡ course_after p (calls ++ call ∷ [])
one_more_call p calls call =
    let s = empty_store p.blocks in
    let scripts = map (called_script p) calls in
    let script = called_script p call in
    let more : map (called_script p) (calls ++ call ∷ []) ≡ scripts ++ script ∷ [] = map-append (called_script p) calls (call ∷ []) in
    let each : length (replies_in_order s scripts) ≡ length calls = length-replies s scripts ∙ length-map calls (called_script p) in
    let place : 1 + length calls ≡ length calls + 1 = omega arith in
    let entries : map serial_entry (enumerate_from 1 (zip calls (replies_in_order s scripts))) ++ serial_entry (length calls + 1, (call, (run (last_store s scripts) script).1)) ∷ [] ≡ map serial_entry (enumerate_from 1 (zip (calls ++ call ∷ []) (replies_in_order s (map (called_script p) (calls ++ call ∷ []))))) =
    ap (λ (m : ℕ). map serial_entry (enumerate_from 1 (zip calls (replies_in_order s scripts))) ++ serial_entry (m, (call, (run (last_store s scripts) script).1)) ∷ []) (sym place)
    ∙ sym (entries_more 1 calls (replies_in_order s scripts) call (run (last_store s scripts) script).1 each)
    ∙ ap (λ (t : List Reply). map serial_entry (enumerate_from 1 (zip (calls ++ call ∷ []) t))) (sym (replies_more s scripts script) ∙ ap (replies_in_order s) (sym more)) in
    let seq : length calls + 1 ≡ length (calls ++ call ∷ []) = sym (length-append calls (call ∷ [])) in
    let store : (run (last_store s scripts) script).0 ≡ last_store s (map (called_script p) (calls ++ call ∷ [])) = sym (last_store_more s scripts script) ∙ ap (last_store s) (sym more) in
    λ i. record { entries = entries i; seq = seq i; store = store i }

-- counting up by one
pub range_more : (a n : ℕ) → range_with_len a (n + 1) ≡ range_with_len a n ++ (a + n) ∷ []
range_more a zero = ap (λ (m : ℕ). m ∷ []) (sym (add-zero a))
range_more a (suc n) =
    let place : a + 1 + n ≡ a + suc n = omega arith in
    ap (range_with_len a) (add-one (suc n)) ∙ ap (λ (t : List ℕ). a ∷ t) (ap (range_with_len (a + 1)) (sym (add-one n)) ∙ range_more (a + 1) n) ∙ ap (λ (m : ℕ). a ∷ (range_with_len (a + 1) n ++ m ∷ [])) place

-- the calls of the first callers
abbrev pub calls_below : Plan → ℕ → List CallId
calls_below p c = flat_map (calls_of p) (range_with_len 0 c)

calls_more : (p : Plan) (c : ℕ) → calls_below p (c + 1) ≡ calls_below p c ++ calls_of p c
calls_more p c =
    ap (flat_map (calls_of p)) (range_more 0 c) ∙ flat_map-append (calls_of p) (range_with_len 0 c) ((0 + c) ∷ [])
    ∙ ap (λ (t : List CallId). calls_below p c ++ t) (ap (λ (d : ℕ). calls_of p d ++ []) (zero-add c) ∙ append-nil (calls_of p c))

-- the first elements of two lists
take_of_two : {X : Type 0} (n : ℕ) (xs ys : List X) → take n (xs ++ ys) ≡ take n xs ++ take (n - length (take n xs)) ys
take_of_two zero [] ys = refl
take_of_two (suc n) [] ys = let all : suc n ≡ suc n - 0 = omega arith in ap (λ (m : ℕ). take m ys) all
take_of_two zero (x ∷ xs) ys = refl
take_of_two (suc n) (x ∷ xs) ys =
    let left : n - length (take n xs) ≡ suc n - suc (length (take n xs)) = omega arith in
    ap (λ (t : List _). x ∷ t) (take_of_two n xs ys ∙ ap (λ (m : ℕ). take n xs ++ take m ys) left)

-- the calls of one more caller, as many as there are sequences left
pub one_more_caller : (p : Plan) (c : ℕ) → take p.limit (calls_below p c) ++ take (p.limit - length (take p.limit (calls_below p c))) (calls_of p c) ≡ take p.limit (calls_below p (c + 1))
one_more_caller p c = sym (take_of_two p.limit (calls_below p c) (calls_of p c)) ∙ ap (take p.limit) (sym (calls_more p c))

-- the next call of a caller
pub next_call : (p : Plan) (calls : List CallId) (c i : ℕ) → course_after p ((calls ++ map (λ j. (c, j)) (range_with_len 0 i)) ++ (c, i) ∷ []) ≡ course_after p (calls ++ map (λ j. (c, j)) (range_with_len 0 (i + 1)))
next_call p calls c i =
    ap (course_after p) (append_assoc calls (map (λ j. (c, j)) (range_with_len 0 i)) ((c, i) ∷ []) ∙ ap (λ (t : List CallId). calls ++ t) (sym (map-range_with_len_more (λ j. (c, j)) 0 i i (zero-add i))))

-- the first calls of a caller
pub first_calls : (p : Plan) (c i : ℕ) → i ≤ length (scripts_of p c) → map (λ j. (c, j)) (range_with_len 0 i) ≡ take i (calls_of p c)
first_calls p c i le = sym (take-map-range_with_len (λ j. (c, j)) 0 (length (scripts_of p c)) i le)

-- an element of a front of a list
pub read_in_front : {X : Type 0} (xs : List X) (n i : ℕ) (x d : X) → x ≡ get_or (take n xs) i x → i < n → i < length xs → x ≡ get_or xs i d
read_in_front xs n i x d e front whole = e ∙ get_or-take n xs i x front ∙ get_or_default xs i x d whole

le_or_more : (a b : ℕ) → (a ≤ b) ⊎ (b ≤ a)
le_or_more a b = grind arith

-- a front of a list that may be shorter
pub take_at_most : {X : Type 0} (xs : List X) (n i : ℕ) → i ≡ min (length xs) n → take i xs ≡ take n xs
take_at_most xs n i e = elim (le_or_more n (length xs)) [
  | inl few ↦ let same : i ≡ n = omega arith in ap (λ (m : ℕ). take m xs) same
  | inr all ↦ take_all i xs (omega arith) ∙ sym (take_all n xs all)
]

-- how many calls a caller has
pub length-calls_of : (p : Plan) (c : ℕ) → length (calls_of p c) ≡ length (scripts_of p c)
length-calls_of p c = length-map-range_with_len (λ j. (c, j)) 0 (length (scripts_of p c))

-- ---- the lines of the callers

-- the calls of the first callers that are within the limit
abbrev pub run_below : Plan → ℕ → List CallId
run_below p n = take p.limit (calls_below p n)

-- how many of some calls are a caller's
abbrev calls_by : ℕ → List CallId → ℕ
calls_by c calls = count_by (λ (call : CallId). eqb call.0 c) calls

calls_by_append : (c : ℕ) (xs ys : List CallId) → calls_by c (xs ++ ys) ≡ calls_by c xs + calls_by c ys
calls_by_append c xs ys = sum_by-append (λ (call : CallId). cond (eqb call.0 c) 1 0) xs ys

-- the calls of a caller with these numbers
abbrev calls_from : ℕ → List ℕ → List CallId
calls_from c is = map (λ i. (c, i)) is

-- all of its own
own_calls : (c m : ℕ) (is : List ℕ) → calls_by c (take m (calls_from c is)) ≡ length (take m (calls_from c is))
own_calls c zero [] = refl
own_calls c (suc m) [] = refl
own_calls c zero (i ∷ is) = refl
own_calls c (suc m) (i ∷ is) =
    let rest : List CallId = take m (calls_from c is) in
    omega (arith, sum_by-cons (λ (call : CallId). cond (eqb call.0 c) 1 0) (c, i) rest, ap {B = ℕ} (λ (b : Bool). cond b 1 0) (eq-eqb c c refl), own_calls c m is)

-- and none of another's
other_calls : (c d m : ℕ) (is : List ℕ) → (d ≡ c → ⊥) → calls_by c (take m (calls_from d is)) ≡ 0
other_calls c d zero [] n = refl
other_calls c d (suc m) [] n = refl
other_calls c d zero (i ∷ is) n = refl
other_calls c d (suc m) (i ∷ is) n =
    let rest : List CallId = take m (calls_from d is) in
    omega (arith, sum_by-cons (λ (call : CallId). cond (eqb call.0 c) 1 0) (d, i) rest, ap {B = ℕ} (λ (b : Bool). cond b 1 0) (ne_eqb d c n), other_calls c d m is n)

-- so none of those of the callers before it
calls_before : (p : Plan) (c m k : ℕ) → k ≤ c → calls_by c (take m (calls_below p k)) ≡ 0
calls_before p c zero zero le = refl
calls_before p c (suc m) zero le = refl
calls_before p c m (suc k) le =
    let old : List CallId = take m (calls_below p k) in
    let new : List CallId = take (m - length old) (calls_of p k) in
    let both : take m (calls_below p (suc k)) ≡ old ++ new =
    ap (λ (n : ℕ). take m (calls_below p n)) (sym (add-one k)) ∙ ap (take m) (calls_more p k) ∙ take_of_two m (calls_below p k) (calls_of p k) in
    let none : calls_by c new ≡ 0 = other_calls c k (m - length old) (range_with_len 0 (length (scripts_of p k))) (λ same. absurd (omega (arith, same, le))) in
    omega (arith, ap (calls_by c) both, calls_by_append c old new, calls_before p c m k (omega (arith, le)), none)

-- the line of a caller, after some calls
abbrev line_after : Plan → List CallId → ℕ → Line
line_after p calls c = serial_line (calls_by c calls) (length (scripts_of p c))

-- the lines of the first callers
abbrev pub lines_below : Plan → ℕ → List Line
lines_below p n = map (line_after p (run_below p n)) (range_with_len 0 n)

same_in_range : (f g : ℕ → Line) (a n : ℕ) → ((d : ℕ) → d < a + n → f d ≡ g d) → map f (range_with_len a n) ≡ map g (range_with_len a n)
same_in_range f g a zero same = refl
same_in_range f g a (suc n) same =
    let first : f a ≡ g a = same a (omega arith) in
    let rest = same_in_range f g (a + 1) n (λ d l. same d (omega (arith, l))) in
    λ i. first i ∷ rest i

-- one caller more, which has run so many scripts
pub lines_more : (p : Plan) (n : ℕ) → lines_below p (n + 1) ≡ lines_below p n ++ serial_line (length (calls_within p (length (run_below p n)) n)) (length (scripts_of p n)) ∷ []
lines_more p n =
    let old : List CallId = run_below p n in
    let left : ℕ = p.limit - length old in
    let new : List CallId = take left (calls_of p n) in
    let all : List CallId = run_below p (n + 1) in
    let both : all ≡ old ++ new = sym (one_more_caller p n) in
    let numbers : List ℕ = range_with_len 0 (length (scripts_of p n)) in
    let before : (d : ℕ) → d < 0 + n → line_after p all d ≡ line_after p old d = λ d l.
    let none : calls_by d new ≡ 0 = other_calls d n left numbers (λ same. absurd (omega (arith, same, l))) in
    let count : calls_by d all ≡ calls_by d old = omega (arith, ap (calls_by d) both, calls_by_append d old new, none) in
    ap (λ (m : ℕ). serial_line m (length (scripts_of p d))) count in
    let own : calls_by n all ≡ length new =
    omega (arith, ap (calls_by n) both, calls_by_append n old new, calls_before p n p.limit n (omega arith), own_calls n left numbers) in
    map-range_with_len_more (line_after p all) 0 n n (zero-add n)
    ∙ (λ i. same_in_range (line_after p all) (line_after p old) 0 n before i ++ serial_line (own i) (length (scripts_of p n)) ∷ [])

-- what was made caller by caller is the report
pub report_made : (p : Plan) (run : RustSerialRun) (report : Report) → HasComeTo run (course_after p (serial_calls p))
    → report.callers.items ≡ lines_below p p.callers
    → report.entries.items ≡ run.entries.items → report.seq ≡ run.seq → report.store ≡ (course_after p (serial_calls p)).store → report_value report ≡ serial_report p
report_made p run report has lines same_entries same_seq store =
    let entries = ap (map entry_value) same_entries ∙ has.entries in
    let seq = same_seq ∙ has.seq in
    λ i. record { entries = entries i; callers = lines i; seq = seq i; store = store i }
