-- The entries of calls that run one after the other: what they hold, and in which order they stand.
use Rattle.std.proofs.Common.{◌≡◌, ℕ, suc, ◌+◌, ◌<◌, ◌≤◌, inl, inr, Bool, true, false, cond, eqb, List, [], ◌∷◌, length, map, refl, sym, ap, ◌∙◌, arith}
use Rattle.std.specs.Prelude.{filter, IsTrue, Any, AllPairs}
use Rattle.std.specs.List.{enumerate_from, zip, AllByRecursion}
use Rattle.std.proofs.lemmas.List.{length-map}
use Rattle.std.proofs.lemmas.List.Elements.{All-from_recursion}
use Rattle.std.proofs.lemmas.List.Kept.{AllPairs-cons}
use Rattle.std.proofs.lemmas.Bool.Decides.{eqb_tells}
use Rattle.of_script.specs.declared.instr.Instr.{Instr}
use Rattle.of_store.specs.Store.{Store, Reply, replies_in_order, run}
use Rattle.of_plan.specs.Plan.{Plan}
use Rattle.of_plan.specs.Report.{Entry}
use Rattle.of_plan.specs.Legal.{script_of_entry, StandsBefore}
use Rattle.of_plan.specs.Serial.{CallId, called_script, serial_entry}

pub length-replies : (s : Store) (scripts : List (List Instr)) → length (replies_in_order s scripts) ≡ length scripts
length-replies s [] = refl
length-replies s (script ∷ scripts) = ap suc (length-replies (run s script).0 scripts)

-- the entries of calls with these replies, from a sequence on
abbrev pub entries_from : ℕ → List CallId → List Reply → List Entry
entries_from n calls rs = map serial_entry (enumerate_from n (zip calls rs))

pub replies_in : (n : ℕ) (calls : List CallId) (rs : List Reply) → length rs ≡ length calls → map (λ (e : Entry). e.reply) (entries_from n calls rs) ≡ rs
replies_in n [] [] same = refl
replies_in n [] (r ∷ rs) same = absurd (omega arith)
replies_in n (c ∷ cs) [] same = absurd (omega arith)
replies_in n (c ∷ cs) (r ∷ rs) same = ap (λ (t : List Reply). r ∷ t) (replies_in (n + 1) cs rs (omega arith))

pub scripts_in : (p : Plan) (n : ℕ) (calls : List CallId) (rs : List Reply) → length rs ≡ length calls → map (script_of_entry p) (entries_from n calls rs) ≡ map (called_script p) calls
scripts_in p n [] [] same = refl
scripts_in p n [] (r ∷ rs) same = absurd (omega arith)
scripts_in p n (c ∷ cs) [] same = absurd (omega arith)
scripts_in p n (c ∷ cs) (r ∷ rs) same = ap (λ (t : List (List Instr)). called_script p c ∷ t) (scripts_in p (n + 1) cs rs (omega arith))

one_index : (b : Bool) (e : Entry) (call : CallId) (es : List Entry) (calls : List CallId) → e.index ≡ call.1 → map (λ (e : Entry). e.index) es ≡ map (λ (call : CallId). call.1) calls
    → map (λ (e : Entry). e.index) (cond b (e ∷ es) es) ≡ map (λ (call : CallId). call.1) (cond b (call ∷ calls) calls)
one_index true e call es calls here h = cc
one_index false e call es calls here h = h

-- the indices of a caller's entries are those of its calls
pub indices_in : (c n : ℕ) (calls : List CallId) (rs : List Reply) → length rs ≡ length calls
    → map (λ (e : Entry). e.index) (filter (λ (e : Entry). eqb e.caller c) (entries_from n calls rs)) ≡ map (λ (call : CallId). call.1) (filter (λ (call : CallId). eqb call.0 c) calls)
indices_in c n [] [] same = refl
indices_in c n [] (r ∷ rs) same = absurd (omega arith)
indices_in c n (call ∷ cs) [] same = absurd (omega arith)
indices_in c n (call ∷ cs) (r ∷ rs) same = one_index (eqb call.0 c) (serial_entry (n, (call, r))) call _ _ refl (indices_in c (n + 1) cs rs (omega arith))

-- a caller has as many entries as calls
pub count_in : (c n : ℕ) (calls : List CallId) (rs : List Reply) → length rs ≡ length calls → length (filter (λ (e : Entry). eqb e.caller c) (entries_from n calls rs)) ≡ length (filter (λ (call : CallId). eqb call.0 c) calls)
count_in c n calls rs same =
    sym (length-map (filter (λ (e : Entry). eqb e.caller c) (entries_from n calls rs)) (λ (e : Entry). e.index)) ∙ ap length (indices_in c n calls rs same)
    ∙ length-map (filter (λ (call : CallId). eqb call.0 c) calls) (λ (call : CallId). call.1)

-- what holds of each call at its sequence holds of each entry
entries_are : (P : Entry → Type 0) (Q : CallId → Type 0) (least most : ℕ) → ((seq : ℕ) (call : CallId) (r : Reply) → least ≤ seq → seq < most → Q call → P (serial_entry (seq, (call, r))))
    → (n : ℕ) (calls : List CallId) (rs : List Reply) → least ≤ n → n + length calls ≤ most → AllByRecursion Q calls → AllByRecursion P (entries_from n calls rs)
entries_are P Q least most h n [] rs low high q = tt
entries_are P Q least most h n (call ∷ cs) [] low high q = tt
entries_are P Q least most h n (call ∷ cs) (r ∷ rs) low high q = (h n call r low (omega arith) q.0, entries_are P Q least most h (n + 1) cs rs (omega arith) (omega arith) q.1)

-- each entry is of a caller below
pub callers_in : (callers n : ℕ) (calls : List CallId) (rs : List Reply) → AllByRecursion (λ (call : CallId). call.0 < callers) calls → AllByRecursion (λ (e : Entry). e.caller < callers) (entries_from n calls rs)
callers_in callers n calls rs below = entries_are (λ (e : Entry). e.caller < callers) (λ (call : CallId). call.0 < callers) n (n + length calls) (λ seq call r low high lt. lt) n calls rs (omega arith) (omega arith) below

nothing_asked : (calls : List CallId) → AllByRecursion (λ (call : CallId). Unit {0}) calls
nothing_asked [] = tt
nothing_asked (call ∷ cs) = (tt, nothing_asked cs)

-- what holds of an announced entry at each of the sequences holds of each entry
pub sequences_in : (P : Entry → Type 0) (n : ℕ) (calls : List CallId) (rs : List Reply) → ((seq : ℕ) (call : CallId) (r : Reply) → n ≤ seq → seq < n + length calls → P (serial_entry (seq, (call, r)))) → AllByRecursion P (entries_from n calls rs)
sequences_in P n calls rs h = entries_are P (λ (call : CallId). Unit {0}) n (n + length calls) (λ seq call r low high q. h seq call r low high) n calls rs (omega arith) (omega arith) (nothing_asked calls)

-- each entry stands before the later ones
pub order_in : (n : ℕ) (calls : List CallId) (rs : List Reply) → AllPairs StandsBefore (entries_from n calls rs)
order_in n [] rs = λ i j d lt here. absurd (omega arith)
order_in n (call ∷ cs) [] = λ i j d lt here. absurd (omega arith)
order_in n (call ∷ cs) (r ∷ rs) =
    let later = All-from_recursion (StandsBefore (serial_entry (n, (call, r)))) (entries_from (n + 1) cs rs) (sequences_in (StandsBefore (serial_entry (n, (call, r)))) (n + 1) cs rs (λ seq other s low high. inl (omega arith))) in
    AllPairs-cons StandsBefore (serial_entry (n, (call, r))) (entries_from (n + 1) cs rs) later (order_in (n + 1) cs rs)

-- no sequence is left out
pub each_in : (n : ℕ) (calls : List CallId) (rs : List Reply) → length rs ≡ length calls → (seq : ℕ) → n ≤ seq → seq < n + length calls → Any (λ (e : Entry). IsTrue e.announced × (e.seq ≡ seq)) (entries_from n calls rs)
each_in n [] rs same seq low high = absurd (omega arith)
each_in n (call ∷ cs) [] same seq low high = absurd (omega arith)
each_in n (call ∷ cs) (r ∷ rs) same seq low high = elim (eqb_tells n seq) [
  | inl here ↦ (0, serial_entry (n, (call, r)), omega arith, refl, (refl, here.1))
  | inr later ↦ let found = each_in (n + 1) cs rs (omega arith) seq (omega (arith, later.1)) (omega arith) in (suc found.0, found.1, omega (arith, found.2), found.3, found.4)
]
