-- Serial replay of one list of scripts behind another, and scripts that only read.
use Rattle.std.proofs.Common.{◌≡◌, ℕ, Bool, true, false, cond, List, [], ◌∷◌, ◌++◌, Option, None, IfOk, Ok, Err, All, IsTrue, refl, sym, ap, subst}
use Rattle.std.specs.List.{AllByRecursion}
use Rattle.std.proofs.lemmas.List.Elements.{recursion_from_All}
use Rattle.of_script.specs.declared.instr.Instr.{Instr}
use Rattle.of_script.specs.declared.instr.Instr.TheVariants.{Load, Store as StoreInstr, Add, Sub, Get, Put, Del, Need, Push, Pop, Len, Count, First, Next, DropBelow}
use Rattle.of_script.specs.declared.instr.Cause.{Cause}
use Rattle.of_script.specs.Language.{reads_only}
use Rattle.of_store.specs.Store.{Store, Reply, InstrEffect, ScriptOutcome, instr_effect, outcome_of_script, then_outcome, with_answer_first, run_result, run, replies_in_order, last_store}

pub replies-append : (s : Store) (xs ys : List (List Instr)) → replies_in_order s (xs ++ ys) ≡ replies_in_order s xs ++ replies_in_order (last_store s xs) ys
replies-append s [] ys = refl
replies-append s (x ∷ xs) ys = ap (λ (rs : List Reply). (run s x).1 ∷ rs) (replies-append (run s x).0 xs ys)

pub last_store-append : (s : Store) (xs ys : List (List Instr)) → last_store s (xs ++ ys) ≡ last_store (last_store s xs) ys
last_store-append s [] ys = refl
last_store-append s (x ∷ xs) ys = last_store-append (run s x).0 xs ys

-- ---- scripts that only read

-- what the effect leaves is the store from before
abbrev Stays : Store → InstrEffect → Type 0
Stays s e = IfOk e (λ x. x.0 ≡ s)

where_there : (b : Bool) (cause : Cause) (s : Store) → Stays s (cond b (Ok (s, None)) (Err cause))
where_there true cause s = refl
where_there false cause s = tt

unless : (b : Bool) (cause : Cause) (s : Store) (o : Option ℕ) → Stays s (cond b (Err cause) (Ok (s, o)))
unless true cause s o = tt
unless false cause s o = refl

effect_stays : (s : Store) (i : Instr) → reads_only i ≡ true → Stays s (instr_effect s i)
effect_stays s (Load r) e = refl
effect_stays s (StoreInstr r v) e = absurd cc
effect_stays s (Add r v) e = absurd cc
effect_stays s (Sub r v) e = absurd cc
effect_stays s (Get k) e = refl
effect_stays s (Put k v) e = absurd cc
effect_stays s (Del k) e = absurd cc
effect_stays s (Need k v) e = where_there _ _ s
effect_stays s (Push q v) e = absurd cc
effect_stays s (Pop q) e = absurd cc
effect_stays s (Len q) e = refl
effect_stays s Count e = refl
effect_stays s First e = unless _ _ s _
effect_stays s (Next k) e = unless _ _ s _
effect_stays s (DropBelow k) e = absurd cc

-- what the outcome leaves is the store from before
abbrev StaysAll : Store → ScriptOutcome → Type 0
StaysAll s o = IfOk o (λ x. x.0 ≡ s)

in_front_stays : (s : Store) (v : Option ℕ) (o : ScriptOutcome) → StaysAll s o → StaysAll s (with_answer_first v o)
in_front_stays s v (Ok o) h = h
in_front_stays s v (Err p) h = tt

then_stays : (s : Store) (e : InstrEffect) (others : Store → ScriptOutcome) → Stays s e → StaysAll s (others s) → StaysAll s (then_outcome e others)
then_stays s (Ok e) others h k = in_front_stays s e.1 (others e.0) (subst (λ (t : Store). StaysAll s (others t)) (sym h) k)
then_stays s (Err cause) others h k = tt

outcome_stays : (s : Store) (is : List Instr) → AllByRecursion (λ i. reads_only i ≡ true) is → StaysAll s (outcome_of_script s is)
outcome_stays s [] h = refl
outcome_stays s (i ∷ is) h = then_stays s (instr_effect s i) (λ t. outcome_of_script t is) (effect_stays s i h.0) (outcome_stays s is h.1)

settled_stays : (s : Store) (o : ScriptOutcome) → StaysAll s o → (run_result s o).0 ≡ s
settled_stays s (Ok o) h = h
settled_stays s (Err p) h = refl

-- a script that only reads leaves the store as it is
pub run-reads : (s : Store) (script : List Instr) → All (λ i. IsTrue (reads_only i)) script → (run s script).0 ≡ s
run-reads s script h = settled_stays s (outcome_of_script s script) (outcome_stays s script (recursion_from_All _ script h))
