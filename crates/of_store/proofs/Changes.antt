-- Changes and what takes them back.
use Rattle.std.proofs.Common.{◌≡◌, ℕ, zero, suc, ◌+◌, ◌-◌, ◌<◌, ◌≤◌, Bool, true, false, cond, List, [], ◌∷◌, ◌++◌, length, take, get_or, set, Option, Some, None, is_some, Ok, Err, OnOk, OnErr, IfOk, Result, refl, sym, ap, subst, ◌∙◌, arith}
use Rattle.std.specs.Prelude.{slice_get, IsSome}
use Rattle.std.specs.FinMap as fm
use Rattle.std.specs.FinMap.{get-insert, get-remove, same_map, nat_cmp-IsAntisymmetric}
use Rattle.std.specs.Ordering.{nat_cmp, eq_by_cmp}
use Rattle.std.specs.Cmp.{nat_cmp_total, eq_by_cmp_equiv}
use Rattle.std.proofs.lemmas.List.{set-get_or, get_or-set_same, get_or-set_other, length-append}
use Rattle.std.proofs.Math.Seq.{take-append_seam}
use Rattle.of_script.specs.declared.instr.Instr.{Instr}
use Rattle.of_script.specs.declared.instr.Instr.TheVariants.{Load, Store as StoreInstr, Add, Sub, Get, Put, Del, Need, Push, Pop, Len, Count, First, Next, DropBelow}
use Rattle.of_script.specs.declared.instr.Cause.{Cause}
use Rattle.of_script.specs.declared.instr.TheConstants.{QUEUES}
use Rattle.of_script.specs.Language.{IsInstrInRange, greatest}
use Rattle.of_script.specs.declared.instr.Reply.{Reply}
use Rattle.of_script.specs.declared.instr.Abort.{Abort}
use Rattle.of_store.specs.Replies.{response_with, reply_value_of}
use Rattle.of_store.specs.Store.{Store, IsState, InstrEffect, ScriptOutcome, instr_effect, outcome_of_script, run, run_result, pop_effect, queue, register, with_register, with_key, with_queue}
use Rattle.of_store.proofs.Keeps.{nat_same}
use Rattle.of_store.specs.declared.change.Change.{Change}
use Rattle.of_store.specs.declared.change.Change.TheVariants.{Nothing, Register, Key, Pushed}
use Rattle.of_store.specs.Changes.{takes_out, may_fail, FailsFirst, change_of, change_after, written_register, with_at, without, undone, IsReplaced, IsChange, AreThere, ChangesLead, HasFailed}

-- ---- an instruction is taken back

-- the change is there, and without it the store is the earlier one
pub record TakesBack (c : Change) (s t : Store) : Type 0 where
  pub there : IsChange c t
  pub back : without c t ≡ s

set_twice : {A : Type 0} (xs : List A) (i : ℕ) (x y : A) → set (set xs i x) i y ≡ set xs i y
set_twice [] i x y = refl
set_twice (z ∷ xs) zero x y = refl
set_twice (z ∷ xs) (suc i) x y = ap (λ (ys : List _). z ∷ ys) (set_twice xs i x y)

pub set_back : {A : Type 0} (xs : List A) (i : ℕ) (x d : A) → set (set xs i x) i (get_or xs i d) ≡ xs
set_back xs i x d = set_twice xs i x (get_or xs i d) ∙ set-get_or xs i d

register_back : (s : Store) (r v : ℕ) → without (Register r (register s r)) (with_register s r v) ≡ s
register_back s r v = ap (λ (rs : List ℕ). record s { registers = rs }) (set_back s.registers r v 0)

at_itself : (k : ℕ) → eq_by_cmp nat_cmp k k ≡ true
at_itself k = (eq_by_cmp_equiv nat_cmp_total).refl k

removed_again : (b : Bool) (v : ℕ) (o p : Option ℕ) → (b ≡ true → o ≡ None) → p ≡ cond b (Some v) o → cond b None p ≡ o
removed_again true v o p h e = sym (h refl)
removed_again false v o p h e = e

put_again : (b : Bool) (v w : ℕ) (o p : Option ℕ) → (b ≡ true → o ≡ Some w) → p ≡ cond b (Some v) o → cond b (Some w) p ≡ o
put_again true v w o p h e = sym (h refl)
put_again false v w o p h e = e

key_back : (s : Store) (k v : ℕ) (before : Option ℕ) → fm.get s.keys k ≡ before → with_at (with_key s k v) k before ≡ s
key_back s k v None e = ap (λ (m : fm.FinMap nat_cmp ℕ). record s { keys = m }) (same_map nat_cmp_total nat_cmp-IsAntisymmetric _ _ (λ q.
    get-remove nat_cmp_total (fm.insert s.keys k v) k q
    ∙ removed_again (eq_by_cmp nat_cmp q k) v (fm.get s.keys q) _ (λ t. ap (fm.get s.keys) (nat_same q k t) ∙ e) (get-insert nat_cmp_total s.keys k v q)))
key_back s k v (Some w) e = ap (λ (m : fm.FinMap nat_cmp ℕ). record s { keys = m }) (same_map nat_cmp_total nat_cmp-IsAntisymmetric _ _ (λ q.
    get-insert nat_cmp_total (fm.insert s.keys k v) k w q
    ∙ put_again (eq_by_cmp nat_cmp q k) v w (fm.get s.keys q) _ (λ t. ap (fm.get s.keys) (nat_same q k t) ∙ e) (get-insert nat_cmp_total s.keys k v q)))

there_now : (s : Store) (k v : ℕ) → fm.get (fm.insert s.keys k v) k ≡ Some v
there_now s k v = get-insert nat_cmp_total s.keys k v k ∙ ap (λ (b : Bool). cond b (Some v) (fm.get s.keys k)) (at_itself k)

replaced : (s : Store) (k v : ℕ) (before : Option ℕ) → IsState s → fm.get s.keys k ≡ before → IsReplaced (with_key s k v) k before
replaced s k v None h e = tt
replaced s k v (Some w) h e = ((h.small_keys k w e).1, ap is_some (there_now s k v))

queue_now : (s : Store) (q : ℕ) (items : List ℕ) → q < length s.queues → queue (with_queue s q items) q ≡ items
queue_now s q items lt = get_or-set_same s.queues q items [] lt

front_of : (items : List ℕ) (v : ℕ) → take (length (items ++ v ∷ []) - 1) (items ++ v ∷ []) ≡ items
front_of items v =
    let size : length (items ++ v ∷ []) - 1 ≡ length items = omega (arith, length-append items (v ∷ [])) in
    ap (λ (n : ℕ). take n (items ++ v ∷ [])) size ∙ take-append_seam items (v ∷ [])

pushed_back : (s : Store) (q v : ℕ) → q < length s.queues → without (Pushed q) (with_queue s q (queue s q ++ v ∷ [])) ≡ s
pushed_back s q v lt =
    let now = queue_now s q (queue s q ++ v ∷ []) lt in
    ap (λ (items : List ℕ). with_queue (with_queue s q (queue s q ++ v ∷ [])) q (take (length items - 1) items)) now
    ∙ ap (λ (items : List ℕ). with_queue (with_queue s q (queue s q ++ v ∷ [])) q items) (front_of (queue s q) v)
    ∙ ap (λ (qs : List (List ℕ)). record s { queues = qs }) (set_back s.queues q (queue s q ++ v ∷ []) [])

-- the store that an effect leaves, or this one
abbrev left_by : Store → InstrEffect → Store
left_by s (Ok e) = e.0
left_by s (Err cause) = s

-- what stands behind a test, if it went through
behind_test : (b : Bool) (cause : Cause) (t u : Store) (o p : Option ℕ) → cond {A = InstrEffect} b (Err cause) (Ok (t, o)) ≡ Ok (u, p) → t ≡ u
behind_test true cause t u o p e = absurd cc
behind_test false cause t u o p e = ap (left_by t) e

passed : (b : Bool) (cause : Cause) (s t : Store) (o : Option ℕ) → cond {A = InstrEffect} b (Ok (s, None)) (Err cause) ≡ Ok (t, o) → s ≡ t
passed true cause s t o e = ap (left_by s) e
passed false cause s t o e = absurd cc

same_back : (c : Change) (s t u : Store) → t ≡ u → TakesBack c s t → TakesBack c s u
same_back c s t u e h = subst (TakesBack c s) e h

no_change : (s t : Store) → s ≡ t → TakesBack Nothing s t
no_change s t e = record { there = tt; back = sym e }

register_takes_back : (s : Store) (r v : ℕ) → IsState s → r < 16 → TakesBack (Register r (register s r)) s (with_register s r v)
register_takes_back s r v h lt = record { there = (lt, h.small r); back = register_back s r v }

put_takes_back : (s : Store) (k v : ℕ) → IsState s → k ≤ greatest → TakesBack (Key k (fm.get s.keys k)) s (with_key s k v)
put_takes_back s k v h le = record { there = (le, replaced s k v (fm.get s.keys k) h refl); back = key_back s k v (fm.get s.keys k) refl }

push_takes_back : (s : Store) (q v : ℕ) → IsState s → q < QUEUES → TakesBack (Pushed q) s (with_queue s q (queue s q ++ v ∷ []))
push_takes_back s q v h lt =
    let small : q < length s.queues = omega (arith, h.queues) in
    let now = queue_now s q (queue s q ++ v ∷ []) small in
    record { there = (lt, omega (arith, ap length now, length-append (queue s q) (v ∷ []))); back = pushed_back s q v small }

-- an instruction that takes nothing out is taken back by its change
pub takes_back : (s t : Store) (i : Instr) (o : Option ℕ) → IsState s → IsInstrInRange i → takes_out i ≡ false → instr_effect s i ≡ Ok (t, o) → TakesBack (change_of s i) s t
takes_back s t (Load r) o h k f e = no_change s t (ap (left_by s) e)
takes_back s t (StoreInstr r v) o h k f e = same_back _ s _ t (ap (left_by s) e) (register_takes_back s r v h k.0)
takes_back s t (Add r v) o h k f e = same_back _ s _ t (behind_test _ _ _ t _ o e) (register_takes_back s r _ h k.0)
takes_back s t (Sub r v) o h k f e = same_back _ s _ t (behind_test _ _ _ t _ o e) (register_takes_back s r _ h k.0)
takes_back s t (Get n) o h k f e = no_change s t (ap (left_by s) e)
takes_back s t (Put n v) o h k f e = same_back _ s _ t (behind_test _ _ _ t _ o e) (put_takes_back s n v h k.0)
takes_back s t (Del n) o h k f e = absurd cc
takes_back s t (Need n v) o h k f e = no_change s t (passed _ _ s t o e)
takes_back s t (Push q v) o h k f e = same_back _ s _ t (behind_test _ _ _ t _ o e) (push_takes_back s q v h k.0)
takes_back s t (Pop q) o h k f e = absurd cc
takes_back s t (Len q) o h k f e = no_change s t (ap (left_by s) e)
takes_back s t Count o h k f e = no_change s t (ap (left_by s) e)
takes_back s t First o h k f e = no_change s t (behind_test _ _ _ t _ o e)
takes_back s t (Next n) o h k f e = no_change s t (behind_test _ _ _ t _ o e)
takes_back s t (DropBelow n) o h k f e = absurd cc

-- what an effect answers, or this
abbrev answered_by : Option ℕ → InstrEffect → Option ℕ
answered_by o (Ok e) = e.1
answered_by o (Err cause) = o

answer_of : (b : Bool) (cause : Cause) (t u : Store) (o p : Option ℕ) → cond {A = InstrEffect} b (Err cause) (Ok (t, o)) ≡ Ok (u, p) → p ≡ o
answer_of true cause t u o p e = absurd cc
answer_of false cause t u o p e = sym (ap (answered_by o) e)

-- what an instruction has changed is told by what its register had and by what it answered
pub change_told : (s t : Store) (i : Instr) (o : Option ℕ) → instr_effect s i ≡ Ok (t, o) → change_after i (written_register s i) o ≡ change_of s i
change_told s t (Load r) o e = refl
change_told s t (StoreInstr r v) o e = refl
change_told s t (Add r v) o e = refl
change_told s t (Sub r v) o e = refl
change_told s t (Get n) o e = refl
change_told s t (Put n v) o e = ap (Key n) (answer_of _ _ _ t _ o e)
change_told s t (Del n) o e = refl
change_told s t (Need n v) o e = refl
change_told s t (Push q v) o e = refl
change_told s t (Pop q) o e = refl
change_told s t (Len q) o e = refl
change_told s t Count o e = refl
change_told s t First o e = refl
change_told s t (Next n) o e = refl
change_told s t (DropBelow n) o e = refl

-- ---- what fails

not_popped : (s : Store) (q : ℕ) (items : List ℕ) (cause : Cause) → pop_effect s q items ≡ Err cause → ⊥
not_popped s q [] cause e = cc
not_popped s q (x ∷ items) cause e = cc

-- an instruction that aborts is one that may fail
pub aborts_may_fail : (s : Store) (i : Instr) (cause : Cause) → instr_effect s i ≡ Err cause → may_fail i ≡ true
aborts_may_fail s (Load r) cause e = absurd cc
aborts_may_fail s (StoreInstr r v) cause e = absurd cc
aborts_may_fail s (Add r v) cause e = refl
aborts_may_fail s (Sub r v) cause e = refl
aborts_may_fail s (Get k) cause e = absurd cc
aborts_may_fail s (Put k v) cause e = refl
aborts_may_fail s (Del k) cause e = absurd cc
aborts_may_fail s (Need k v) cause e = refl
aborts_may_fail s (Push q v) cause e = refl
aborts_may_fail s (Pop q) cause e = absurd (not_popped s q (queue s q) cause e)
aborts_may_fail s (Len q) cause e = absurd cc
aborts_may_fail s Count cause e = absurd cc
aborts_may_fail s First cause e = refl
aborts_may_fail s (Next k) cause e = refl
aborts_may_fail s (DropBelow k) cause e = refl

-- the first n instructions take nothing out
abbrev pub TakesNone : List Instr → ℕ → Type 0
TakesNone script n = (j : ℕ) (a : Instr) → j < n → slice_get script j ≡ Some a → takes_out a ≡ false

-- before what may fail nothing is taken out
pub none_taken : (script : List Instr) (n : ℕ) (b : Instr) → FailsFirst script → slice_get script n ≡ Some b → may_fail b ≡ true → TakesNone script n
none_taken script n b h at fails j a lt is = elim (takes_out a) as (λ (x : Bool). takes_out a ≡ x → x ≡ false) [
  | true ↦ λ e. absurd (let never = h j n a b lt is at e in cc)
  | false ↦ λ e. refl
] refl

-- of the first n instructions none can fail behind what takes something out
abbrev pub FailsFirstOf : List Instr → ℕ → Type 0
FailsFirstOf script n = (i j : ℕ) (a b : Instr) → i < j → j < n → slice_get script i ≡ Some a → slice_get script j ≡ Some b → takes_out a ≡ true → may_fail b ≡ false

-- ---- lists of changes

other_place : (cs : List Change) (n i : ℕ) (c : Change) → suc n ≤ i → get_or (set cs i c) n Nothing ≡ get_or cs n Nothing
other_place cs n i c le = get_or-set_other cs i n c Nothing (λ e. omega (arith, e))

there_same : (cs : List Change) (n i : ℕ) (c : Change) (s : Store) → n ≤ i → AreThere cs n s → AreThere (set cs i c) n s
there_same cs zero i c s le h = h
there_same cs (suc n) i c s le h =
    let same = other_place cs n i c le in
    let Then : Change → Type 0 = λ d. IsChange d s × AreThere (set cs i c) n (without d s) in
    subst Then (sym same) (h.0, there_same cs n i c (without (get_or cs n Nothing) s) (omega arith) h.1)

undone_same : (cs : List Change) (n i : ℕ) (c : Change) (s : Store) → n ≤ i → undone (set cs i c) n s ≡ undone cs n s
undone_same cs zero i c s le = refl
undone_same cs (suc n) i c s le =
    let same = other_place cs n i c le in
    ap (λ (d : Change). undone (set cs i c) n (without d s)) same ∙ undone_same cs n i c (without (get_or cs n Nothing) s) (omega arith)

leads_one : (cs : List Change) (n : ℕ) (c : Change) (first now after : Store) → n < length cs → TakesBack c now after → ChangesLead cs n first now → ChangesLead (set cs n c) (suc n) first after
leads_one cs n c first now after lt back h =
    let here : get_or (set cs n c) n Nothing ≡ c = get_or-set_same cs n c Nothing lt in
    let Then : Change → Type 0 = λ d. IsChange d after × AreThere (set cs n c) n (without d after) in
    record {
      there = subst Then (sym here) (back.there, subst (AreThere (set cs n c) n) (sym back.back) (there_same cs n n c now (omega arith) h.there));
      back = ap (λ (d : Change). undone (set cs n c) n (without d after)) here ∙ ap (undone (set cs n c) n) back.back ∙ undone_same cs n n c now (omega arith) ∙ h.back;
    }

-- one change more leads on
pub leads_on : (cs : List Change) (n : ℕ) (c : Change) (first now after : Store) → n < length cs → TakesBack c now after → ChangesLead cs n first now → ChangesLead (set cs n c) (n + 1) first after
leads_on cs n c first now after lt back h =
    subst (λ (m : ℕ). ChangesLead (set cs n c) m first after) (let e : suc n ≡ n + 1 = omega arith in e) (leads_one cs n c first now after lt back h)

-- ---- what a failed script leaves

pub where_err : {A E : Type 0} (r : Result A E) (P : Type 0) → P → OnErr r P
where_err (Ok x) P p = tt
where_err (Err e) P p = p

kept_by : (s : Store) (o : ScriptOutcome) (r : Reply) (a : Option Abort) → IsSome a → response_with r a ≡ (run_result s o).1 → (run_result s o).0 ≡ s
kept_by s (Ok o) r None some e = absurd cc
kept_by s (Ok o) r (Some a) some e = absurd cc
kept_by s (Err p) r a some e = refl

-- an aborted script leaves the store as it was
pub store_kept : {E : Type 0} (r : Result Reply E) (s t : Store) (script : List Instr) → HasFailed r → IfOk r (λ x. reply_value_of x ≡ (run s script).1) → t ≡ s → OnOk r (t ≡ (run s script).0)
store_kept (Ok r) s t script failed reply is = is ∙ sym (kept_by s (outcome_of_script s script) r r.abort failed reply)
store_kept (Err e) s t script failed reply is = tt

-- ---- a key that is there

-- what only a new key can refuse is done
pub key_there : {E : Type 0} (r : Result (Option ℕ) E) (old : Option ℕ) (P : Type 0) → IsSome old → OnErr r (old ≡ None) → OnOk r P → P
key_there (Ok x) old P some absent on = on
key_there (Err e) old P some absent on = absurd (let none = ap is_some absent in cc)

-- the front of small items is small
pub small_front : (xs : List ℕ) (n : ℕ) → ((i : ℕ) → get_or xs i 0 ≤ greatest) → (i : ℕ) → get_or (take n xs) i 0 ≤ greatest
small_front xs zero h i = omega arith
small_front [] (suc n) h i = omega arith
small_front (x ∷ xs) (suc n) h zero = h zero
small_front (x ∷ xs) (suc n) h (suc i) = small_front xs n (λ j. h (suc j)) i
