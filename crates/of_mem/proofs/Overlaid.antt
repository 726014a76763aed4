-- A run depends on the batch and the known cells only through the newer of the two: it goes as on the known cells with the batch over them.
use Rattle.std.proofs.Common.{◌≡◌, ℕ, ◌<◌, ◌==◌, refl, ◌∙◌, ap, subst, arith, Bool, true, false, if◌then◌else◌, Option, Some, None, List, [], ◌∷◌, length, get_or, set, length-set}
use Rattle.std.proofs.lemmas.Bool.Decides.{nat_tests}
use Rattle.std.proofs.lemmas.List.{get_or-set_same, get_or-set_other}
use Rattle.of_mem.specs.CellMap.{value_for, put_pair}
use Rattle.of_mem.specs.Part.{Part, newest_at, write, newer_of, overlaid}
use Rattle.of_mem.specs.Programs.{Program, Done, Read, Write, RunEnd, Lacks, Ends, with_number, run_program, with_value, StaysBetween, IsPartOf}
use Rattle.of_mem.proofs.Runs.{part_wrote}

pub over_length : (known : List (Option ℕ)) (es : List (ℕ × ℕ)) → length (overlaid known es) ≡ length known
over_length known [] = refl
over_length known (e ∷ es) = length-set (overlaid known es) e.0 (Some e.1) ∙ over_length known es

pub over_at : (known : List (Option ℕ)) (es : List (ℕ × ℕ)) (a : ℕ) → a < length known → get_or (overlaid known es) a None ≡ newer_of (value_for es a) (get_or known a None)
over_at known [] a l = refl
over_at known (e ∷ es) a l = go (over_at known es a l) (e.0 == a) refl
  where
    go : get_or (overlaid known es) a None ≡ newer_of (value_for es a) (get_or known a None) → (t : Bool) → (e.0 == a) ≡ t → get_or (set (overlaid known es) e.0 (Some e.1)) a None ≡ newer_of (if t then Some e.1 else value_for es a) (get_or known a None)
    go again true p = let s : e.0 ≡ a = grind (arith, nat_tests) in rw s (get_or-set_same (overlaid known es) a (Some e.1) None (rw over_length l))
    go again false p = get_or-set_other (overlaid known es) e.0 a (Some e.1) None (λ (q : a ≡ e.0). grind (arith, nat_tests)) ∙ again

-- alike below the cell, where no number of the script is
pub record SamePads (size : ℕ) (p q : Part) : Type 0 where
  pub below : (a : ℕ) → a < size → newer_of (value_for p.batch a) (get_or p.known a None) ≡ newer_of (value_for q.batch a) (get_or q.known a None)
  pub script : p.script ≡ q.script

same_newest : (size : ℕ) (p q : Part) → SamePads size p q → (a : ℕ) → a < size → newest_at p a ≡ newest_at q a
unfolding newest_at
same_newest size p q h a l = ap (λ (s : List (ℕ × ℕ)). newer_of (value_for s a) (newer_of (value_for p.batch a) (get_or p.known a None))) h.script ∙ ap (λ (x : Option ℕ). newer_of (value_for q.script a) x) (h.below a l)

same_wrote : (size : ℕ) (p q : Part) (a v : ℕ) → SamePads size p q → SamePads size (write p a v) (write q a v)
unfolding write
same_wrote size p q a v h = record {
  below = h.below;
  script = ap (λ (s : List (ℕ × ℕ)). put_pair s a v) h.script;
}

-- two runs that lack the same cell, or give the same answer with the same writes
abbrev pub RunsAlike : {A : Type 0} → RunEnd A → RunEnd A → Type 0
RunsAlike (Lacks a) (Lacks b) = a ≡ b
RunsAlike (Lacks a) (Ends s q) = ⊥
RunsAlike (Ends r p) (Lacks b) = ⊥
RunsAlike (Ends r p) (Ends s q) = (r ≡ s) × (p.script ≡ q.script)

alike_option : {A : Type 0} (a : ℕ) (k : ℕ → Program A) (p q : Part) (o : Option ℕ) → ((v : ℕ) → o ≡ Some v → RunsAlike (run_program (k v) p) (run_program (k v) q)) → RunsAlike (with_number o a (λ v. run_program (k v) p)) (with_number o a (λ v. run_program (k v) q))
alike_option a k p q None again = refl
alike_option a k p q (Some v) again = again v refl

pub run_alike : {A : Type 0} (low size : ℕ) (f : Program A) (p q : Part) (m : ℕ → ℕ) → SamePads size p q → IsPartOf p m → StaysBetween low size f m → RunsAlike (run_program f p) (run_program f q)
run_alike low size (Done r) p q m h is i = (refl, h.script)
run_alike low size (Read a k) p q m h is i = subst (λ (o : Option ℕ). RunsAlike (with_number (newest_at p a) a (λ v. run_program (k v) p)) (with_number o a (λ v. run_program (k v) q))) (same_newest size p q h a i.1)
    (alike_option a k p q (newest_at p a) (λ v e. run_alike low size (k v) p q m h is (subst (λ (w : ℕ). StaysBetween low size (k w) m) (is a v e) i.2)))
run_alike low size (Write a v f) p q m h is i = run_alike low size f (write p a v) (write q a v) (with_value m a v) (same_wrote size p q a v h) (part_wrote p m a v is) i.3
