-- A run that ended goes the same where more is known.
use Rattle.std.proofs.Common.{◌≡◌, ℕ, inl, inr, List, refl, sym, ◌∙◌, subst, Option, Some, None, get_or, set}
use Rattle.std.proofs.lemmas.Option.{none-some}
use Rattle.std.proofs.lemmas.Bool.{cases_eq}
use Rattle.std.proofs.lemmas.List.{get_or-set_other}
use Rattle.of_mem.specs.CellMap.{value_for}
use Rattle.of_mem.specs.Part.{Part, newest_at, newer_of, write, Extends, with_known}
use Rattle.of_mem.specs.Programs.{Program, Done, Read, Write, RunEnd, Lacks, Ends, with_number, run_program}
use Rattle.of_mem.proofs.Runs.{run_read}

-- a cell that was unknown may be learnt
pub extends_learnt : (more known : List (Option ℕ)) (a v : ℕ) → get_or known a None ≡ None → Extends more (set known a (Some v)) → Extends more known
extends_learnt more known a v none h x w e = elim (cases_eq x a) [
  | inl q ↦ absurd (none-some w (sym none ∙ subst (λ (y : ℕ). get_or known y None ≡ Some w) q e))
  | inr n ↦ h x w (get_or-set_other known a x (Some v) None n ∙ e)
]

by_more : (s b k l : Option ℕ) (v : ℕ) → ((w : ℕ) → k ≡ Some w → l ≡ Some w) → newer_of s (newer_of b k) ≡ Some v → newer_of s (newer_of b l) ≡ Some v
by_more (Some x) b k l v h e = e
by_more None (Some x) k l v h e = e
by_more None None k l v h e = h v e

pub newest_more : (more : List (Option ℕ)) (p : Part) (a v : ℕ) → Extends more p.known → newest_at p a ≡ Some v → newest_at (with_known more p) a ≡ Some v
unfolding newest_at
newest_more more p a v h e = by_more (value_for p.script a) (value_for p.batch a) (get_or p.known a None) (get_or more a None) v (h a) e

-- where the run ended, it ends so as well
abbrev EndsAgain : {A : Type 0} → List (Option ℕ) → Program A → Part → RunEnd A → Type 0
EndsAgain more f p (Lacks a) = Unit {0}
EndsAgain more f p (Ends r q) = run_program f (with_known more p) ≡ Ends r (with_known more q)

again_read : {A : Type 0} (more : List (Option ℕ)) (a : ℕ) (k : ℕ → Program A) (p : Part) (v : ℕ) → newest_at (with_known more p) a ≡ Some v → (x : RunEnd A) → EndsAgain more (k v) p x → EndsAgain more (Read a k) p x
again_read more a k p v e (Lacks x) h = tt
again_read more a k p v e (Ends r q) h = run_read a k (with_known more p) v e ∙ h

again_option : {A : Type 0} (more : List (Option ℕ)) (a : ℕ) (k : ℕ → Program A) (p : Part) → Extends more p.known → ((v : ℕ) → EndsAgain more (k v) p (run_program (k v) p))
    → (o : Option ℕ) → newest_at p a ≡ o → EndsAgain more (Read a k) p (with_number o a (λ v. run_program (k v) p))
again_option more a k p h again None e = tt
again_option more a k p h again (Some v) e = again_read more a k p v (newest_more more p a v h e) (run_program (k v) p) (again v)

again_write : {A : Type 0} (more : List (Option ℕ)) (a v : ℕ) (f : Program A) (p : Part) (x : RunEnd A) → EndsAgain more f (write p a v) x → EndsAgain more (Write a v f) p x
unfolding write
again_write more a v f p (Lacks x) h = tt
again_write more a v f p (Ends r q) h = h

known_wrote : (more : List (Option ℕ)) (p : Part) (a v : ℕ) → Extends more p.known → Extends more (write p a v).known
unfolding write
known_wrote more p a v h = h

again : {A : Type 0} (more : List (Option ℕ)) (f : Program A) (p : Part) → Extends more p.known → EndsAgain more f p (run_program f p)
again more (Done r) p h = refl
again more (Read a k) p h = again_option more a k p h (λ v. again more (k v) p h) (newest_at p a) refl
again more (Write a v f) p h = again_write more a v f p (run_program f (write p a v)) (again more f (write p a v) (known_wrote more p a v h))

pub ends_again : {A : Type 0} (more : List (Option ℕ)) (f : Program A) (p q : Part) (r : A) → Extends more p.known → run_program f p ≡ Ends r q → run_program f (with_known more p) ≡ Ends r (with_known more q)
ends_again more f p q r h e = subst (EndsAgain more f p) e (again more f p h)
