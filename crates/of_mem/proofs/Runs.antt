-- Programs on partial memory and on whole memory: a run on partial memory names a cell that is not known, or it does what the run on the whole memory does.
use Rattle.std.proofs.Common.{List, [], ◌∷◌, ◌≡◌, ℕ, ◌<◌, ◌≤◌, ◌≢◌, inl, inr, List, refl, sym, ◌∙◌, ap, subst, arith, true, false, Option, Some, None, ◌==◌}
use Rattle.std.specs.Option.{unwrap_or}
use Rattle.std.proofs.lemmas.Option.{none-some}
use Rattle.std.proofs.lemmas.Bool.{cases_eq}
use Rattle.std.proofs.lemmas.Bool.Decides.{nat_tests}
use Rattle.of_mem.specs.CellMap.{value_for, put_pair, put_all}
use Rattle.of_mem.specs.Part.{Part, newest_at, write}
use Rattle.of_mem.specs.Programs.{Program, Done, Read, Write, RunEnd, Lacks, Ends, with_number, run_program, then_do, with_value, program_answer, memory_after, program_writes, with_writes, StaysBetween, StaysFrom, AlwaysYields, OnlyReads, IsPartOf}
use Rattle.of_mem.proofs.Changes.{changed_same, changed_other}
use Rattle.of_mem.proofs.WriteSets.{value_at_put}

pub value_at_same : (es : List (ℕ × ℕ)) (a v : ℕ) → value_for (put_pair es a v) a ≡ Some v
value_at_same es a v = let e : (a == a) ≡ true = grind (arith, nat_tests) in value_at_put es a v a ∙ rw e refl

pub value_at_other : (es : List (ℕ × ℕ)) (a v x : ℕ) → x ≢ a → value_for (put_pair es a v) x ≡ value_for es x
value_at_other es a v x n = let e : (a == x) ≡ false = grind (arith, nat_tests) in value_at_put es a v x ∙ rw e refl

pub newest_same : (p : Part) (a v : ℕ) → newest_at (write p a v) a ≡ Some v
unfolding newest_at write
newest_same p a v = rw (value_at_same p.script a v) refl

pub newest_other : (p : Part) (a v x : ℕ) → x ≢ a → newest_at (write p a v) x ≡ newest_at p x
unfolding newest_at write
newest_other p a v x n = rw (value_at_other p.script a v x n) refl

pub part_wrote : (p : Part) (m : ℕ → ℕ) (a v : ℕ) → IsPartOf p m → IsPartOf (write p a v) (with_value m a v)
part_wrote p m a v h x w e = elim (cases_eq x a) [
  | inl q ↦ rw (q, changed_same m a v) (let k : Some v ≡ Some w = sym (newest_same p a v) ∙ subst (λ (y : ℕ). newest_at (write p a v) y ≡ Some w) q e in cc)
  | inr n ↦ rw (changed_other m a v x n) (h x w (sym (newest_other p a v x n) ∙ e))
]

-- an unknown cell was unknown before a write
still_unknown : (p : Part) (a v x : ℕ) → newest_at (write p a v) x ≡ None → newest_at p x ≡ None
still_unknown p a v x e =
    elim (cases_eq x a) [
      | inl q ↦ let k : newest_at (write p a v) a ≡ Some v = newest_same p a v in let k2 : newest_at (write p a v) a ≡ None = subst (λ (y : ℕ). newest_at (write p a v) y ≡ None) q e in cc
      | inr n ↦ sym (newest_other p a v x n) ∙ e
    ]

-- how a run that ended ended
pub record Ended {A : Type 0} (f : Program A) (p : Part) (m : ℕ → ℕ) (r : A) (q : Part) : Type 0 where
  pub answers : r ≡ program_answer f m
  pub part : IsPartOf q (memory_after f m)
  pub known : q.known ≡ p.known
  pub batch : q.batch ≡ p.batch
  pub script : q.script ≡ put_all p.script (program_writes f m)

-- what a run on partial memory says of the run on a whole memory with which it agrees
abbrev pub Follows : {A : Type 0} → ℕ → ℕ → Program A → Part → (ℕ → ℕ) → RunEnd A → Type 0
Follows low size f p m (Lacks a) = (low ≤ a) × (a < size) × (newest_at p a ≡ None)
Follows low size f p m (Ends r q) = Ended f p m r q

follows_write : {A : Type 0} (low size : ℕ) (f : Program A) (p : Part) (m : ℕ → ℕ) (a v : ℕ) (r : RunEnd A) → Follows low size f (write p a v) (with_value m a v) r → Follows low size (Write a v f) p m r
unfolding write
follows_write low size f p m a v (Lacks x) h = (h.0, h.1, still_unknown p a v x h.2)
follows_write low size f p m a v (Ends r q) h = record { answers = h.answers; part = h.part; known = h.known; batch = h.batch; script = h.script }

ended_read : {A : Type 0} (a : ℕ) (k : ℕ → Program A) (p : Part) (m : ℕ → ℕ) (r : A) (q : Part) → Ended (k (m a)) p m r q → Ended (Read a k) p m r q
ended_read a k p m r q g = record { answers = g.answers; part = g.part; known = g.known; batch = g.batch; script = g.script }

follows_read : {A : Type 0} (low size a : ℕ) (k : ℕ → Program A) (p : Part) (m : ℕ → ℕ) (v : ℕ) → m a ≡ v → (r : RunEnd A) → Follows low size (k v) p m r → Follows low size (Read a k) p m r
follows_read low size a k p m v is (Lacks x) g = g
follows_read low size a k p m v is (Ends r q) g = ended_read a k p m r q (subst (λ (w : ℕ). Ended (k w) p m r q) (sym is) g)

follows_option : {A : Type 0} (low size a : ℕ) (k : ℕ → Program A) (p : Part) (m : ℕ → ℕ) → IsPartOf p m → StaysBetween low size (Read a k) m → ((v : ℕ) → StaysBetween low size (k v) m → Follows low size (k v) p m (run_program (k v) p))
    → (o : Option ℕ) → newest_at p a ≡ o → Follows low size (Read a k) p m (with_number o a (λ v. run_program (k v) p))
follows_option low size a k p m h i again None e = (i.0, i.1, e)
follows_option low size a k p m h i again (Some v) e =
    let is : m a ≡ v = h a v e in
    follows_read low size a k p m v is (run_program (k v) p) (again v (subst (λ (w : ℕ). StaysBetween low size (k w) m) is i.2))

pub run_follows : {A : Type 0} (low size : ℕ) (f : Program A) (p : Part) (m : ℕ → ℕ) → IsPartOf p m → StaysBetween low size f m → Follows low size f p m (run_program f p)
run_follows low size (Done r) p m h i = record { answers = refl; part = h; known = refl; batch = refl; script = refl }
run_follows low size (Read a k) p m h i = follows_option low size a k p m h i (λ v j. run_follows low size (k v) p m h j) (newest_at p a) refl
run_follows low size (Write a v f) p m h i = follows_write low size f p m a v (run_program f (write p a v)) (run_follows low size f (write p a v) (with_value m a v) (part_wrote p m a v h) i.3)

-- a run that ended
pub run_ended : {A : Type 0} (low size : ℕ) (f : Program A) (p q : Part) (m : ℕ → ℕ) (r : A) → IsPartOf p m → StaysBetween low size f m → run_program f p ≡ Ends r q → Ended f p m r q
run_ended low size f p q m r h i e = subst (Follows low size f p m) e (run_follows low size f p m h i)

-- A memory after a program is the memory with what the script wrote.

-- a cell stays among pairs over which others are put
stays_there : (es ds : List (ℕ × ℕ)) (a : ℕ) → value_for es a ≢ None → value_for (put_all es ds) a ≢ None
stays_there es [] a h = h
stays_there es (d ∷ ds) a h = stays_there (put_pair es d.0 d.1) ds a (elim (cases_eq a d.0) [
  | inl e ↦ λ (n : value_for (put_pair es d.0 d.1) a ≡ None). none-some d.1 (sym (subst (λ (x : ℕ). value_for (put_pair es d.0 d.1) x ≡ None) e n) ∙ value_at_same es d.0 d.1)
  | inr n ↦ λ (k : value_for (put_pair es d.0 d.1) a ≡ None). h (sym (value_at_other es d.0 d.1 a n) ∙ k)
])

or_same : (o : Option ℕ) (x y : ℕ) → o ≢ None → unwrap_or o x ≡ unwrap_or o y
or_same None x y n = absurd (n refl)
or_same (Some v) x y n = refl

-- a cell that is written again needs not be written before
written_over : (m : ℕ → ℕ) (a v : ℕ) (es : List (ℕ × ℕ)) → value_for es a ≢ None → with_writes (with_value m a v) es ≡ with_writes m es
unfolding with_writes
written_over m a v es there = λ i x. at x i
  where
    at : (x : ℕ) → unwrap_or (value_for es x) (with_value m a v x) ≡ unwrap_or (value_for es x) (m x)
    at x = elim (cases_eq x a) [
      | inl e ↦ or_same (value_for es x) (with_value m a v x) (m x) (subst (λ (y : ℕ). value_for es y ≢ None) (sym e) there)
      | inr n ↦ ap (unwrap_or (value_for es x)) (changed_other m a v x n)
    ]

or_known : (o : Option ℕ) (x : ℕ) → ((v : ℕ) → o ≡ Some v → x ≡ v) → x ≡ unwrap_or o x
or_known None x h = refl
or_known (Some v) x h = h v refl

newest_script : (p : Part) (a v : ℕ) → value_for p.script a ≡ Some v → newest_at p a ≡ Some v
unfolding newest_at
newest_script p a v e = rw e refl

-- what the script wrote stands in each memory of which it is part
pub writes_stand : (p : Part) (m : ℕ → ℕ) → IsPartOf p m → m ≡ with_writes m p.script
unfolding with_writes
writes_stand p m h = λ i a. or_known (value_for p.script a) (m a) (λ v e. h a v (newest_script p a v e)) i

after_writes : {A : Type 0} (f : Program A) (p : Part) (m : ℕ → ℕ) → IsPartOf p m → memory_after f m ≡ with_writes m (put_all p.script (program_writes f m))
unfolding write
after_writes (Done r) p m h = writes_stand p m h
after_writes (Read a k) p m h = after_writes (k (m a)) p m h
after_writes (Write a v f) p m h =
    after_writes f (write p a v) (with_value m a v) (part_wrote p m a v h)
    ∙ written_over m a v (put_all (put_pair p.script a v) (program_writes f (with_value m a v))) (stays_there (put_pair p.script a v) (program_writes f (with_value m a v)) a (λ (n : value_for (put_pair p.script a v) a ≡ None). none-some v (sym n ∙ value_at_same p.script a v)))

pub after_ended : {A : Type 0} (f : Program A) (p q : Part) (m : ℕ → ℕ) (r : A) → IsPartOf p m → Ended f p m r q → memory_after f m ≡ with_writes m q.script
after_ended f p q m r h d = after_writes f p m h ∙ ap (with_writes m) (sym d.script)

-- One program after the other.

abbrev pub chained : {A B : Type 0} → RunEnd A → (A → Part → RunEnd B) → RunEnd B
chained (Lacks a) k = Lacks a
chained (Ends r q) k = k r q

then_option : {A B : Type 0} (a : ℕ) (k : ℕ → Program A) (g : A → Program B) (p : Part) → ((v : ℕ) → run_program (then_do (k v) g) p ≡ chained (run_program (k v) p) (λ r q. run_program (g r) q))
    → (o : Option ℕ) → with_number o a (λ v. run_program (then_do (k v) g) p) ≡ chained (with_number o a (λ v. run_program (k v) p)) (λ r q. run_program (g r) q)
then_option a k g p again None = refl
then_option a k g p again (Some v) = again v

pub run_then : {A B : Type 0} (f : Program A) (g : A → Program B) (p : Part) → run_program (then_do f g) p ≡ chained (run_program f p) (λ r q. run_program (g r) q)
run_then (Done r) g p = refl
run_then (Read a k) g p = then_option a k g p (λ v. run_then (k v) g p) (newest_at p a)
run_then (Write a v f) g p = run_then f g (write p a v)

pub run_then_gives : {A B : Type 0} (f : Program A) (g : A → Program B) (p q : Part) (r : A) → run_program f p ≡ Ends r q → run_program (then_do f g) p ≡ run_program (g r) q
run_then_gives f g p q r e = run_then f g p ∙ ap (λ x. chained x (λ r q. run_program (g r) q)) e

pub run_then_needs : {A B : Type 0} (f : Program A) (g : A → Program B) (p : Part) (a : ℕ) → run_program f p ≡ Lacks a → run_program (then_do f g) p ≡ Lacks a
run_then_needs f g p a e = run_then f g p ∙ ap (λ x. chained x (λ r q. run_program (g r) q)) e

pub answer_then : {A B : Type 0} (f : Program A) (g : A → Program B) (m : ℕ → ℕ) → program_answer (then_do f g) m ≡ program_answer (g (program_answer f m)) (memory_after f m)
answer_then (Done r) g m = refl
answer_then (Read a k) g m = answer_then (k (m a)) g m
answer_then (Write a v f) g m = answer_then f g (with_value m a v)

pub after_then : {A B : Type 0} (f : Program A) (g : A → Program B) (m : ℕ → ℕ) → memory_after (then_do f g) m ≡ memory_after (g (program_answer f m)) (memory_after f m)
after_then (Done r) g m = refl
after_then (Read a k) g m = after_then (k (m a)) g m
after_then (Write a v f) g m = after_then f g (with_value m a v)

pub inside_then : {A B : Type 0} (low size : ℕ) (f : Program A) (g : A → Program B) (m : ℕ → ℕ) → StaysBetween low size f m → StaysBetween low size (g (program_answer f m)) (memory_after f m) → StaysBetween low size (then_do f g) m
inside_then low size (Done r) g m h k = k
inside_then low size (Read a q) g m h k = (h.0, h.1, inside_then low size (q (m a)) g m h.2 k)
inside_then low size (Write a v f) g m h k = (h.0, h.1, h.2, inside_then low size f g (with_value m a v) h.3 k)

-- where the second one stays for each answer that the first one may give
pub stays_after : {A B : Type 0} (low : ℕ) (P : A → Type 0) (f : Program A) (g : A → Program B) → StaysFrom low f → AlwaysYields P f → ((r : A) → P r → StaysFrom low (g r)) → StaysFrom low (then_do f g)
stays_after low P (Done r) g h y k = k r y
stays_after low P (Read a q) g h y k = (h.0, λ v. stays_after low P (q v) g (h.1 v) (y v) k)
stays_after low P (Write a v f) g h y k = (h.0, stays_after low P f g h.1 y k)

pub stays_then : {A B : Type 0} (low : ℕ) (f : Program A) (g : A → Program B) → StaysFrom low f → ((r : A) → StaysFrom low (g r)) → StaysFrom low (then_do f g)
stays_then low (Done r) g h k = k r
stays_then low (Read a q) g h k = (h.0, λ v. stays_then low (q v) g (h.1 v) k)
stays_then low (Write a v f) g h k = (h.0, stays_then low f g h.1 k)

pub reads_then : {A B : Type 0} (f : Program A) (g : A → Program B) → OnlyReads f → ((r : A) → OnlyReads (g r)) → OnlyReads (then_do f g)
reads_then (Done r) g h k = k r
reads_then (Read a q) g h k = λ v. reads_then (q v) g (h v) k
reads_then (Write a v f) g h k = absurd h

abbrev pad : List (Option ℕ) → List (ℕ × ℕ) → List (ℕ × ℕ) → Part
pad known batch script = record { known = known; batch = batch; script = script }

-- a run without writes leaves the partial memory as it was
pub unchanged : {A : Type 0} (f : Program A) (p q : Part) (m : ℕ → ℕ) (r : A) → Ended f p m r q → program_writes f m ≡ [] → q ≡ p
unchanged f p q m r e none = ap (λ (x : List (Option ℕ)). pad x q.batch q.script) e.known ∙ ap (λ (x : List (ℕ × ℕ)). pad p.known x q.script) e.batch ∙ ap (pad p.known p.batch) (e.script ∙ ap (put_all p.script) none)

-- One step of a run.

pub run_read : {A : Type 0} (a : ℕ) (k : ℕ → Program A) (p : Part) (v : ℕ) → newest_at p a ≡ Some v → run_program (Read a k) p ≡ run_program (k v) p
run_read a k p v e = rw e refl

pub run_unknown : {A : Type 0} (a : ℕ) (k : ℕ → Program A) (p : Part) → newest_at p a ≡ None → run_program (Read a k) p ≡ Lacks a
run_unknown a k p e = rw e refl

-- what is read of a cell after writes to other cells
pub read_before : (p : Part) (a v x w : ℕ) → x ≢ a → newest_at (write p a v) x ≡ Some w → newest_at p x ≡ Some w
read_before p a v x w n e = sym (newest_other p a v x n) ∙ e

pub two_before : (p p1 p2 : Part) (a1 v1 a2 v2 x y w : ℕ) → p1 ≡ write p a1 v1 → p2 ≡ write p1 a2 v2 → x ≢ a1 → x ≢ a2 → y ≡ x → newest_at p2 y ≡ Some w → newest_at p x ≡ Some w
two_before p p1 p2 a1 v1 a2 v2 x y w e1 e2 n1 n2 is h =
    let h2 : newest_at (write p1 a2 v2) x ≡ Some w = rw (is, e2) at h in
    let h1 : newest_at (write p a1 v1) x ≡ Some w = rw e1 at (read_before p1 a2 v2 x w n2 h2) in
    read_before p a1 v1 x w n1 h1

pub four_before : (p p1 p2 p3 p4 : Part) (a1 v1 a2 v2 a3 v3 a4 v4 x y w : ℕ) → p1 ≡ write p a1 v1 → p2 ≡ write p1 a2 v2 → p3 ≡ write p2 a3 v3 → p4 ≡ write p3 a4 v4 → x ≢ a1 → x ≢ a2 → x ≢ a3 → x ≢ a4 → y ≡ x → newest_at p4 y ≡ Some w → newest_at p x ≡ Some w
four_before p p1 p2 p3 p4 a1 v1 a2 v2 a3 v3 a4 v4 x y w e1 e2 e3 e4 n1 n2 n3 n4 is h =
    let h4 : newest_at (write p3 a4 v4) x ≡ Some w = rw (is, e4) at h in
    let h3 : newest_at (write p2 a3 v3) x ≡ Some w = rw e3 at (read_before p3 a4 v4 x w n4 h4) in
    let h2 : newest_at (write p1 a2 v2) x ≡ Some w = rw e2 at (read_before p2 a3 v3 x w n3 h3) in
    let h1 : newest_at (write p a1 v1) x ≡ Some w = rw e1 at (read_before p1 a2 v2 x w n2 h2) in
    read_before p a1 v1 x w n1 h1
