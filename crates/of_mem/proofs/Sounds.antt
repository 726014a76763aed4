-- A work whose operations are programs keeps the rules of a work.
use Rattle.std.proofs.Common.{◌≡◌, ℕ, ◌+◌, ◌-◌, ◌<◌, ◌≤◌, inl, inr, refl, sym, ◌∙◌, ap, subst, arith, cond, Bool, true, false, Option, Some, None, List, [], ◌∷◌, length, get_or, set, drop, length-set}
use Rattle.std.specs.List.{AllByRecursion as Each}
use Rattle.std.proofs.lemmas.Bool.{cases_eq}
use Rattle.std.proofs.lemmas.List.{get_or-set_same, get_or-set_other, get_or-drop}
use Rattle.of_mem.specs.Numbers.{FitsCell}
use Rattle.of_mem.specs.declared.work.RawReply.{RawReply}
use Rattle.of_mem.specs.CellMap.{put_pair, put_all}
use Rattle.of_mem.specs.Part.{Part, newest_at, write}
use Rattle.of_mem.specs.Programs.{Program, Done, Read, Write, RunEnd, Lacks, Ends, with_number, run_program, with_value, program_answer, memory_after, program_writes, StaysBetween, StaysFrom, OnlyReads, IsPartOf}
use Rattle.of_mem.specs.Meaning.{IsSoundMeaning, Gives, with_writes_in, Agrees, SameFrom, HasDistinctCells, IsFinishedWalk, WalkFits}
use Rattle.of_mem.specs.ProgramWork.{memory_of, fresh_part, walk_of_run, meaning_of, IsReplyTo, AreSound}
use Rattle.of_mem.proofs.Changes.{changed_same, changed_other}
use Rattle.of_mem.proofs.Runs.{newest_same, newest_other, Ended, Follows, run_follows}
use Rattle.of_mem.proofs.Writes.{once_put_all, once_none, each_put_all, all_each, written_length, written_put_all, written_from, put_all_few}

-- a list with one cell written is the memory with that cell written
pub memory-set : (xs : List ℕ) (a v : ℕ) → a < length xs → memory_of (set xs a v) ≡ with_value (memory_of xs) a v
memory-set xs a v l = λ i x. at x i
  where
    at : (x : ℕ) → memory_of (set xs a v) x ≡ with_value (memory_of xs) a v x
    at x = elim (cases_eq x a) [
      | inl e ↦ rw (e, changed_same (memory_of xs) a v) (get_or-set_same xs a v 0 l)
      | inr n ↦ rw (changed_other (memory_of xs) a v x n) (get_or-set_other xs a x v 0 n)
    ]

-- a list with a program's writes is the memory that the program leaves
pub memory-written : {A : Type 0} (low size : ℕ) (f : Program A) (xs : List ℕ) → length xs ≡ size → StaysBetween low size f (memory_of xs) → memory_of (with_writes_in xs (program_writes f (memory_of xs))) ≡ memory_after f (memory_of xs)
memory-written low size (Done r) xs e h = refl
memory-written low size (Read a k) xs e h = memory-written low size (k (memory_of xs a)) xs e h.2
memory-written low size (Write a v f) xs e h =
    let l : a < length xs = omega (arith, h.1) in
    let is : memory_of (set xs a v) ≡ with_value (memory_of xs) a v = memory-set xs a v l in
    let g = memory-written low size f (set xs a v) (length-set xs a v ∙ e) (subst (λ (n : ℕ → ℕ). StaysBetween low size f n) (sym is) h.3) in
    subst (λ (n : ℕ → ℕ). memory_of (with_writes_in (set xs a v) (program_writes f n)) ≡ memory_after f n) is g

abbrev IsWrite : ℕ → ℕ → ℕ × ℕ → Type 0
IsWrite low size e = (low ≤ e.0) × (e.0 < size) × FitsCell e.1

writes_inside : {A : Type 0} (low size : ℕ) (f : Program A) (m : ℕ → ℕ) → StaysBetween low size f m → Each (IsWrite low size) (program_writes f m)
writes_inside low size (Done r) m h = tt
writes_inside low size (Read a k) m h = writes_inside low size (k (m a)) m h.2
writes_inside low size (Write a v f) m h = ((h.0, h.1, h.2), writes_inside low size f (with_value m a v) h.3)

no_writes : {A : Type 0} (f : Program A) (m : ℕ → ℕ) → OnlyReads f → program_writes f m ≡ []
no_writes (Done r) m h = refl
no_writes (Read a k) m h = no_writes (k (m a)) m (h (m a))
no_writes (Write a v f) m h = absurd h

changed_from : (low : ℕ) (m n : ℕ → ℕ) (b v : ℕ) → ((a : ℕ) → low ≤ a → m a ≡ n a) → (a : ℕ) → low ≤ a → with_value m b v a ≡ with_value n b v a
changed_from low m n b v h a l = elim (cases_eq a b) [
  | inl e ↦ rw (e, changed_same m b v, changed_same n b v) refl
  | inr e ↦ changed_other m b v a e ∙ h a l ∙ sym (changed_other n b v a e)
]

-- memories that are alike from a cell on give the same answer and the same writes to a program that stays there
pub answer_from : {A : Type 0} (low : ℕ) (f : Program A) (m n : ℕ → ℕ) → StaysFrom low f → ((a : ℕ) → low ≤ a → m a ≡ n a) → (program_answer f m ≡ program_answer f n) × (program_writes f m ≡ program_writes f n)
answer_from low (Done r) m n s h = (refl, refl)
answer_from low (Read a k) m n s h = subst (λ (v : ℕ). (program_answer (k (m a)) m ≡ program_answer (k v) n) × (program_writes (k (m a)) m ≡ program_writes (k v) n)) (h a s.0) (answer_from low (k (m a)) m n (s.1 (m a)) h)
answer_from low (Write a v f) m n s h = let g = answer_from low f (with_value m a v) (with_value n a v) s.1 (changed_from low m n a v h) in (g.0, ap (λ (es : List (ℕ × ℕ)). (a, v) ∷ es) g.1)

newest_fresh : (known : List (Option ℕ)) (a : ℕ) → newest_at (fresh_part known) a ≡ get_or known a None
unfolding newest_at
newest_fresh known a = refl

pub part_fresh : (known : List (Option ℕ)) (xs : List ℕ) → Agrees known xs → IsPartOf (fresh_part known) (memory_of xs)
part_fresh known xs h a v q = h a v (sym (newest_fresh known a) ∙ q)

known_same : (low : ℕ) (known others : List (Option ℕ)) → drop low known ≡ drop low others → (a : ℕ) → low ≤ a → get_or known a None ≡ get_or others a None
known_same low known others same a k =
    let e : get_or (drop low known) (a - low) None ≡ get_or (drop low others) (a - low) None = ap (λ (l : List (Option ℕ)). get_or l (a - low) None) same in
    let b : low + (a - low) ≡ a = omega arith in
    let p : get_or known (low + (a - low)) None ≡ get_or others (low + (a - low)) None = sym (get_or-drop low known (a - low) None) ∙ e ∙ get_or-drop low others (a - low) None in
    rw b at p

wrote_from : (low : ℕ) (p q : Part) (b v : ℕ) → ((a : ℕ) → low ≤ a → newest_at p a ≡ newest_at q a) → (a : ℕ) → low ≤ a → newest_at (write p b v) a ≡ newest_at (write q b v) a
wrote_from low p q b v h a l = elim (cases_eq a b) [
  | inl e ↦ rw e (newest_same p b v ∙ sym (newest_same q b v))
  | inr e ↦ newest_other p b v a e ∙ h a l ∙ sym (newest_other q b v a e)
]

wrote_script : (p q : Part) (b v : ℕ) → p.script ≡ q.script → (write p b v).script ≡ (write q b v).script
unfolding write
wrote_script p q b v e = ap (λ (es : List (ℕ × ℕ)). put_pair es b v) e

read_from : (keeps : RawReply → Bool) (a : ℕ) (k : ℕ → Program RawReply) (p q : Part) → ((v : ℕ) → walk_of_run keeps (run_program (k v) p) ≡ walk_of_run keeps (run_program (k v) q))
    → (o : Option ℕ) → walk_of_run keeps (with_number o a (λ v. run_program (k v) p)) ≡ walk_of_run keeps (with_number o a (λ v. run_program (k v) q))
read_from keeps a k p q again None = refl
read_from keeps a k p q again (Some v) = again v

-- partial memories that are alike from a cell on give the same walk to a program that stays there
walk_from : (keeps : RawReply → Bool) (low : ℕ) (f : Program RawReply) (p q : Part) → StaysFrom low f → p.script ≡ q.script → ((a : ℕ) → low ≤ a → newest_at p a ≡ newest_at q a) → walk_of_run keeps (run_program f p) ≡ walk_of_run keeps (run_program f q)
walk_from keeps low (Done r) p q s e h = ap (λ (es : List (ℕ × ℕ)). Gives (cond (keeps r) es []) r) e
walk_from keeps low (Read a k) p q s e h =
    read_from keeps a k p q (λ v. walk_from keeps low (k v) p q (s.1 v) e h) (newest_at p a)
    ∙ ap (λ (o : Option ℕ). walk_of_run keeps (with_number o a (λ v. run_program (k v) q))) (h a s.0)
walk_from keeps low (Write a v f) p q s e h = walk_from keeps low f (write p a v) (write q a v) s.1 (wrote_script p q a v e) (wrote_from low p q a v h)

drop_same : (low : ℕ) (xs ys : List ℕ) → SameFrom low xs ys → (a : ℕ) → low ≤ a → memory_of xs a ≡ memory_of ys a
drop_same low xs ys same a k =
    let e : get_or (drop low xs) (a - low) 0 ≡ get_or (drop low ys) (a - low) 0 = ap (λ (l : List ℕ). get_or l (a - low) 0) same in
    let b : low + (a - low) ≡ a = omega arith in
    let p : get_or xs (low + (a - low)) 0 ≡ get_or ys (low + (a - low)) 0 = sym (get_or-drop low xs (a - low) 0) ∙ e ∙ get_or-drop low ys (a - low) 0 in
    rw b at p

module _ (keeps : RawReply → Bool) (reads : List ℕ → Bool) (program : List ℕ → Program RawReply) (lawful : (ℕ → ℕ) → Type 0) (low size : ℕ) (h : AreSound keeps reads program lawful low size) where
  leads : (xs op : List ℕ) → length xs ≡ size → lawful (memory_of xs) → (t : Bool) → keeps (program_answer (program op) (memory_of xs)) ≡ t → lawful (memory_of (cond t (with_writes_in xs (program_writes (program op) (memory_of xs))) xs))
  leads xs op e l true k = subst lawful (sym (memory-written low size (program op) xs e (h.inside (memory_of xs) op l))) (h.leads (memory_of xs) op l k)
  leads xs op e l false k = l

  keeps_length : (xs : List ℕ) (es : List (ℕ × ℕ)) (t : Bool) → length (cond t (with_writes_in xs es) xs) ≡ length xs
  keeps_length xs es true = written_length xs es
  keeps_length xs es false = refl

  cells_from : (xs ys : List ℕ) (es : List (ℕ × ℕ)) (t : Bool) → SameFrom low xs ys → SameFrom low (cond t (with_writes_in xs es) xs) (cond t (with_writes_in ys es) ys)
  cells_from xs ys es true same = written_from low xs ys es same
  cells_from xs ys es false same = same

  cells_at : (xs : List ℕ) (es ds : List (ℕ × ℕ)) (t : Bool) → with_writes_in xs es ≡ with_writes_in xs ds → cond t (with_writes_in xs es) xs ≡ with_writes_in xs (cond t ds [])
  cells_at xs es ds true e = e
  cells_at xs es ds false e = refl

  inside_kept : (es : List (ℕ × ℕ)) (t : Bool) → Each (IsWrite low size) es → Each (IsWrite low size) (cond t es [])
  inside_kept es true a = a
  inside_kept es false a = tt

  once_kept : (es : List (ℕ × ℕ)) (t : Bool) → HasDistinctCells es → HasDistinctCells (cond t es [])
  once_kept es true o = o
  once_kept es false o = once_none

  few_kept : (es : List (ℕ × ℕ)) (t : Bool) → length (cond t es []) ≤ length es
  few_kept es true = omega arith
  few_kept es false = omega arith

  none_kept : (es : List (ℕ × ℕ)) (t : Bool) → es ≡ [] → cond t es [] ≡ []
  none_kept es true e = e
  none_kept es false e = refl

  finishes : (known : List (Option ℕ)) (xs op : List ℕ) → lawful (memory_of xs) → (r : RawReply) (q : Part) → Ended (program op) (fresh_part known) (memory_of xs) r q
      → IsFinishedWalk (meaning_of keeps reads program) low size xs op (cond (keeps r) q.script []) r
  finishes known xs op l r q e = record {
    inside = all_each (IsWrite low size) (cond (keeps r) q.script []) (inside_kept q.script (keeps r) (subst (Each (IsWrite low size)) (sym e.script) (each_put_all (IsWrite low size) [] ws tt (writes_inside low size (program op) (memory_of xs) (h.inside (memory_of xs) op l)))));
    once = once_kept q.script (keeps r) (subst HasDistinctCells (sym e.script) (once_put_all [] ws once_none));
    few = elim (h.few (memory_of xs) op l) [ inl k ↦ inl k | inr k ↦ inr (omega (arith, few_kept q.script (keeps r), ap length e.script, put_all_few [] ws, k)) ];
    cells = rw (← e.answers) (cells_at xs ws q.script (keeps r) (sym (written_put_all xs [] ws once_none) ∙ ap (with_writes_in xs) (sym e.script)));
    reply = sym e.answers;
    shape = reply.shape;
    values = reply.values;
    marks = reply.marks;
    rest = reply.rest;
    reads = λ only. none_kept q.script (keeps r) (e.script ∙ ap (put_all []) (no_writes (program op) (memory_of xs) (h.reads_only op only)));
  }
    where
      ws : List (ℕ × ℕ)
      ws = program_writes (program op) (memory_of xs)

      reply : IsReplyTo op r
      reply = subst (IsReplyTo op) (sym e.answers) (h.replies (memory_of xs) op l)

  fits : (known : List (Option ℕ)) (xs op : List ℕ) → lawful (memory_of xs) → (o : RunEnd RawReply) → Follows low size (program op) (fresh_part known) (memory_of xs) o
      → WalkFits (meaning_of keeps reads program) low size known xs op (walk_of_run keeps o)
  fits known xs op l (Lacks a) f = (f.0, f.1, sym (newest_fresh known a) ∙ f.2)
  fits known xs op l (Ends r q) f = finishes known xs op l r q f

  same_run : (xs ys op : List ℕ) → SameFrom low xs ys → (program_answer (program op) (memory_of xs) ≡ program_answer (program op) (memory_of ys)) × (program_writes (program op) (memory_of xs) ≡ program_writes (program op) (memory_of ys))
  same_run xs ys op same = answer_from low (program op) (memory_of xs) (memory_of ys) (h.stays op) (drop_same low xs ys same)

  pub sound : IsSoundMeaning (meaning_of keeps reads program) (λ xs. lawful (memory_of xs)) low size
  sound = record {
    zeros = λ xs e z. h.zeros (memory_of xs) z;
    leads = λ xs op e l. leads xs op e l (keeps (program_answer (program op) (memory_of xs))) refl;
    keeps_length = λ xs op e. keeps_length xs (program_writes (program op) (memory_of xs)) (keeps (program_answer (program op) (memory_of xs))) ∙ e;
    lawful_from = λ xs ys e d same l. h.lawful_from (memory_of xs) (memory_of ys) (drop_same low xs ys same) l;
    cells_from = λ xs ys op e d same. rw (← (same_run xs ys op same).0, ← (same_run xs ys op same).1) (cells_from xs ys (program_writes (program op) (memory_of xs)) (keeps (program_answer (program op) (memory_of xs))) same);
    reply_from = λ xs ys op e d same. (same_run xs ys op same).0;
    walk_from = λ known others op e d same. walk_from keeps low (program op) (fresh_part known) (fresh_part others) (h.stays op) refl (λ a l. newest_fresh known a ∙ known_same low known others same a l ∙ sym (newest_fresh others a));
    walks = λ known xs op e l agrees. fits known xs op l (run_program (program op) (fresh_part known)) (run_follows low size (program op) (fresh_part known) (memory_of xs) (part_fresh known xs agrees) (h.inside (memory_of xs) op l));
  }
