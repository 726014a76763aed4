-- Cells on demand: a call that is made of two, and a partial memory alone.
use Rattle.std.proofs.Common.{◌≡◌, ℕ, List, length, Option, Some, None, Ok, Err, refl, sym, ◌∙◌, ap, subst}
use Rattle.std.specs.Prelude.{Result, MatchResult}
use Rattle.std.proofs.lemmas.Result.{MatchResult-weaker}
use Rattle.of_mem.specs.declared.part.Need.{Need}
use Rattle.of_mem.specs.Part.{Part, Extends, with_known, newest_at, write}
use Rattle.of_mem.specs.Programs.{Program, Done, Read, Write, Lacks, Ends, with_number, then_do, run_program, RunsAs, NeedsAt}
use Rattle.of_mem.specs.Calls.{RunsProgram}
use Rattle.of_mem.specs.OnDemand.{Running, RunGoesOn, Always, ServesRun, RunsOn, MayRun, HasOnlyRead, resting, read_cell, write_cell}
use Rattle.of_mem.proofs.Runs.{run_then_gives, run_then_needs, run_unknown}
use Rattle.of_mem.proofs.Extended.{ends_again, newest_more}

pub extends_all : (k : List (Option ℕ)) → Extends k k
extends_all k a v e = e

pub extends_on : (k l n : List (Option ℕ)) → Extends l k → Extends n l → Extends n k
extends_on k l n h g a v e = g a v (h a v e)

pub goes_nowhere : (c : Running) → c.may_know c.part.known → RunGoesOn c c
goes_nowhere c k = record { more = extends_all c.part.known; knows = k; may_know = λ _ h. h; lacks = λ _ _ h. h }

pub goes_further : (c d e : Running) → RunGoesOn c d → RunGoesOn d e → RunGoesOn c e
goes_further c d e g h = record {
  more = extends_on c.part.known d.part.known e.part.known g.more h.more;
  knows = h.knows;
  may_know = λ k x. g.may_know k (h.may_know k x);
  lacks = λ k a x. h.lacks k a (g.lacks k a x);
}

-- the run goes the same where more is known than in the end
pub ran_again : {A : Type 0} (f : Program A) (c d : Running) (r : A) (more : List (Option ℕ)) → RunsOn f c d (Ok r) → Extends more d.part.known → run_program f (with_known more c.part) ≡ Ends r (with_known more d.part)
ran_again f c d r more h e = ends_again more f (with_known d.part.known c.part) d.part r e h.walk

-- the first call of two lacks what both together lack
pub serves_first : {A B : Type 0} (f : Program A) (g : A → Program B) (c : Running) → ServesRun (then_do f g) c → ServesRun f c
serves_first f g c h more e k a n = h more e k a (run_then_needs f g (with_known more c.part) a n)

-- and the second one lacks it behind the first
pub serves_second : {A B : Type 0} (f : Program A) (g : A → Program B) (c d : Running) (r : A) → ServesRun (then_do f g) c → RunsOn f c d (Ok r) → ServesRun (g r) d
serves_second f g c d r h first more e k a n =
    first.goes.lacks more a (h more (extends_on c.part.known d.part.known more first.goes.more e) (first.goes.may_know more k) a
    (run_then_gives f g (with_known more c.part) (with_known more d.part) r (ran_again f c d r more first e) ∙ n))

-- the same of the call over the partial memories alone
pub ran_alone : {A : Type 0} (f : Program A) (c d : Running) (r : A) (more : List (Option ℕ)) → RunsOn f c d (Ok r) → Extends more d.part.known → RunsProgram f (with_known more c.part) (with_known more d.part) (Ok r)
ran_alone f c d r more h e = record { walk = ran_again f c d r more h e; known = refl; batch = h.batch }

-- what the first call makes of what was always so, is always so behind it
pub always_second : {A : Type 0} (f : Program A) (P Q : Part → Type 0) (c d : Running) (r : A) → ((p q : Part) → P p → RunsProgram f p q (Ok r) → Q q) → Always P c → RunsOn f c d (Ok r) → Always Q d
always_second f P Q c d r leads h first more e k =
    leads (with_known more c.part) (with_known more d.part) (h more (extends_on c.part.known d.part.known more first.goes.more e) (first.goes.may_know more k)) (ran_alone f c d r more first e)

-- the same program may run where less is asked of the partial memory
pub may_weaker : {A : Type 0} (f : Program A) (P Q : Part → Type 0) (c : Running) → ((p : Part) → P p → Q p) → MayRun f P c → MayRun f Q c
may_weaker f P Q c leads h = record {
  knows = h.knows;
  always = λ more e k. leads (with_known more c.part) (h.always more e k);
  serves = h.serves;
}

-- the first call of two may run where both together may
pub may_first : {A B : Type 0} (f : Program A) (g : A → Program B) (P Q : Part → Type 0) (c : Running) → ((p : Part) → P p → Q p) → MayRun (then_do f g) P c → MayRun f Q c
may_first f g P Q c leads h = record {
  knows = h.knows;
  always = λ more e k. leads (with_known more c.part) (h.always more e k);
  serves = serves_first f g c h.serves;
}

-- and so may the second one behind the first, which answered r
pub may_second : {A B : Type 0} (f : Program A) (g : A → Program B) (P Q : Part → Type 0) (c d : Running) (x r : A) → ((p q : Part) → P p → RunsProgram f p q (Ok x) → Q q) → MayRun (then_do f g) P c → RunsOn f c d (Ok x) → x ≡ r → MayRun (g r) Q d
may_second {A} f g P Q c d x r leads h first is = record {
  knows = first.goes.knows;
  always = always_second f P Q c d x leads h.always first;
  serves = subst (λ (y : A). ServesRun (g y) d) is (serves_second f g c d x h.serves first);
}

-- two calls ran as both together
pub runs_both : {A B : Type 0} (f : Program A) (g : A → Program B) (c d e : Running) (x r : A) (result : Result B Need) → RunsOn f c d (Ok x) → x ≡ r → RunsOn (g r) d e result → RunsOn (then_do f g) c e result
runs_both f g c d e x r result first is second =
    let known = e.part.known in
    let on : run_program (then_do f g) (with_known known c.part) ≡ run_program (g r) (with_known known d.part) = run_then_gives f g (with_known known c.part) (with_known known d.part) r (ran_again f c d x known first second.goes.more ∙ ap (λ y. Ends y (with_known known d.part)) is) in
    record {
      walk = MatchResult-weaker result second.walk (λ b k. on ∙ k) (λ need k. on ∙ k);
      batch = second.batch ∙ first.batch;
      goes = goes_further c d e first.goes second.goes;
    }

-- where the first call lacks a cell, both together do
pub lacks_first : {A B : Type 0} (f : Program A) (g : A → Program B) (c d : Running) (need : Need) → RunsOn f c d (Err need) → RunsOn (then_do f g) c d (Err need)
lacks_first f g c d need h = record {
  walk = run_then_needs f g (with_known d.part.known c.part) need.addr h.walk;
  batch = h.batch;
  goes = h.goes;
}

-- a program that is over
pub runs_done : {A : Type 0} (c : Running) (r : A) → c.may_know c.part.known → RunsOn (Done r) c c (Ok r)
runs_done c r k = record { walk = refl; batch = refl; goes = goes_nowhere c k }

-- what is always so is so now
pub now : (R : Part → Type 0) (c : Running) → c.may_know c.part.known → Always R c → R c.part
now R c k h = h c.part.known (extends_all c.part.known) k

-- the cell that is read next is the one that the operation lacks, if it is not known
pub may_serve : {A : Type 0} (a : ℕ) (k : ℕ → Program A) (R : Part → Type 0) (c : Running) → MayRun (Read a k) R c → newest_at c.part a ≡ None → c.lacks c.part.known a
may_serve a k R c h none = h.serves c.part.known (extends_all c.part.known) h.knows a (run_unknown a k c.part none)

-- how many cells there are stays the same
pub fits_on : {A : Type 0} (n : ℕ) (f : Program A) (R : Part → Type 0) (c d : Running) → ((p : Part) → R p → length p.known ≡ n) → MayRun f R c → RunGoesOn c d → length d.part.known ≡ n
fits_on n f R c d fits h g = fits (with_known d.part.known c.part) (h.always d.part.known g.more (g.may_know d.part.known g.knows))

-- A call on its way: where so much is known as now or more, the program f goes on from here as the
-- program g.
pub record ComesTo {A : Type 0} (f g : Program A) (c d : Running) : Type 0 where
  pub ran : (more : List (Option ℕ)) → Extends more d.part.known → run_program f (with_known more c.part) ≡ run_program g (with_known more d.part)
  pub batch : d.part.batch ≡ c.part.batch
  pub goes : RunGoesOn c d

pub comes_first : {A : Type 0} (f : Program A) (c : Running) → c.may_know c.part.known → ComesTo f f c c
comes_first f c k = record { ran = λ _ _. refl; batch = refl; goes = goes_nowhere c k }

pub comes_as : {A : Type 0} (f g h : Program A) (c d : Running) → g ≡ h → ComesTo f g c d → ComesTo f h c d
comes_as {A} f g h c d same k = subst (λ (x : Program A). ComesTo f x c d) same k

-- past a call that answered x
pub comes_past : {A B : Type 0} (f : Program B) (h : Program A) (k : A → Program B) (c d e : Running) (x : A) → ComesTo f (then_do h k) c d → RunsOn h d e (Ok x) → ComesTo f (k x) c e
comes_past f h k c d e x came r = record {
  ran = λ more g. came.ran more (extends_on d.part.known e.part.known more r.goes.more g) ∙ run_then_gives h k (with_known more d.part) (with_known more e.part) x (ran_again h d e x more r g);
  batch = r.batch ∙ came.batch;
  goes = goes_further c d e came.goes r.goes;
}

-- to the end, or to a cell that is lacked
pub comes_out : {A : Type 0} (f g : Program A) (c d e : Running) (result : Result A Need) → ComesTo f g c d → RunsOn g d e result → RunsOn f c e result
comes_out f g c d e result came r =
    let on = came.ran e.part.known r.goes.more in
    record {
      walk = MatchResult-weaker result r.walk (λ b k. on ∙ k) (λ need k. on ∙ k);
      batch = r.batch ∙ came.batch;
      goes = goes_further c d e came.goes r.goes;
    }

-- what is left may run here
pub comes_may : {A : Type 0} (f g : Program A) (P Q : Part → Type 0) (c d : Running) → MayRun f P c → ComesTo f g c d → Always Q d → MayRun g Q d
comes_may f g P Q c d h came always = record {
  knows = came.goes.knows;
  always = always;
  serves = λ more e k a n. came.goes.lacks more a (h.serves more (extends_on c.part.known d.part.known more came.goes.more e) (came.goes.may_know more k) a (came.ran more e ∙ n));
}

-- One read.

read_stays : (o : Option ℕ) (a : ℕ) (p q : Part) (v : ℕ) → newest_at p a ≡ o → with_number o a (λ w. run_program (Done w) p) ≡ Ends v q → (q ≡ p) × (newest_at p a ≡ Some v)
read_stays None a p q v is e = absurd (lacks_ends a v q e)
  where
    lacks_ends : (a v : ℕ) (q : Part) → Lacks a ≡ Ends v q → ⊥
    lacks_ends a v q e = cc
read_stays (Some w) a p q v is e = let k : w ≡ v = cc in let l : p ≡ q = cc in (sym l, is ∙ ap Some k)

-- a read leaves all but what is known, and what it gave is known then
pub read_gave : (a v : ℕ) (c d : Running) → RunsOn (read_cell a) c d (Ok v) → (d.part ≡ with_known d.part.known c.part) × (newest_at d.part a ≡ Some v)
read_gave a v c d h =
    let p = with_known d.part.known c.part in
    let k = read_stays (newest_at p a) a p d.part v refl h.walk in
    (k.0, subst (λ (q : Part). newest_at q a ≡ Some v) (sym k.0) k.1)

-- what was always so before the read is so behind it
pub always_read : (R : Part → Type 0) (a v : ℕ) (c d : Running) → Always R c → RunsOn (read_cell a) c d (Ok v) → Always R d
always_read R a v c d h r more e k =
    subst (λ (p : Part). R (with_known more p)) (sym (read_gave a v c d r).0) (h more (extends_on c.part.known d.part.known more r.goes.more e) (r.goes.may_know more k))

-- and the cell has the number that was read
pub always_read_gave : (R : Part → Type 0) (a v : ℕ) (c d : Running) → Always R c → RunsOn (read_cell a) c d (Ok v) → Always (λ p. R p × (newest_at p a ≡ Some v)) d
always_read_gave R a v c d h r more e k = (always_read R a v c d h r more e k, newest_more more d.part a v e (read_gave a v c d r).1)

pub may_after_read : {A : Type 0} (a v : ℕ) (k : ℕ → Program A) (R : Part → Type 0) (c d : Running) → MayRun (Read a k) R c → RunsOn (read_cell a) c d (Ok v) → MayRun (k v) R d
may_after_read a v k R c d h r = record {
  knows = r.goes.knows;
  always = always_read R a v c d h.always r;
  serves = serves_second (read_cell a) k c d v h.serves r;
}

-- a read that named a cell
pub read_lacked : (a : ℕ) (c d : Running) (need : Need) → HasOnlyRead c.part d.part → RunsOn (read_cell a) c d (Err need) → (newest_at d.part a ≡ None) × (need.addr ≡ a)
read_lacked a c d need same h = subst (λ (p : Part). (newest_at p a ≡ None) × (need.addr ≡ a)) (sym same) (lacked (newest_at (with_known d.part.known c.part) a) refl h.walk)
  where
    lacked : (o : Option ℕ) → newest_at (with_known d.part.known c.part) a ≡ o → with_number o a (λ w. run_program (Done w) (with_known d.part.known c.part)) ≡ Lacks need.addr → (newest_at (with_known d.part.known c.part) a ≡ None) × (need.addr ≡ a)
    lacked None is e = let k : a ≡ need.addr = cc in (is, sym k)
    lacked (Some w) is e = absurd (let k : Ends w (with_known d.part.known c.part) ≡ Lacks need.addr = e in cc)

-- the same, with the number that the cell has
pub may_after_read_gave : {A : Type 0} (a v : ℕ) (k : ℕ → Program A) (R : Part → Type 0) (c d : Running) → MayRun (Read a k) R c → RunsOn (read_cell a) c d (Ok v) → MayRun (k v) (λ p. R p × (newest_at p a ≡ Some v)) d
may_after_read_gave a v k R c d h r = record {
  knows = r.goes.knows;
  always = always_read_gave R a v c d h.always r;
  serves = serves_second (read_cell a) k c d v h.serves r;
}

pub lacks_read : {A : Type 0} (a : ℕ) (k : ℕ → Program A) (c d : Running) (need : Need) → RunsOn (read_cell a) c d (Err need) → RunsOn (Read a k) c d (Err need)
lacks_read a k c d need h = lacks_first (read_cell a) k c d need h

pub runs_read : {A : Type 0} (a v : ℕ) (k : ℕ → Program A) (c d e : Running) (result : Result A Need) → RunsOn (read_cell a) c d (Ok v) → RunsOn (k v) d e result → RunsOn (Read a k) c e result
runs_read a v k c d e result first second = runs_both (read_cell a) k c d e v v result first refl second

-- One write.

pub write_left : (a v : ℕ) (p q : Part) → RunsAs (write_cell a v) p tt q → q ≡ write p a v
write_left a v p q e = let k : run_program (write_cell a v) p ≡ Ends tt q = e in cc

-- behind a write, what it makes of a partial memory of before is so
pub may_past_write : {A : Type 0} (a v : ℕ) (f : Program A) (P Q : Part → Type 0) (c d : Running) → ((p q : Part) → P p → q ≡ write p a v → q.known ≡ p.known → Q q) → MayRun (Write a v f) P c → RunsOn (write_cell a v) c d (Ok tt) → MayRun f Q d
may_past_write a v f P Q c d leads h r = record {
  knows = r.goes.knows;
  always = always_second (write_cell a v) P Q c d tt (λ p q k w. leads p q k (write_left a v p q w.walk) w.known) h.always r;
  serves = serves_second (write_cell a v) (λ (u : Unit {0}). f) c d tt h.serves r;
}

-- the partial memory is one of before in which the cell is written
pub may_after_write : {A : Type 0} (a v : ℕ) (f : Program A) (R : Part → Type 0) (c d : Running) → MayRun (Write a v f) R c → RunsOn (write_cell a v) c d (Ok tt) → MayRun f (λ q. (p : Part) × R p × (q ≡ write p a v)) d
may_after_write a v f R c d h r = may_past_write a v f R (λ q. (p : Part) × R p × (q ≡ write p a v)) c d (λ p q k e same. (p, k, e)) h r

pub runs_write : {A : Type 0} (a v : ℕ) (f : Program A) (c d e : Running) (result : Result A Need) → RunsOn (write_cell a v) c d (Ok tt) → RunsOn f d e result → RunsOn (Write a v f) c e result
runs_write a v f c d e result first second = runs_both (write_cell a v) (λ (u : Unit {0}). f) c d e tt tt result first refl second

-- Where nothing was written.

pub only_read_on : (p q n : Part) → HasOnlyRead p q → HasOnlyRead q n → HasOnlyRead p n
only_read_on p q n h g = g ∙ ap (with_known n.known) h

pub still_known : (c d : Running) (a v : ℕ) → HasOnlyRead c.part d.part → RunGoesOn c d → newest_at c.part a ≡ Some v → newest_at d.part a ≡ Some v
still_known c d a v same g e = subst (λ (p : Part). newest_at p a ≡ Some v) (sym same) (newest_more d.part.known c.part a v g.more e)

-- what was always so is so where a call has only read
pub always_only_read : (R : Part → Type 0) (c d : Running) → Always R c → HasOnlyRead c.part d.part → RunGoesOn c d → Always R d
always_only_read R c d h same g more e k =
    subst (λ (p : Part). R (with_known more p)) (sym same) (h more (extends_on c.part.known d.part.known more g.more e) (g.may_know more k))

-- the second call of two may run behind a first one that only read, and that answered r
pub may_after_only_read : {A B : Type 0} (f : Program A) (g : A → Program B) (R : Part → Type 0) (c d : Running) (x r : A) → MayRun (then_do f g) R c → HasOnlyRead c.part d.part → RunsOn f c d (Ok x) → x ≡ r → MayRun (g r) R d
may_after_only_read {A} f g R c d x r h same first is = record {
  knows = first.goes.knows;
  always = always_only_read R c d h.always same first.goes;
  serves = subst (λ (y : A). ServesRun (g y) d) is (serves_second f g c d x h.serves first);
}

-- a run that is told from its end
pub only_read_runs : {A : Type 0} (f : Program A) (c d : Running) (result : Result A Need) → HasOnlyRead c.part d.part → RunGoesOn c d → MatchResult result (λ r. RunsAs f d.part r d.part) (λ need. NeedsAt f d.part need.addr) → RunsOn f c d result
only_read_runs f c d result same g h = record {
  walk = subst (λ (p : Part). MatchResult result (λ r. RunsAs f p r d.part) (λ need. NeedsAt f p need.addr)) same h;
  batch = ap (λ (p : Part). p.batch) same;
  goes = g;
}

-- it ran as the program does on what is known in the end
pub runs_over : {A : Type 0} (f : Program A) (c d : Running) (result : Result A Need) → RunsOn f c d result → RunsProgram f (with_known d.part.known c.part) d.part result
runs_over f c d result h = record { walk = h.walk; known = refl; batch = h.batch }

-- A partial memory alone.

pub rests : {A : Type 0} (f : Program A) (p q : Part) (result : Result A Need) → RunsOn f (resting p) (resting q) result → RunsProgram f p q result
rests f p q result h =
    let same : q.known ≡ p.known = h.goes.may_know q.known refl in
    record {
      walk = MatchResult-weaker result (subst (λ (k : List (Option ℕ)). MatchResult result (λ r. RunsAs f (with_known k p) r q) (λ need. NeedsAt f (with_known k p) need.addr)) same h.walk) (λ _ x. x) (λ _ x. x);
      known = same;
      batch = h.batch;
    }

pub rests_same : (p q : Part) → HasOnlyRead p q → RunGoesOn (resting p) (resting q) → q ≡ p
rests_same p q same g = same ∙ ap (λ (k : List (Option ℕ)). with_known k p) (g.may_know q.known refl)

pub may_rest : {A : Type 0} (f : Program A) (R : Part → Type 0) (p : Part) → R p → MayRun f R (resting p)
may_rest f R p h = record {
  knows = refl;
  always = λ more _ same. subst (λ (k : List (Option ℕ)). R (with_known k p)) (sym same) h;
  serves = λ _ _ _ _ _. tt;
}
