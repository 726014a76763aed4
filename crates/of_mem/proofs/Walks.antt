-- Walks: one block more, and what they passed where more is known.
use Rattle.std.proofs.Common.{◌≡◌, ◌≢◌, ℕ, zero, suc, ◌+◌, Option, Some, None, get_or, set, refl, sym, ap, subst, arith}
use Rattle.of_mem.specs.declared.walk.KeptWalk.{KeptWalk}
use Rattle.of_mem.specs.declared.walk.Sought.{Sought}
use Rattle.of_mem.specs.declared.walk.Sought.TheVariants.{Key, LeastFrom}
use Rattle.of_mem.specs.declared.walk.Walk.{Walk}
use Rattle.of_mem.specs.Part.{Part, newest_at, learn}
use Rattle.of_mem.specs.Places.{bucket_at}
use Rattle.of_mem.specs.Stores.{first_at, link_at}
use Rattle.of_mem.specs.Walks.{Passes, Weighs, WeighsBucket, WeighsBuckets, better_of, CameTo, IsSoundWalk}
use Rattle.of_mem.proofs.Extended.{extends_learnt, newest_more}

-- a cell of which the one memory has a number has the same number in the other
abbrev pub HasMore : Part → Part → Type 0
HasMore p q = (a v : ℕ) → newest_at p a ≡ Some v → newest_at q a ≡ Some v

pub passes_more : (o key : ℕ) (p q : Part) (n from to : ℕ) → HasMore p q → Passes o key p n from to → Passes o key q n from to
passes_more o key p q zero from to h w = w
passes_more o key p q (suc n) from to h (b, k, at, found, other, rest) = (b, k, h from (suc b) at, h (first_at o b) k found, other, passes_more o key p q n (link_at o b) to h rest)

-- past one block more
passes_suc : (o key : ℕ) (p : Part) (n from to b k : ℕ) → newest_at p to ≡ Some (suc b) → newest_at p (first_at o b) ≡ Some k → k ≢ key → Passes o key p n from to → Passes o key p (suc n) from (link_at o b)
passes_suc o key p zero from to b k at found other w = (b, k, subst (λ (c : ℕ). newest_at p c ≡ Some (suc b)) (sym w) at, found, other, refl)
passes_suc o key p (suc n) from to b k at found other (c, j, here, first, differs, rest) = (c, j, here, first, differs, passes_suc o key p n (link_at o c) to b k at found other rest)

pub passes_on : (o key : ℕ) (p : Part) (n from to b k : ℕ) → newest_at p to ≡ Some (suc b) → newest_at p (first_at o b) ≡ Some k → k ≢ key → Passes o key p n from to → Passes o key p (n + 1) from (link_at o b)
passes_on o key p n from to b k at found other w =
    let e : suc n ≡ n + 1 = omega arith in
    subst (λ (i : ℕ). Passes o key p i from (link_at o b)) e (passes_suc o key p n from to b k at found other w)

-- The walk to the least key.

module _ (o blocks low : ℕ) (p q : Part) (h : HasMore p q) where
  weighs_more : (n from : ℕ) (best : Option ℕ) (to : ℕ) (result : Option ℕ) → Weighs o low p n from best to result → Weighs o low q n from best to result
  weighs_more zero from best to result w = w
  weighs_more (suc n) from best to result (b, k, at, found, rest) = (b, k, h from (suc b) at, h (first_at o b) k found, weighs_more n (link_at o b) (better_of low k best) to result rest)

  bucket_more : (i : ℕ) (best result : Option ℕ) → WeighsBucket o blocks low p i best result → WeighsBucket o blocks low q i best result
  bucket_more i best result w = record {
    passed = w.passed;
    to = w.to;
    last = w.last;
    weighs = weighs_more w.passed (bucket_at o blocks i) best w.to result w.weighs;
    known = h w.to w.last w.known;
    few = w.few;
    ends = w.ends;
  }

  buckets_more : (i : ℕ) (result : Option ℕ) → WeighsBuckets o blocks low p i result → WeighsBuckets o blocks low q i result
  buckets_more zero result w = w
  buckets_more (suc i) result (best, before, last) = (best, buckets_more i best before, bucket_more i best result last)

pub came_more : (o blocks : ℕ) (s : Sought) (p q : Part) (w : Walk) → HasMore p q → CameTo o blocks s p w → CameTo o blocks s q w
came_more o blocks (Key key) p q w h c = (c.0, passes_more o key p q w.passed _ w.cell h c.1)
came_more o blocks (LeastFrom low) p q w h (few, bucket, best, before, here) =
    (few, bucket, best, buckets_more o blocks low p q h w.bucket best before, weighs_more o blocks low p q h w.passed _ best w.cell w.best here)

-- a walk that was kept is so where a cell that wasn't known is learnt
pub kept_learnt : (k : KeptWalk) (p : Part) (a v : ℕ) → get_or p.known a None ≡ None → IsSoundWalk k p → IsSoundWalk k (learn p a v)
kept_learnt k p a v none h kept =
    came_more k.base k.blocks k.sought p (learn p a v) k.walk (λ x w e. newest_more (set p.known a (Some v)) p x w (extends_learnt (set p.known a (Some v)) p.known a v none (λ y u q. q)) e) (h kept)

-- past one block more
pub weighs_on : (o low : ℕ) (p : Part) (n from : ℕ) (best : Option ℕ) (to : ℕ) (result : Option ℕ) (b k : ℕ) → newest_at p to ≡ Some (suc b) → newest_at p (first_at o b) ≡ Some k → Weighs o low p n from best to result → Weighs o low p (n + 1) from best (link_at o b) (better_of low k result)
weighs_on o low p n from best to result b k at found w =
    let e : suc n ≡ n + 1 = omega arith in
    subst (λ (i : ℕ). Weighs o low p i from best (link_at o b) (better_of low k result)) e (go n from best w)
  where
    go : (n from : ℕ) (best : Option ℕ) → Weighs o low p n from best to result → Weighs o low p (suc n) from best (link_at o b) (better_of low k result)
    go zero from best (is, same) = (b, k, subst (λ (c : ℕ). newest_at p c ≡ Some (suc b)) (sym is) at, found, (refl, ap (better_of low k) same))
    go (suc n) from best (c, j, here, first, rest) = (c, j, here, first, go n (link_at o c) (better_of low j best) rest)
