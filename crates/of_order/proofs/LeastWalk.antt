-- The walk to the least key from one on, and the program that it is a part of.
use Rattle.std.proofs.Common.{◌≡◌, ℕ, zero, suc, ◌+◌, ◌-◌, ◌<◌, ◌≤◌, inl, inr, refl, sym, ◌∙◌, ap, subst, arith, Option, Some, None, List, [], ◌∷◌}
use Rattle.std.specs.List.{AllByRecursion as Each}
use Rattle.of_mem.specs.declared.plot.Plot.{Plot}
use Rattle.of_mem.specs.declared.walk.Sought.TheVariants.{LeastFrom}
use Rattle.of_mem.specs.declared.walk.Walk.{Walk}
use Rattle.of_mem.specs.Part.{Part, newest_at}
use Rattle.of_mem.specs.Places.{bucket_count, bucket_at, cells_at}
use Rattle.of_mem.specs.Plots.{base}
use Rattle.of_mem.specs.Programs.{Program, Read, Lacks, Ends, run_program, IsPartOf}
use Rattle.of_mem.specs.Stores.{IsChain, first_at, link_at}
use Rattle.of_mem.specs.Calls.{HasStore}
use Rattle.of_mem.specs.Walks.{Weighs, WeighsBucket, WeighsBuckets, CameTo, HasCome, better_of}
use Rattle.of_mem.proofs.BucketPlaces.{bucket_in}
use Rattle.of_mem.proofs.Counts.{blocks_below}
use Rattle.of_mem.proofs.Heaps.{front_bucket}
use Rattle.of_mem.proofs.Runs.{run_read, run_unknown, run_then_gives, run_then_needs}
use Rattle.of_order.specs.OrderPrograms.{least_walk, from_front, weigh_key, least_in_program, least_buckets, least_program}
use Rattle.of_order.proofs.Rests.{whole}
use Rattle.of_order.proofs.Walking.{one_bucket}

-- the rest of a bucket, from this pointer cell on, past at most so many blocks
abbrev pub rest_of : ℕ → ℕ → ℕ → ℕ → Option ℕ → Program (Option ℕ)
rest_of o low n cell best = Read cell (from_front o n low best)

module _ (o low : ℕ) (p : Part) where
  -- to a block
  key_next : (n cell : ℕ) (best : Option ℕ) (b : ℕ) → newest_at p cell ≡ Some (suc b) → run_program (rest_of o low (suc n) cell best) p ≡ run_program (Read (first_at o b) (weigh_key o low (least_walk o low n) b best)) p
  key_next n cell best b at = run_read cell (from_front o (suc n) low best) p (suc b) at

  pub lacks_key : (n cell : ℕ) (best : Option ℕ) (b : ℕ) → newest_at p cell ≡ Some (suc b) → newest_at p (first_at o b) ≡ None → run_program (rest_of o low (suc n) cell best) p ≡ Lacks (first_at o b)
  lacks_key n cell best b at none = key_next n cell best b at ∙ run_unknown (first_at o b) (weigh_key o low (least_walk o low n) b best) p none

  -- and past it
  past_block : (n cell : ℕ) (best : Option ℕ) (b k : ℕ) → newest_at p cell ≡ Some (suc b) → newest_at p (first_at o b) ≡ Some k → run_program (rest_of o low (suc n) cell best) p ≡ run_program (rest_of o low n (link_at o b) (better_of low k best)) p
  past_block n cell best b k at found = key_next n cell best b at ∙ run_read (first_at o b) (weigh_key o low (least_walk o low n) b best) p k found

  pub weighs_run : (n m from : ℕ) (best : Option ℕ) (to : ℕ) (result : Option ℕ) → Weighs o low p n from best to result → run_program (rest_of o low (n + m) from best) p ≡ run_program (rest_of o low m to result) p
  weighs_run zero m from best to result w =
      let e : zero + m ≡ m = omega arith in
      ap (λ (i : ℕ). run_program (rest_of o low i from best) p) e ∙ ap (λ (c : ℕ). run_program (rest_of o low m c best) p) w.0
      ∙ ap (λ (r : Option ℕ). run_program (rest_of o low m to r) p) w.1
  weighs_run (suc n) m from best to result (b, k, at, found, rest) =
      let e : suc n + m ≡ suc (n + m) = omega arith in
      ap (λ (i : ℕ). run_program (rest_of o low i from best) p) e ∙ past_block (n + m) from best b k at found
      ∙ weighs_run n m (link_at o b) (better_of low k best) to result rest

  no_block : (n : ℕ) (best : Option ℕ) → run_program (least_walk o low n 0 best) p ≡ Ends best p
  no_block zero best = refl
  no_block (suc n) best = refl

  -- a bucket that is passed
  pub bucket_run : (blocks i : ℕ) (best result : Option ℕ) → WeighsBucket o blocks low p i best result → run_program (least_in_program o blocks i low best) p ≡ Ends result p
  bucket_run blocks i best result w =
      let n : ℕ = blocks - w.passed in
      let e : blocks ≡ w.passed + n = omega (arith, w.few) in
      ap (λ (j : ℕ). run_program (rest_of o low j (bucket_at o blocks i) best) p) e
      ∙ weighs_run w.passed n (bucket_at o blocks i) best w.to result w.weighs
      ∙ run_read w.to (from_front o n low result) p w.last w.known
      ∙ elim w.ends [
        | inl z ↦ ap (λ (f : ℕ). run_program (least_walk o low n f result) p) z ∙ no_block n result
        | inr all ↦ (let none : n ≡ 0 = omega (arith, all) in ap (λ (j : ℕ). run_program (least_walk o low j w.last result) p) none)
      ]

  -- the buckets that are passed
  pub buckets_run : (blocks i : ℕ) (result : Option ℕ) → i ≤ bucket_count blocks → WeighsBuckets o blocks low p i result → run_program (least_program o blocks low) p ≡ run_program (least_buckets o blocks low (bucket_count blocks - i) i result) p
  buckets_run blocks zero result l none =
      ap (λ (r : Option ℕ). run_program (least_buckets o blocks low (bucket_count blocks) 0 r) p) (sym none)
      ∙ ap (λ (n : ℕ). run_program (least_buckets o blocks low n 0 result) p) (whole (bucket_count blocks))
  buckets_run blocks (suc i) result l (best, before, here) =
      let further = least_buckets o blocks low (bucket_count blocks - (i + 1)) (i + 1) in
      let e : i + 1 ≡ suc i = omega arith in
      buckets_run blocks i best (omega (arith, l)) before
      ∙ ap (λ (f : Program (Option ℕ)). run_program f p) (one_bucket o blocks low (bucket_count blocks) i best (omega (arith, l)))
      ∙ run_then_gives (least_in_program o blocks i low best) further p p result (bucket_run blocks i best result here)
      ∙ ap (λ (j : ℕ). run_program (least_buckets o blocks low (bucket_count blocks - j) j result) p) e

  -- what the rest of the bucket lacks, the program lacks
  pub came_lacks : (blocks : ℕ) (w : Walk) (a : ℕ) → CameTo o blocks (LeastFrom low) p w → run_program (rest_of o low (blocks - w.passed) w.cell w.best) p ≡ Lacks a → run_program (least_program o blocks low) p ≡ Lacks a
  came_lacks blocks w a (few, bucket, best, before, here) lacks =
      let n : ℕ = blocks - w.passed in
      let e : blocks ≡ w.passed + n = omega (arith, few) in
      buckets_run blocks w.bucket best (omega (arith, bucket)) before
      ∙ ap (λ (f : Program (Option ℕ)). run_program f p) (one_bucket o blocks low (bucket_count blocks) w.bucket best bucket)
      ∙ run_then_needs (least_in_program o blocks w.bucket low best) (least_buckets o blocks low (bucket_count blocks - (w.bucket + 1)) (w.bucket + 1)) p a
      (ap (λ (j : ℕ). run_program (rest_of o low j (bucket_at o blocks w.bucket) best) p) e ∙ weighs_run w.passed n (bucket_at o blocks w.bucket) best w.cell w.best here ∙ lacks)

-- where the walk came to, a chain of blocks of the plot begins
pub record LeadsOn (o blocks : ℕ) (m : ℕ → ℕ) (cell : ℕ) : Type 0 where
  pub inside : cell < cells_at o blocks
  pub chain : List ℕ
  pub linked : IsChain o m cell chain
  pub below : Each (λ b. b < blocks) chain

leads_past : (o blocks low : ℕ) (p : Part) (m : ℕ → ℕ) (n from : ℕ) (best : Option ℕ) (to : ℕ) (result : Option ℕ) → IsPartOf p m → Weighs o low p n from best to result → LeadsOn o blocks m from → LeadsOn o blocks m to
leads_past o blocks low p m zero from best to result is w h = subst (LeadsOn o blocks m) w.0 h
leads_past o blocks low p m (suc n) from best to result is (b, k, at, found, rest) h = leads_past o blocks low p m n (link_at o b) (better_of low k best) to result is rest (go h.chain h.linked h.below)
  where
    go : (l : List ℕ) → IsChain o m from l → Each (λ b. b < blocks) l → LeadsOn o blocks m (link_at o b)
    go [] k below = let e : m from ≡ suc b = is from (suc b) at in absurd (omega (arith, e, k))
    go (x ∷ l) k below =
        let e : m from ≡ suc b = is from (suc b) at in
        let s : x ≡ b = omega (arith, k.0, e) in
        record {
          inside = omega (arith, below.0, s);
          chain = l;
          linked = subst (λ (y : ℕ). IsChain o m (link_at o y) l) s k.1;
          below = below.1;
        }

pub came_leads : (plot : Plot) (low : ℕ) (p : Part) (w : Walk) (h : HasStore plot p) → HasCome plot (LeastFrom low) p w → LeadsOn (base plot) plot.blocks h.memory w.cell
came_leads plot low p w h (few, bucket, best, before, here) =
    let front : LeadsOn (base plot) plot.blocks h.memory (bucket_at (base plot) plot.blocks w.bucket) = record {
      inside = (bucket_in (base plot) plot.blocks w.bucket bucket).1;
      chain = h.stands.chains (1 + w.bucket);
      linked = subst (λ (x : ℕ). IsChain (base plot) h.memory x (h.stands.chains (1 + w.bucket))) (front_bucket (base plot) plot.blocks w.bucket bucket) (h.stands.heap.linked (1 + w.bucket) (omega (arith, bucket)));
      below = blocks_below (base plot) plot.blocks h.memory h.store h.stands (1 + w.bucket) (omega (arith, bucket));
    } in
    leads_past (base plot) plot.blocks low p h.memory w.passed (bucket_at (base plot) plot.blocks w.bucket) best w.cell w.best h.part here front

-- the block to which its cell points is one of the plot
pub came_below : (plot : Plot) (low : ℕ) (p : Part) (w : Walk) (f : ℕ) → HasStore plot p → HasCome plot (LeastFrom low) p w → newest_at p w.cell ≡ Some (suc f) → f < plot.blocks
came_below plot low p w f h came at = let g = came_leads plot low p w h came in go g.chain g.linked g.below
  where
    go : (l : List ℕ) → IsChain (base plot) h.memory w.cell l → Each (λ b. b < plot.blocks) l → f < plot.blocks
    go [] k below = let e : h.memory w.cell ≡ suc f = h.part w.cell (suc f) at in absurd (omega (arith, e, k))
    go (x ∷ l) k below = let e : h.memory w.cell ≡ suc f = h.part w.cell (suc f) at in omega (arith, k.0, below.0, e)
