-- Dropping the keys below one leaves the store without them.
use Rattle.std.proofs.Common.{◌≡◌, ℕ, zero, suc, ◌+◌, ◌-◌, ◌<◌, ◌≤◌, inl, inr, refl, sym, ◌∙◌, ap, subst, arith, cond, leb, ltb, None, List, [], ◌∷◌, length, Bool, true, false, ltb-true, ltb-false, leb-true, leb-false}
use Rattle.std.specs.Prelude.{Result}
use Rattle.std.specs.Cmp.{nat_cmp_total}
use Rattle.std.specs.FinMap as fin
use Rattle.std.specs.FinMap.{get-retain_keys, nat_cmp-IsAntisymmetric, same_map}
use Rattle.std.proofs.lemmas.Bool.{cases_eq}
use Rattle.of_mem.specs.declared.plot.TheConstants.{MOST_BLOCKS}
use Rattle.of_mem.specs.declared.part.Need.{Need}
use Rattle.of_mem.specs.declared.plot.Plot.{Plot}
use Rattle.of_mem.specs.Plots.{base}
use Rattle.of_mem.specs.Part.{Part}
use Rattle.of_mem.specs.Places.{bucket_count, keys_at, bucket_at, cells_at}
use Rattle.of_mem.specs.Programs.{Program, Write, with_value, program_answer, memory_after, StaysBetween, StaysFrom}
use Rattle.of_mem.specs.Stores.{CellStore, StandsForStore, first_at, link_at}
use Rattle.of_mem.specs.Calls.{RunsProgram, ActsOnStore}
use Rattle.of_mem.proofs.Calls.{acts}
use Rattle.of_mem.proofs.BucketPlaces.{bucket_in, key_bucket}
use Rattle.of_mem.proofs.Changes.{changed_same, changed_other}
use Rattle.of_mem.proofs.Counts.{few_blocks, keys_small}
use Rattle.of_mem.proofs.Heaps.{front_bucket}
use Rattle.of_mem.proofs.Runs.{answer_then, after_then, inside_then, stays_then}
use Rattle.of_alloc.specs.BlockPrograms.{give_program}
use Rattle.of_order.specs.Means.{keys_from, after_drop, dropped_count}
use Rattle.of_order.specs.OrderPrograms.{after_give, drop_or, drop_pointer, drop_walk, drop_in_program, count_gone_program, drop_buckets, drop_program, drop_below}
use Rattle.of_order.specs.Dropping.{IsBetweenBuckets, IsInsideBucket}
use Rattle.of_order.proofs.Dropping.{at_end, at_block, bucket_done, block_below, stays, leaves, leaves_inside}

changed_is : (m : ℕ → ℕ) (a v : ℕ) → m a ≡ v → with_value m a v ≡ m
changed_is m a v e = λ i x. at x i
  where
    at : (x : ℕ) → with_value m a v x ≡ m x
    at x = elim (cases_eq x a) [
      | inl is ↦ rw is (changed_same m a v ∙ sym e)
      | inr not ↦ changed_other m a v x not
    ]

no_length : (l : List ℕ) → length l ≤ 0 → l ≡ []
no_length [] h = refl
no_length (x ∷ l) h = absurd (omega arith)

module _ (o blocks low : ℕ) (few : blocks ≤ MOST_BLOCKS) (first : CellStore) where
  -- a program stays inside, and leads to the next bucket
  abbrev pub Drops : ℕ → (ℕ → ℕ) → Program ℕ → Type 0
  Drops i m f = StaysBetween o (cells_at o blocks) f m × IsBetweenBuckets o blocks low (i + 1) first (memory_after f m) (program_answer f m)

  module _ (i : ℕ) (small : i < bucket_count blocks) where
    abbrev Walks : ℕ → Type 0
    Walks n = (m : ℕ → ℕ) (cell p gone : ℕ) (behind : List ℕ) → IsInsideBucket o blocks low i first m cell p gone behind → length behind ≤ n → Drops i m (drop_walk o low n cell p gone)

    or_drops : (n : ℕ) → Walks n → (m : ℕ → ℕ) (cell p gone b : ℕ) (l : List ℕ) → IsInsideBucket o blocks low i first m cell p gone (b ∷ l) → length l ≤ n
        → (t : Bool) → ltb (m (first_at o b)) low ≡ t → Drops i m (drop_or o (drop_walk o low n) cell b gone (m (link_at o b)) t)
    or_drops n again m cell p gone b l w k true e =
        let less : m (first_at o b) < low = ltb-true (m (first_at o b)) low e in
        let r = again _ cell (m (link_at o b)) (gone + 1) l (leaves o blocks low i small first m cell p gone b l w few less) k in
        (inside_then o (cells_at o blocks) (Write cell (m (link_at o b)) (give_program o b)) (after_give o (drop_walk o low n) cell (m (link_at o b)) gone) m (leaves_inside o blocks low i small first m cell p gone b l w few less) r.0, r.1)
    or_drops n again m cell p gone b l w k false e =
        again m (link_at o b) (m (link_at o b)) gone l (stays o blocks low i small first m cell p gone b l w (ltb-false (m (first_at o b)) low e)) k

    at_drops : (n : ℕ) → Walks n → (m : ℕ → ℕ) (cell p gone : ℕ) (behind : List ℕ) → IsInsideBucket o blocks low i first m cell p gone behind → length behind ≤ suc n → (q : ℕ) → p ≡ q → Drops i m (drop_pointer o low (drop_walk o low n) cell gone q)
    at_drops n again m cell p gone behind w k zero e = (tt, bucket_done o blocks low i small first m cell p gone behind w (at_end o blocks low i small first m cell p gone behind w e))
    at_drops n again m cell p gone behind w k (suc b) e =
        let t = at_block o blocks low i small first m cell p gone behind w b e in
        let here = subst (λ (l : List ℕ). IsInsideBucket o blocks low i first m cell p gone l) t.1 w in
        let below : b < blocks = block_below o blocks low i small first m cell p gone b t.0 here in
        let r = or_drops n again m cell p gone b t.0 here (omega (arith, k, ap length t.1)) (ltb (m (first_at o b)) low) refl in
        ((omega arith, omega arith, (omega arith, omega arith, r.0)), r.1)

    walk_drops : (n : ℕ) → Walks n
    walk_drops zero m cell p gone behind w k = (tt, bucket_done o blocks low i small first m cell p gone behind w (no_length behind k))
    walk_drops (suc n) m cell p gone behind w k = at_drops n (walk_drops n) m cell p gone behind w k p refl

    pub within_first : (m : ℕ → ℕ) (gone : ℕ) → (s : IsBetweenBuckets o blocks low i first m gone) → IsInsideBucket o blocks low i first m (bucket_at o blocks i) (m (bucket_at o blocks i)) gone (s.stands.chains (1 + i))
    within_first m gone s = record {
      state = s;
      before = [];
      split = refl;
      place = sym (front_bucket o blocks i small);
      points = refl;
      passed = tt;
    }

    pub in_drops : (m : ℕ → ℕ) (gone : ℕ) → IsBetweenBuckets o blocks low i first m gone → Drops i m (drop_in_program o blocks i low gone)
    in_drops m gone s =
        let many : length (s.stands.chains (1 + i)) ≤ blocks = omega (arith, few_blocks o blocks _ s.store s.stands (1 + i) (omega (arith, small))) in
        let r = walk_drops blocks m (bucket_at o blocks i) (m (bucket_at o blocks i)) gone (s.stands.chains (1 + i)) (within_first m gone s) many in
        ((omega arith, (bucket_in o blocks i small).1, r.0), r.1)

  -- ---- all buckets

  module _ (m : ℕ → ℕ) (gone : ℕ) (s : IsBetweenBuckets o blocks low (bucket_count blocks) first m gone) where
    left : (key : ℕ) → fin.get s.store.map key ≡ fin.get (keys_from first.map low) key
    left key = go (leb low key) refl ∙ sym (get-retain_keys first.map (λ k. leb low k) key (λ x t. ap (leb low) (sym (nat_cmp-IsAntisymmetric key x t))))
      where
        go : (t : Bool) → leb low key ≡ t → fin.get s.store.map key ≡ cond (leb low key) (fin.get first.map key) None
        go true e = rw e (s.fewer.stays key (leb-true low key e))
        go false e = rw e (s.cleared key (let k = leb-false low key e in omega (arith, k)) (key_bucket blocks key))

    map_is : s.store.map ≡ keys_from first.map low
    map_is = same_map nat_cmp_total nat_cmp-IsAntisymmetric s.store.map (keys_from first.map low) left

    store_is : s.store ≡ after_drop low first
    store_is = s.fewer.others ∙ ap (λ x. record first { map = x }) map_is

    gone_is : gone ≡ dropped_count low first
    gone_is = omega (arith, s.fewer.count, ap fin.len map_is)

    counted_stands : (g : ℕ) → gone ≡ g → StaysBetween o (cells_at o blocks) (count_gone_program o g) m × (program_answer (count_gone_program o g) m ≡ dropped_count low first) × StandsForStore o blocks (memory_after (count_gone_program o g) m) (after_drop low first)
    counted_stands zero e = (tt, sym e ∙ gone_is, subst (λ (t : CellStore). StandsForStore o blocks m t) store_is (subst (λ (x : ℕ → ℕ). StandsForStore o blocks x s.store) (changed_is m (keys_at o) (fin.len s.store.map) (omega (arith, s.counted, s.fewer.count, e))) s.stands))
    counted_stands (suc g) e =
        let same : fin.len s.store.map ≡ m (keys_at o) - suc g = omega (arith, s.counted, s.fewer.count, e) in
        let small : fin.len s.store.map ≤ blocks = omega (arith, keys_small o blocks _ s.store s.stands, changed_same m (keys_at o) (fin.len s.store.map)) in (
          (omega arith, omega arith, (omega arith, omega arith, omega (arith, same, small), tt)),
          sym e ∙ gone_is,
          subst (λ (t : CellStore). StandsForStore o blocks (with_value m (keys_at o) (m (keys_at o) - suc g)) t) store_is (subst (λ (v : ℕ). StandsForStore o blocks (with_value m (keys_at o) v) s.store) same s.stands),
        )

  abbrev Ends : ℕ → ℕ → (ℕ → ℕ) → ℕ → Type 0
  Ends j i m gone = StaysBetween o (cells_at o blocks) (drop_buckets o blocks low j i gone) m × (program_answer (drop_buckets o blocks low j i gone) m ≡ dropped_count low first) × StandsForStore o blocks (memory_after (drop_buckets o blocks low j i gone) m) (after_drop low first)

  buckets_end : (j i : ℕ) (m : ℕ → ℕ) (gone : ℕ) → i + j ≡ bucket_count blocks → IsBetweenBuckets o blocks low i first m gone → Ends j i m gone
  unfolding drop_buckets
  buckets_end zero i m gone e s = let is : i ≡ bucket_count blocks = omega arith in counted_stands m gone (subst (λ (x : ℕ). IsBetweenBuckets o blocks low x first m gone) is s) gone refl
  buckets_end (suc j) i m gone e s =
      let f = drop_in_program o blocks i low gone in
      let g = drop_buckets o blocks low j (i + 1) in
      let r = in_drops i (omega arith) m gone s in
      let t = buckets_end j (i + 1) (memory_after f m) (program_answer f m) (omega arith) r.1 in (
        inside_then o (cells_at o blocks) f g m r.0 t.0,
        answer_then f g m ∙ t.1,
        subst (λ (x : ℕ → ℕ). StandsForStore o blocks x (after_drop low first)) (sym (after_then f g m)) t.2,
      )

  pub at_first : (m : ℕ → ℕ) → StandsForStore o blocks m first → IsBetweenBuckets o blocks low 0 first m 0
  at_first m h = record {
    store = first;
    stands = subst (λ (x : ℕ → ℕ). StandsForStore o blocks x first) (sym (changed_is m (keys_at o) (fin.len first.map) h.holds.keys)) h;
    fewer = record { stays = λ key l. refl; others = refl; count = omega arith };
    counted = h.holds.keys;
    few = omega (arith, h.holds.keys, keys_small o blocks m first h);
    cleared = λ key l k. absurd (omega arith);
  }

  pub drop_means : (m : ℕ → ℕ) → StandsForStore o blocks m first → StaysBetween o (cells_at o blocks) (drop_program o blocks low) m × (program_answer (drop_program o blocks low) m ≡ dropped_count low first) × StandsForStore o blocks (memory_after (drop_program o blocks low) m) (after_drop low first)
  drop_means m h = buckets_end (bucket_count blocks) 0 m 0 (omega arith) (at_first m h)

-- what such a call does
pub drop_acts : (plot : Plot) (low : ℕ) (p q : Part) (result : Result ℕ Need) → RunsProgram (drop_below plot low) p q result → ActsOnStore plot p q result (dropped_count low) (after_drop low)
drop_acts plot low p q result = acts plot (drop_below plot low) (dropped_count low) (after_drop low) (λ m s h.
    let g = drop_means (base plot) plot.blocks low plot.few_blocks s m h in record { inside = g.0; answers = g.1; stands = g.2 }) p q result

-- ---- on every memory it reads and writes no cell before the first

module _ (o low : ℕ) where
  or_stays : (n : ℕ) → ((cell p gone : ℕ) → o ≤ cell → StaysFrom o (drop_walk o low n cell p gone)) → (cell b gone link : ℕ) (t : Bool) → o ≤ cell → StaysFrom o (drop_or o (drop_walk o low n) cell b gone link t)
  or_stays n again cell b gone link true l = (l, (omega arith, λ front. (omega arith, (omega arith, again cell link (gone + 1) l))))
  or_stays n again cell b gone link false l = again (link_at o b) link gone (omega arith)

  at_stays : (n : ℕ) → ((cell p gone : ℕ) → o ≤ cell → StaysFrom o (drop_walk o low n cell p gone)) → (cell gone p : ℕ) → o ≤ cell → StaysFrom o (drop_pointer o low (drop_walk o low n) cell gone p)
  at_stays n again cell gone zero l = tt
  at_stays n again cell gone (suc b) l = (omega arith, λ k. (omega arith, λ link. or_stays n again cell b gone link (ltb k low) l))

  walk_stays : (n cell p gone : ℕ) → o ≤ cell → StaysFrom o (drop_walk o low n cell p gone)
  walk_stays zero cell p gone l = tt
  walk_stays (suc n) cell p gone l = at_stays n (λ c q g k. walk_stays n c q g k) cell gone p l

  count_stays : (gone : ℕ) → StaysFrom o (count_gone_program o gone)
  count_stays zero = tt
  count_stays (suc g) = (omega arith, λ n. (omega arith, tt))

  buckets_stay : (blocks j i gone : ℕ) → StaysFrom o (drop_buckets o blocks low j i gone)
  unfolding drop_buckets
  buckets_stay blocks zero i gone = count_stays gone
  buckets_stay blocks (suc j) i gone =
      stays_then o (drop_in_program o blocks i low gone) (drop_buckets o blocks low j (i + 1)) (omega arith, λ front. walk_stays blocks (bucket_at o blocks i) front gone (omega arith)) (λ g. buckets_stay blocks j (i + 1) g)

  pub drop_stays : (blocks : ℕ) → StaysFrom o (drop_program o blocks low)
  drop_stays blocks = buckets_stay blocks (bucket_count blocks) 0 0
