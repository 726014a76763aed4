-- The walk over all buckets answers the least key from one on, and writes nothing.
use Rattle.std.proofs.Common.{◌≡◌, ℕ, zero, suc, ◌+◌, ◌%◌, ◌<◌, ◌≤◌, ◌⊎◌, inl, inr, Bool, true, false, cond, eqb, List, [], ◌∷◌, length, map, Option, Some, None, is_some, refl, sym, ap, subst, ◌∙◌, arith}
use Rattle.std.specs.Prelude.{◌||◌, Result}
use Rattle.std.specs.List.{list_any, AllByRecursion as Each}
use Rattle.std.specs.Ordering.{nat_cmp, eq_by_cmp}
use Rattle.std.specs.FinMap as fin
use Rattle.std.proofs.lemmas.Bool.{cases_lt}
use Rattle.std.proofs.lemmas.Bool.Decides.{nat_tests}
use Rattle.of_mem.specs.Places.{bucket_count, bucket_at, cells_at}
use Rattle.of_mem.specs.Programs.{Program, Read, program_answer, memory_after, StaysBetween, StaysFrom, OnlyReads}
use Rattle.of_mem.specs.Stores.{CellStore, StandsForStore, IsChain, IsBucket, first_at, second_at, link_at, value_in}
use Rattle.of_mem.specs.declared.part.Need.{Need}
use Rattle.of_mem.specs.declared.plot.Plot.{Plot}
use Rattle.of_mem.specs.Plots.{base}
use Rattle.of_mem.specs.Part.{Part}
use Rattle.of_mem.specs.Calls.{RunsProgram, AnswersOfStore}
use Rattle.of_mem.proofs.BucketPlaces.{bucket_in, key_bucket, some_buckets}
use Rattle.of_mem.proofs.Calls.{answered}
use Rattle.of_mem.proofs.Counts.{blocks_below, few_blocks}
use Rattle.of_mem.proofs.Heaps.{front_bucket}
use Rattle.of_mem.proofs.Runs.{answer_then, after_then, inside_then, stays_then, reads_then}
use Rattle.of_mem.specs.Walks.{better_of}
use Rattle.of_order.specs.Means.{least_from}
use Rattle.of_order.specs.OrderPrograms.{least_walk, at_pointer, least_in_program, least_buckets, least_program, least}
use Rattle.of_order.proofs.Best.{IsBest, same_best, one_best, Has, has_either, tie, best_of, list_best, Holds, least_best}

-- ---- one bucket

abbrev pub keys_in : ℕ → (ℕ → ℕ) → List ℕ → List ℕ
keys_in o m l = map (λ b. m (first_at o b)) l

-- a program answers this, and only reads, inside
abbrev pub Says : {A : Type 0} → ℕ → ℕ → (ℕ → ℕ) → Program A → A → Type 0
Says o size m f r = (program_answer f m ≡ r) × (memory_after f m ≡ m) × StaysBetween o size f m

walk_says : (o blocks low : ℕ) (m : ℕ → ℕ) (n cell : ℕ) (l : List ℕ) (p : ℕ) (best : Option ℕ) → p ≡ m cell → IsChain o m cell l → Each (λ b. b < blocks) l → length l ≤ n
    → Says o (cells_at o blocks) m (least_walk o low n p best) (best_of low best (keys_in o m l))
walk_says o blocks low m zero cell [] p best is h k few = (refl, refl, tt)
walk_says o blocks low m zero cell (b ∷ l) p best is h k few = absurd (omega arith)
walk_says o blocks low m (suc n) cell [] p best is h k few = subst (λ (x : ℕ). Says o (cells_at o blocks) m (at_pointer o low (least_walk o low n) best x) best) (sym (is ∙ h)) (refl, refl, tt)
walk_says o blocks low m (suc n) cell (b ∷ l) p best is h k few =
    let r = walk_says o blocks low m n (link_at o b) l (m (link_at o b)) (better_of low (m (first_at o b)) best) refl h.1 k.1 (omega arith) in
    let room : b < blocks = k.0 in
    let e : p ≡ suc b = omega (arith, is, h.0) in
    subst (λ (x : ℕ). Says o (cells_at o blocks) m (at_pointer o low (least_walk o low n) best x) (best_of low best (keys_in o m (b ∷ l)))) (sym e)
    (r.0, r.1, (omega arith, omega arith, (omega arith, omega arith, r.2)))

some_or : (t : Bool) (x : ℕ) (r : Option ℕ) → is_some (cond t (Some x) r) ≡ (t || is_some r)
some_or true x r = refl
some_or false x r = refl

turned : (a b : ℕ) → eqb a b ≡ eqb b a
turned a b = grind (arith, nat_tests)

value_has : (o : ℕ) (m : ℕ → ℕ) (q : ℕ) (l : List ℕ) → is_some (value_in o m q l) ≡ list_any (eq_by_cmp nat_cmp q) (keys_in o m l)
value_has o m q [] = refl
value_has o m q (b ∷ l) =
    some_or (eqb (m (first_at o b)) q) (m (second_at o b)) (value_in o m q l)
    ∙ ap (λ (t : Bool). t || is_some (value_in o m q l)) (turned (m (first_at o b)) q ∙ sym (tie q (m (first_at o b))))
    ∙ ap (λ (t : Bool). eq_by_cmp nat_cmp q (m (first_at o b)) || t) (value_has o m q l)

in_bucket : (o blocks : ℕ) (m : ℕ → ℕ) (n q : ℕ) (l : List ℕ) → IsBucket o blocks m n l → Has (keys_in o m l) q → q % bucket_count blocks ≡ n
in_bucket o blocks m n q [] h g = absurd cc
in_bucket o blocks m n q (b ∷ l) h g = elim (has_either q (m (first_at o b)) (keys_in o m l) g) [
  | inl is ↦ rw is h.0
  | inr g ↦ in_bucket o blocks m n q l h.4 g
]

-- the keys of the buckets before this one
abbrev pub Before : CellStore → ℕ → ℕ → ℕ → Type 0
Before s blocks i q = Holds s.map q × (q % bucket_count blocks < i)

module _ (o blocks low : ℕ) (m : ℕ → ℕ) (s : CellStore) (h : StandsForStore o blocks m s) where
  chain_of : (i : ℕ) → i < bucket_count blocks → IsChain o m (bucket_at o blocks i) (h.chains (1 + i))
  chain_of i l = subst (λ (a : ℕ). IsChain o m a (h.chains (1 + i))) (front_bucket o blocks i l) (h.heap.linked (1 + i) (omega arith))

  in_says : (i : ℕ) (best : Option ℕ) → i < bucket_count blocks → Says o (cells_at o blocks) m (least_in_program o blocks i low best) (best_of low best (keys_in o m (h.chains (1 + i))))
  in_says i best l =
      let few : length (h.chains (1 + i)) ≤ blocks = omega (arith, few_blocks o blocks m s h (1 + i) (omega arith)) in
      let r = walk_says o blocks low m blocks (bucket_at o blocks i) (h.chains (1 + i)) (m (bucket_at o blocks i)) best refl (chain_of i l) (blocks_below o blocks m s h (1 + i) (omega arith)) few in
      (r.0, r.1, (omega arith, (bucket_in o blocks i l).1, r.2))

  holds_has : (q : ℕ) → is_some (fin.get s.map q) ≡ list_any (eq_by_cmp nat_cmp q) (keys_in o m (h.chains (1 + q % bucket_count blocks)))
  holds_has q = ap is_some (h.holds.values q) ∙ value_has o m q (h.chains (1 + q % bucket_count blocks))

  next_best : (i : ℕ) (best : Option ℕ) → i < bucket_count blocks → IsBest low (Before s blocks i) best → IsBest low (Before s blocks (i + 1)) (best_of low best (keys_in o m (h.chains (1 + i))))
  next_best i best l k = same_best low (λ q. Before s blocks i q ⊎ Has (keys_in o m (h.chains (1 + i))) q) (Before s blocks (i + 1)) (best_of low best (keys_in o m (h.chains (1 + i))))
      (λ q _ w. elim w [
        | inl p ↦ (p.0, (let small = p.1 in omega arith))
        | inr g ↦ (let is : q % bucket_count blocks ≡ i = in_bucket o blocks m i q (h.chains (1 + i)) (h.holds.buckets i l) g in
            (holds_has q ∙ subst (λ (x : ℕ). Has (keys_in o m (h.chains (1 + x))) q) (sym is) g, omega (arith, is)))
      ])
      (λ q _ p. elim (cases_lt (q % bucket_count blocks) i) [
        | inl less ↦ inl (p.0, less)
        | inr not ↦ (let is : q % bucket_count blocks ≡ i = (let small = p.1 in omega arith) in inr (subst (λ (x : ℕ). Has (keys_in o m (h.chains (1 + x))) q) is (sym (holds_has q) ∙ p.0)))
      ])
      (list_best low (Before s blocks i) best (keys_in o m (h.chains (1 + i))) k)

  -- so many buckets from this one on
  abbrev Ends : ℕ → ℕ → Option ℕ → Type 0
  Ends j i best = IsBest low (Before s blocks (bucket_count blocks)) (program_answer (least_buckets o blocks low j i best) m) × (memory_after (least_buckets o blocks low j i best) m ≡ m) × StaysBetween o (cells_at o blocks) (least_buckets o blocks low j i best) m

  buckets_end : (j i : ℕ) (best : Option ℕ) → i + j ≡ bucket_count blocks → IsBest low (Before s blocks i) best → Ends j i best
  unfolding least_buckets
  buckets_end zero i best e k = let is : i ≡ bucket_count blocks = omega arith in (subst (λ (x : ℕ). IsBest low (Before s blocks x) best) is k, refl, tt)
  buckets_end (suc j) i best e k =
      let l : i < bucket_count blocks = omega arith in
      let f = least_in_program o blocks i low best in
      let g = least_buckets o blocks low j (i + 1) in
      let r = in_says i best l in
      let t = buckets_end j (i + 1) (program_answer f m) (omega arith) (subst (λ (x : Option ℕ). IsBest low (Before s blocks (i + 1)) x) (sym r.0) (next_best i best l k)) in (
        subst (IsBest low (Before s blocks (bucket_count blocks))) (sym (answer_then f g m ∙ ap (λ (x : ℕ → ℕ). program_answer (g (program_answer f m)) x) r.1)) t.0,
        after_then f g m ∙ ap (λ (x : ℕ → ℕ). memory_after (g (program_answer f m)) x) r.1 ∙ t.1,
        inside_then o (cells_at o blocks) f g m r.2 (subst (λ (x : ℕ → ℕ). StaysBetween o (cells_at o blocks) (g (program_answer f m)) x) (sym r.1) t.2),
      )

  -- the answer is the least key of the map from this one on, and nothing is written
  pub least_means : (program_answer (least_program o blocks low) m ≡ least_from s.map low) × (memory_after (least_program o blocks low) m ≡ m) × StaysBetween o (cells_at o blocks) (least_program o blocks low) m
  least_means =
      let t = buckets_end (bucket_count blocks) 0 None (omega arith) (λ q p l. let none = p.1 in omega arith) in
      let r = program_answer (least_program o blocks low) m in
      let all : IsBest low (Holds s.map) r = same_best low (Before s blocks (bucket_count blocks)) (Holds s.map) r (λ q _ p. p.0) (λ q _ p. (p, key_bucket blocks q)) t.0 in
      (one_best low (Holds s.map) r (least_from s.map low) all (least_best s.map low), t.1, t.2)

-- what such a call answers
pub least_answers : (plot : Plot) (low : ℕ) (p : Part) (result : Result (Option ℕ) Need) → RunsProgram (least plot low) p p result → AnswersOfStore plot p result (λ s. least_from s.map low)
least_answers plot low p result = answered plot (least plot low) (λ s. least_from s.map low) (λ m s h. let g = least_means (base plot) plot.blocks low m s h in (g.2, g.0)) p result

-- it begins with a read
pub least_begins : (o blocks low : ℕ) → (k : ℕ → Program (Option ℕ)) × (least_program o blocks low ≡ Read (bucket_at o blocks 0) k)
unfolding least_buckets
least_begins o blocks low = go (bucket_count blocks) (some_buckets blocks)
  where
    go : (n : ℕ) → 1 ≤ n → (k : ℕ → Program (Option ℕ)) × (least_buckets o blocks low n 0 None ≡ Read (bucket_at o blocks 0) k)
    go zero l = absurd (omega arith)
    go (suc n) l = (_, refl)

-- ---- on every memory it reads no cell before the first, and only reads

module _ (o low : ℕ) where
  at_stays : (n : ℕ) → ((p : ℕ) (best : Option ℕ) → StaysFrom o (least_walk o low n p best) × OnlyReads (least_walk o low n p best)) → (p : ℕ) (best : Option ℕ) → StaysFrom o (at_pointer o low (least_walk o low n) best p) × OnlyReads (at_pointer o low (least_walk o low n) best p)
  at_stays n again zero best = (tt, tt)
  at_stays n again (suc b) best = ((omega arith, λ k. (omega arith, λ link. (again link (better_of low k best)).0)), λ k link. (again link (better_of low k best)).1)

  walk_stays : (n p : ℕ) (best : Option ℕ) → StaysFrom o (least_walk o low n p best) × OnlyReads (least_walk o low n p best)
  walk_stays zero p best = (tt, tt)
  walk_stays (suc n) p best = at_stays n (λ q r. walk_stays n q r) p best

  buckets_stay : (blocks j i : ℕ) (best : Option ℕ) → StaysFrom o (least_buckets o blocks low j i best) × OnlyReads (least_buckets o blocks low j i best)
  unfolding least_buckets
  buckets_stay blocks zero i best = (tt, tt)
  buckets_stay blocks (suc j) i best =
      let f = least_in_program o blocks i low best in
      let g = least_buckets o blocks low j (i + 1) in (
        stays_then o f g (omega arith, λ front. (walk_stays blocks front best).0) (λ r. (buckets_stay blocks j (i + 1) r).0),
        reads_then f g (λ front. (walk_stays blocks front best).1) (λ r. (buckets_stay blocks j (i + 1) r).1),
      )

  pub least_stays : (blocks : ℕ) → StaysFrom o (least_program o blocks low)
  least_stays blocks = (buckets_stay blocks (bucket_count blocks) 0 None).0

  pub least_reads : (blocks : ℕ) → OnlyReads (least_program o blocks low)
  least_reads blocks = (buckets_stay blocks (bucket_count blocks) 0 None).1
