-- Writes as pairs: what pairs in order of first writing leave, and that no cell stands in them twice.
use Rattle.std.proofs.Common.{◌≡◌, ◌≢◌, ℕ, zero, suc, ◌+◌, ◌-◌, ◌<◌, ◌≤◌, ◌==◌, inl, inr, Bool, true, false, if◌then◌else◌, List, [], ◌∷◌, length, get_or, set, take, drop, refl, sym, ◌∙◌, ap, subst, arith, length-set}
use Rattle.std.specs.List.{All, AllByRecursion as Each}
use Rattle.std.proofs.lemmas.Bool.{cases_lt}
use Rattle.std.proofs.lemmas.Bool.Decides.{nat_tests}
use Rattle.std.proofs.lemmas.List.{set_comm, drop-set-lt, drop-set-add, take_more, length-take, get_or-take, take_all}
use Rattle.of_mem.specs.CellMap.{put_pair, put_all, IsAbsent}
use Rattle.of_mem.specs.Meaning.{with_writes_in, HasDistinctCells, SameFrom}
use Rattle.of_mem.proofs.CellPlaces.{put_all_take}
use Rattle.of_mem.proofs.WriteSets.{put-absent}

absent_tail : (e : ℕ × ℕ) (es : List (ℕ × ℕ)) (a : ℕ) → IsAbsent (e ∷ es) a → IsAbsent es a
absent_tail e es a h k l q = h (suc k) (omega arith) q

absent_more : (e : ℕ × ℕ) (es : List (ℕ × ℕ)) (a : ℕ) → e.0 ≢ a → IsAbsent es a → IsAbsent (e ∷ es) a
absent_more e es a n h zero l q = n q
absent_more e es a n h (suc k) l q = h k (omega arith) q

absent_put : (es : List (ℕ × ℕ)) (a v b : ℕ) → a ≢ b → IsAbsent es b → IsAbsent (put_pair es a v) b
absent_put [] a v b n h = absent_more (a, v) [] b n h
absent_put (e ∷ es) a v b n h = go (absent_put es a v b n (absent_tail e es b h)) (e.0 == a)
  where
    go : IsAbsent (put_pair es a v) b → (t : Bool) → IsAbsent (if t then (a, v) ∷ es else e ∷ put_pair es a v) b
    go again true = absent_more (a, v) es b n (absent_tail e es b h)
    go again false = absent_more e (put_pair es a v) b (h 0 (omega arith)) again

pub once_tail : (e : ℕ × ℕ) (es : List (ℕ × ℕ)) → HasDistinctCells (e ∷ es) → HasDistinctCells es
once_tail e es h j k l m q = let s : suc j ≡ suc k = h (suc j) (suc k) (omega arith) (omega arith) q in omega arith

once_head : (e : ℕ × ℕ) (es : List (ℕ × ℕ)) → HasDistinctCells (e ∷ es) → IsAbsent es e.0
once_head e es h k l q = let s : suc k ≡ 0 = h (suc k) 0 (omega arith) (omega arith) q in omega arith

once_more : (e : ℕ × ℕ) (es : List (ℕ × ℕ)) → IsAbsent es e.0 → HasDistinctCells es → HasDistinctCells (e ∷ es)
once_more e es h o zero zero l m q = refl
once_more e es h o zero (suc k) l m q = absurd (h k (omega arith) (sym q))
once_more e es h o (suc j) zero l m q = absurd (h j (omega arith) q)
once_more e es h o (suc j) (suc k) l m q = ap suc (o j k (omega arith) (omega arith) q)

-- a write keeps that no cell stands twice
pub once_put : (es : List (ℕ × ℕ)) (a v : ℕ) → HasDistinctCells es → HasDistinctCells (put_pair es a v)
once_put [] a v h = λ j k l m q. omega arith
once_put (e ∷ es) a v h = go (once_put es a v (once_tail e es h)) (e.0 == a) refl
  where
    go : HasDistinctCells (put_pair es a v) → (t : Bool) → (e.0 == a) ≡ t → HasDistinctCells (if t then (a, v) ∷ es else e ∷ put_pair es a v)
    go again true p = let s : e.0 ≡ a = grind (arith, nat_tests) in once_more (a, v) es (subst (IsAbsent es) s (once_head e es h)) (once_tail e es h)
    go again false p = once_more e (put_pair es a v) (absent_put es a v e.0 (λ (s : a ≡ e.0). grind (arith, nat_tests)) (once_head e es h)) again

pub once_put_all : (es ds : List (ℕ × ℕ)) → HasDistinctCells es → HasDistinctCells (put_all es ds)
once_put_all es [] h = h
once_put_all es (d ∷ ds) h = once_put_all (put_pair es d.0 d.1) ds (once_put es d.0 d.1 h)

pub once_none : HasDistinctCells []
once_none j k l m q = absurd (omega arith)

-- a fact of each pair
pub each_put : (P : ℕ × ℕ → Type 0) (es : List (ℕ × ℕ)) (a v : ℕ) → Each P es → P (a, v) → Each P (put_pair es a v)
each_put P [] a v h p = (p, tt)
each_put P (e ∷ es) a v h p = go (each_put P es a v h.1 p) (e.0 == a)
  where
    go : Each P (put_pair es a v) → (t : Bool) → Each P (if t then (a, v) ∷ es else e ∷ put_pair es a v)
    go again true = (p, h.1)
    go again false = (h.0, again)

pub each_put_all : (P : ℕ × ℕ → Type 0) (es ds : List (ℕ × ℕ)) → Each P es → Each P ds → Each P (put_all es ds)
each_put_all P es [] h k = h
each_put_all P es (d ∷ ds) h k = each_put_all P (put_pair es d.0 d.1) ds (each_put P es d.0 d.1 h k.0) k.1

pub all_each : {X : Type 0} (P : X → Type 0) (xs : List X) → Each P xs → All P xs
all_each P [] h k d l = absurd (omega arith)
all_each P (x ∷ xs) h zero d l = h.0
all_each P (x ∷ xs) h (suc k) d l = all_each P xs h.1 k d (omega arith)

pub written_length : (xs : List ℕ) (es : List (ℕ × ℕ)) → length (with_writes_in xs es) ≡ length xs
written_length xs [] = refl
written_length xs (e ∷ es) = written_length (set xs e.0 e.1) es ∙ length-set xs e.0 e.1

-- a cell that the pairs don't name may be written before or after
written_absent : (xs : List ℕ) (es : List (ℕ × ℕ)) (a v : ℕ) → IsAbsent es a → with_writes_in (set xs a v) es ≡ set (with_writes_in xs es) a v
written_absent xs [] a v h = refl
written_absent xs (e ∷ es) a v h = ap (λ (ys : List ℕ). with_writes_in ys es) (set_comm xs a e.0 v e.1 (λ (q : a ≡ e.0). h 0 (omega arith) (sym q))) ∙ written_absent (set xs e.0 e.1) es a v (absent_tail e es a h)

set_again : (xs : List ℕ) (a v w : ℕ) → set (set xs a w) a v ≡ set xs a v
set_again [] a v w = refl
set_again (x ∷ xs) zero v w = refl
set_again (x ∷ xs) (suc a) v w = ap (λ (ys : List ℕ). x ∷ ys) (set_again xs a v w)

pub written_put : (xs : List ℕ) (es : List (ℕ × ℕ)) (a v : ℕ) → HasDistinctCells es → with_writes_in xs (put_pair es a v) ≡ set (with_writes_in xs es) a v
written_put xs [] a v h = refl
written_put xs (e ∷ es) a v h = go (written_put (set xs e.0 e.1) es a v (once_tail e es h)) (e.0 == a) refl
  where
    go : with_writes_in (set xs e.0 e.1) (put_pair es a v) ≡ set (with_writes_in (set xs e.0 e.1) es) a v → (t : Bool) → (e.0 == a) ≡ t → with_writes_in xs (if t then (a, v) ∷ es else e ∷ put_pair es a v) ≡ set (with_writes_in (set xs e.0 e.1) es) a v
    go again true p = let s : e.0 ≡ a = grind (arith, nat_tests) in
        let absent : IsAbsent es a = subst (IsAbsent es) s (once_head e es h) in
        rw s (written_absent xs es a v absent ∙ sym (ap (λ (ys : List ℕ). set ys a v) (written_absent xs es a e.1 absent) ∙ set_again (with_writes_in xs es) a v e.1))
    go again false p = again

-- writes put over others are written after them
pub written_put_all : (xs : List ℕ) (es ds : List (ℕ × ℕ)) → HasDistinctCells es → with_writes_in xs (put_all es ds) ≡ with_writes_in (with_writes_in xs es) ds
written_put_all xs es [] h = refl
written_put_all xs es (d ∷ ds) h = written_put_all xs (put_pair es d.0 d.1) ds (once_put es d.0 d.1 h) ∙ ap (λ (ys : List ℕ). with_writes_in ys ds) (written_put xs es d.0 d.1 h)

set_from : (low : ℕ) (xs ys : List ℕ) (a v : ℕ) → SameFrom low xs ys → SameFrom low (set xs a v) (set ys a v)
set_from low xs ys a v h = elim (cases_lt a low) [
  | inl l ↦ drop-set-lt low xs a v l ∙ h ∙ sym (drop-set-lt low ys a v l)
  | inr l ↦ let e : low + (a - low) ≡ a = omega arith in
      let k : drop low (set xs (low + (a - low)) v) ≡ drop low (set ys (low + (a - low)) v) = drop-set-add low xs (a - low) v ∙ ap (λ (zs : List ℕ). set zs (a - low) v) h ∙ sym (drop-set-add low ys (a - low) v) in
      rw e at k
]

-- lists that are alike from a cell on stay so by the same writes
pub written_from : (low : ℕ) (xs ys : List ℕ) (es : List (ℕ × ℕ)) → SameFrom low xs ys → SameFrom low (with_writes_in xs es) (with_writes_in ys es)
written_from low xs ys [] h = h
written_from low xs ys (e ∷ es) h = written_from low (set xs e.0 e.1) (set ys e.0 e.1) es (set_from low xs ys e.0 e.1 h)

-- the next of entries whose addresses differ is put last
pub put_next : (es : List (ℕ × ℕ)) → HasDistinctCells es → (i : ℕ) → i < length es → put_pair (take i es) (get_or es i (0, 0)).0 (get_or es i (0, 0)).1 ≡ take (i + 1) es
put_next es once i l = put-absent (take i es) (get_or es i (0, 0)).0 (get_or es i (0, 0)).1 absent ∙ sym (take_more es i (0, 0) l)
  where
    absent : IsAbsent (take i es) (get_or es i (0, 0)).0
    absent k m e =
        let n : k < i = omega (arith, length-take i es) in
        let same : get_or (take i es) k (0, 0) ≡ get_or es k (0, 0) = get_or-take i es k (0, 0) n in
        let j : k ≡ i = once k i (omega arith) l (ap (λ (x : ℕ × ℕ). x.0) (sym same) ∙ e) in
        omega arith

-- entries for distinct cells over nothing are themselves
pub put_all_once : (es : List (ℕ × ℕ)) → HasDistinctCells es → put_all [] es ≡ es
put_all_once es once = ap (put_all []) (sym (take_all (length es) es (omega arith))) ∙ go (length es) (omega arith) ∙ take_all (length es) es (omega arith)
  where
    go : (i : ℕ) → i ≤ length es → put_all [] (take i es) ≡ take i es
    go zero l = refl
    go (suc i) l =
        let next : i + 1 ≡ suc i = omega arith in
        subst (λ (n : ℕ). put_all [] (take n es) ≡ take n es) next (
        put_all_take [] es i (0, 0) l
        ∙ ap (λ (ds : List (ℕ × ℕ)). put_pair ds (get_or es i (0, 0)).0 (get_or es i (0, 0)).1) (go i (omega (arith, l)))
        ∙ put_next es once i l)

-- putting pairs adds at most one entry for each
put_pair_few : (ds : List (ℕ × ℕ)) (a v : ℕ) → length (put_pair ds a v) ≤ length ds + 1
put_pair_few [] a v = omega arith
put_pair_few (e ∷ es) a v = go (put_pair_few es a v) (e.0 == a)
  where
    go : length (put_pair es a v) ≤ length es + 1 → (b : Bool) → length {A = ℕ × ℕ} (if b then (a, v) ∷ es else e ∷ put_pair es a v) ≤ suc (length es) + 1
    go again true = omega arith
    go again false = omega (arith, again)

pub put_all_few : (ds es : List (ℕ × ℕ)) → length (put_all ds es) ≤ length ds + length es
put_all_few ds [] = omega arith
put_all_few ds (e ∷ es) = omega (arith, put_all_few (put_pair ds e.0 e.1) es, put_pair_few ds e.0 e.1)
