-- No call changes a durable word to one below what another is about to raise it to.
use Rattle.std.proofs.Common.{◌≡◌, ℕ, zero, suc, ◌+◌, ◌<◌, ◌≤◌, ◌⊎◌, ◌==◌, ◌&&◌, nat_lt, inl, inr, List, [], ◌∷◌, ◌++◌, length, get_or, max, refl, sym, ◌∙◌, ap, arith, Bool, true, false, if◌then◌else◌}
use Rattle.std.proofs.lemmas.Bool.{cases_eq, cases_lt}
use Rattle.std.proofs.lemmas.Bool.Decides.{nat_tests}
use Rattle.std.proofs.lemmas.List.{get_or-set_same, get_or-set_other, get_or_default}
use Rattle.of_mem.specs.Meaning.{IsSoundMeaning}
use Rattle.of_core.specs.declared.place.Op.{Op}
use Rattle.of_core.specs.declared.place.Op.TheVariants.{Raise}
use Rattle.of_core.specs.Table.{Setup, first_operation_cell, cell_count, durable_at, durable_word}
use Rattle.of_core.specs.Machine.{CallState, no_machine}
use Rattle.of_core.specs.Steps.{want, word_found, words_after}
use Rattle.of_core.specs.TableMoment.{Moment, TableStart, after_step}
use Rattle.of_core.specs.Invariant.{MeetsInvariant, IsLoaded}
use Rattle.of_core.specs.Guarantees.{Guarantees}
use Rattle.of_core.specs.Events.{Event, Begins, Turns, Loads, Evicts, Raises, Revives, one_if, after_raise, machine_in, after_event, MayHappen, after_events, IsSchedule}
use Rattle.of_core.specs.Raised.{goes_round, lower_changes, is_pending, pending_among, pending}
use Rattle.of_core.proofs.Found.{found_now}
use Rattle.of_core.proofs.Durables.{step_durables}
use Rattle.of_core.proofs.StepKept.{step_kept, step_moves}
use Rattle.of_core.proofs.Raises.{rises}
use Rattle.of_core.proofs.Happenings.{event_good, load_kept}

-- a word that stays, or becomes at least v, ends the loop
stays_not : (x y v : ℕ) → (y ≡ x) ⊎ (v ≤ y) → one_if (goes_round x y v) ≡ 0
stays_not x y v h = go (x == y) refl (nat_lt y v) refl h
  where
    go : (a : Bool) → (x == y) ≡ a → (b : Bool) → nat_lt y v ≡ b → (y ≡ x) ⊎ (v ≤ y) → one_if (if a then false else b) ≡ 0
    go true e b f q = refl
    go false e false f q = refl
    go false e true f (inl q) = let z : x ≡ y → ⊥ = grind (arith, nat_tests) in absurd (z (sym q))
    go false e true f (inr q) = let z : y < v = grind (arith, nat_tests) in absurd (omega (arith, z, q))

-- one that does has changed the word to one below v
round_tells : (x y v : ℕ) → (one_if (goes_round x y v) ≡ 0) ⊎ ((one_if (goes_round x y v) ≡ 1) × (x ≡ y → ⊥) × (y < v))
round_tells x y v = go (x == y) refl (nat_lt y v) refl
  where
    go : (a : Bool) → (x == y) ≡ a → (b : Bool) → nat_lt y v ≡ b → (one_if (if a then false else b) ≡ 0) ⊎ ((one_if (if a then false else b) ≡ 1) × (x ≡ y → ⊥) × (y < v))
    go true e b f = inl refl
    go false e false f = inl refl
    go false e true f = inr (refl, (let z : x ≡ y → ⊥ = grind (arith, nat_tests) in z), (let z : y < v = grind (arith, nat_tests) in z))

round_is : (x y v : ℕ) → (x ≡ y → ⊥) → y < v → one_if (goes_round x y v) ≡ 1
round_is x y v n l = go (x == y) refl (nat_lt y v) refl
  where
    go : (a : Bool) → (x == y) ≡ a → (b : Bool) → nat_lt y v ≡ b → one_if (if a then false else b) ≡ 1
    go true e b f = let z : x ≡ y = grind (arith, nat_tests) in absurd (n z)
    go false e false f = let z : v ≤ y = grind (arith, nat_tests) in absurd (omega (arith, z, l))
    go false e true f = refl

-- a loaded word is pending or not
pending_tells : (x c v : ℕ) (e : ℕ × ℕ) → ((one_if (is_pending x c v e) ≡ 0) × (e.0 ≡ c → x < e.1 → e.1 < v → ⊥)) ⊎ ((one_if (is_pending x c v e) ≡ 1) × (e.0 ≡ c) × (x < e.1) × (e.1 < v))
pending_tells x c v e = go (e.0 == c) refl (nat_lt x e.1) refl (nat_lt e.1 v) refl
  where
    go : (p : Bool) → (e.0 == c) ≡ p → (q : Bool) → nat_lt x e.1 ≡ q → (r : Bool) → nat_lt e.1 v ≡ r
        → ((one_if (p && (q && r)) ≡ 0) × (e.0 ≡ c → x < e.1 → e.1 < v → ⊥)) ⊎ ((one_if (p && (q && r)) ≡ 1) × (e.0 ≡ c) × (x < e.1) × (e.1 < v))
    go false f q g r h = let z : e.0 ≡ c → ⊥ = grind (arith, nat_tests) in inl (refl, λ a b d. z a)
    go true f false g r h = let z : e.1 ≤ x = grind (arith, nat_tests) in inl (refl, λ a b d. omega (arith, z, b))
    go true f true g false h = let z : v ≤ e.1 = grind (arith, nat_tests) in inl (refl, λ a b d. omega (arith, z, d))
    go true f true g true h = inr (refl, (let z : e.0 ≡ c = grind (arith, nat_tests) in z), (let z : x < e.1 = grind (arith, nat_tests) in z), (let z : e.1 < v = grind (arith, nat_tests) in z))

pub not_pending : (x c v : ℕ) (e : ℕ × ℕ) → (e.0 ≡ c → x < e.1 → e.1 < v → ⊥) → one_if (is_pending x c v e) ≡ 0
not_pending x c v e h = go (pending_tells x c v e)
  where
    go : ((one_if (is_pending x c v e) ≡ 0) × (e.0 ≡ c → x < e.1 → e.1 < v → ⊥)) ⊎ ((one_if (is_pending x c v e) ≡ 1) × (e.0 ≡ c) × (x < e.1) × (e.1 < v)) → one_if (is_pending x c v e) ≡ 0
    go (inl p) = p.0
    go (inr p) = absurd (h p.1 p.2 p.3)

-- after a durable word has risen no more words are pending
one_rises : (x y c v : ℕ) → x ≤ y → (e : ℕ × ℕ) → one_if (is_pending y c v e) ≤ one_if (is_pending x c v e)
one_rises x y c v u e = go (pending_tells y c v e) (pending_tells x c v e)
  where
    go : ((one_if (is_pending y c v e) ≡ 0) × (e.0 ≡ c → y < e.1 → e.1 < v → ⊥)) ⊎ ((one_if (is_pending y c v e) ≡ 1) × (e.0 ≡ c) × (y < e.1) × (e.1 < v))
        → ((one_if (is_pending x c v e) ≡ 0) × (e.0 ≡ c → x < e.1 → e.1 < v → ⊥)) ⊎ ((one_if (is_pending x c v e) ≡ 1) × (e.0 ≡ c) × (x < e.1) × (e.1 < v))
        → one_if (is_pending y c v e) ≤ one_if (is_pending x c v e)
    go (inl p) q = omega (arith, p.0)
    go (inr p) (inl q) = absurd (q.1 p.1 (omega (arith, u, p.2)) p.3)
    go (inr p) (inr q) = omega (arith, p.0, q.0)

all_rise : (x y c v : ℕ) → x ≤ y → (es : List (ℕ × ℕ)) → pending_among y c v es ≤ pending_among x c v es
all_rise x y c v u [] = omega arith
all_rise x y c v u (e ∷ es) = let p = one_rises x y c v u e in let q = all_rise x y c v u es in omega (arith, p, q)

-- and one fewer, if one of them is raised
one_raised : (x y c v : ℕ) → x ≤ y → (es : List (ℕ × ℕ)) (k : ℕ) → k < length es → (get_or es k (0, 0)).0 ≡ c → x < (get_or es k (0, 0)).1 → (get_or es k (0, 0)).1 < v → (get_or es k (0, 0)).1 ≤ y
    → 1 + pending_among y c v es ≤ pending_among x c v es
one_raised x y c v u [] k l a b d f = absurd (omega (arith, l))
one_raised x y c v u (e ∷ es) zero l a b d f = go (pending_tells x c v e) (pending_tells y c v e) (all_rise x y c v u es)
  where
    go : ((one_if (is_pending x c v e) ≡ 0) × (e.0 ≡ c → x < e.1 → e.1 < v → ⊥)) ⊎ ((one_if (is_pending x c v e) ≡ 1) × (e.0 ≡ c) × (x < e.1) × (e.1 < v))
        → ((one_if (is_pending y c v e) ≡ 0) × (e.0 ≡ c → y < e.1 → e.1 < v → ⊥)) ⊎ ((one_if (is_pending y c v e) ≡ 1) × (e.0 ≡ c) × (y < e.1) × (e.1 < v))
        → pending_among y c v es ≤ pending_among x c v es
        → 1 + (one_if (is_pending y c v e) + pending_among y c v es) ≤ one_if (is_pending x c v e) + pending_among x c v es
    go (inl p) q r = absurd (p.1 a b d)
    go (inr p) (inl q) r = omega (arith, p.0, q.0, r)
    go (inr p) (inr q) r = absurd (omega (arith, q.2, f))
one_raised x y c v u (e ∷ es) (suc k) l a b d f =
    let p = one_rises x y c v u e in
    let q = one_raised x y c v u es k (omega (arith, l)) a b d f in
    omega (arith, p, q)

-- a word of v at least isn't pending
one_more : (x c v : ℕ) (es : List (ℕ × ℕ)) (e : ℕ × ℕ) → (e.0 ≡ c → v ≤ e.1) → pending_among x c v (es ++ e ∷ []) ≡ pending_among x c v es
one_more x c v [] e h = go (pending_tells x c v e)
  where
    go : ((one_if (is_pending x c v e) ≡ 0) × (e.0 ≡ c → x < e.1 → e.1 < v → ⊥)) ⊎ ((one_if (is_pending x c v e) ≡ 1) × (e.0 ≡ c) × (x < e.1) × (e.1 < v)) → one_if (is_pending x c v e) + 0 ≡ 0
    go (inl p) = omega (arith, p.0)
    go (inr p) = let z = h p.1 in absurd (omega (arith, z, p.3))
one_more x c v (d ∷ es) e h = ap (λ (n : ℕ). one_if (is_pending x c v d) + n) (one_more x c v es e h)

-- if no event changes a durable word to one below v, it stays as it is or becomes at least v
pub stands : (S : Setup) (es : List Event) (w : Moment) (c v : ℕ) → lower_changes S w es c v ≡ 0 → (durable_word S (after_events S w es).words c ≡ durable_word S w.words c) ⊎ (v ≤ durable_word S (after_events S w es).words c)
stands S [] w c v h = inl refl
stands S (e ∷ es) w c v h = go (round_tells (durable_word S w.words c) (durable_word S (after_event S w e).words c) v) (stands S es (after_event S w e) c v (omega (arith, h)))
  where
    y : ℕ
    y = durable_word S (after_event S w e).words c

    z : ℕ
    z = durable_word S (after_events S (after_event S w e) es).words c

    go : (one_if (goes_round (durable_word S w.words c) y v) ≡ 0) ⊎ ((one_if (goes_round (durable_word S w.words c) y v) ≡ 1) × (durable_word S w.words c ≡ y → ⊥) × (y < v)) → (z ≡ y) ⊎ (v ≤ z) → (z ≡ durable_word S w.words c) ⊎ (v ≤ z)
    go a (inr q) = inr q
    go (inr a) (inl q) = absurd (omega (arith, h, a.0))
    go (inl a) (inl q) = by (cases_eq (durable_word S w.words c) y) (cases_lt y v)
      where
        by : (durable_word S w.words c ≡ y) ⊎ (durable_word S w.words c ≡ y → ⊥) → (y < v) ⊎ (v ≤ y) → (z ≡ durable_word S w.words c) ⊎ (v ≤ z)
        by (inl e) t = inl (q ∙ sym e)
        by (inr n) (inr t) = inr (omega (arith, t, q))
        by (inr n) (inl t) = absurd (omega (arith, a, round_is (durable_word S w.words c) y v n t))

module _ (S : Setup) (Lawful : List ℕ → Type 0) (sound : IsSoundMeaning S.meaning Lawful (first_operation_cell S) S.cells) (B : TableStart) where
  module _ (w : Moment) (g : MeetsInvariant S Lawful B w) (c v : ℕ) (l : c < cell_count S) (t : v ≤ get_or w.words c 0) where
    -- what an event leaves: as many lower changes as there are fewer words pending, and a cell of v at least
    abbrev Leaves : Moment → Type 0
    Leaves z = (one_if (goes_round (durable_word S w.words c) (durable_word S z.words c) v) + pending S z c v ≤ pending S w c v) × (v ≤ get_or z.words c 0)

    -- the durable word of its cell is raised to a loaded word
    raised_here : (d : ℕ × ℕ) → IsLoaded S B w.words w.batches d → d.0 ≡ c → durable_word S (after_raise S w d).words c ≡ max (durable_word S w.words c) d.1
    raised_here d h e = rw (← e) (get_or-set_same w.words (durable_at S d.0) (max (durable_word S w.words d.0) d.1) 0 (omega (arith, g.core.shared.room, h.place)))

    raised_other : (d : ℕ × ℕ) → (d.0 ≡ c → ⊥) → durable_word S (after_raise S w d).words c ≡ durable_word S w.words c
    raised_other d n = get_or-set_other w.words (durable_at S d.0) (durable_at S c) (max (durable_word S w.words d.0) d.1) 0 (λ z. n (omega (arith, z)))

    cell_stays : (d : ℕ × ℕ) → get_or (after_raise S w d).words c 0 ≡ get_or w.words c 0
    cell_stays d = get_or-set_other w.words (durable_at S d.0) c (max (durable_word S w.words d.0) d.1) 0 (λ z. omega (arith, z, l))

    turn_leaves : (i : ℕ) → i < S.callers → Leaves (after_event S w (Turns i))
    turn_leaves i h = (go (step_durables S Lawful B w g.core i m h own n (found_now S w.words m) c l), omega (arith, t, moves.rise c l))
      where
        m : CallState
        m = machine_in w i

        n : ℕ
        n = word_found S w.words m

        own : get_or w.machines i m ≡ m
        own = get_or_default w.machines i m no_machine (omega (arith, g.core.members, h))

        z : Moment
        z = after_event S w (Turns i)

        moves : Guarantees S B i w.words w.batches z.words z.batches
        moves = step_moves S Lawful sound B w g i m h own n (found_now S w.words m)

        go : (durable_word S z.words c ≡ durable_word S w.words c) ⊎ (durable_word S z.words c ≡ get_or w.words c 0) → one_if (goes_round (durable_word S w.words c) (durable_word S z.words c) v) + pending S z c v ≤ pending S w c v
        go q =
            let a = stays_not (durable_word S w.words c) (durable_word S z.words c) v (way q) in
            let b : pending S z c v ≤ pending S w c v = all_rise (durable_word S w.words c) (durable_word S z.words c) c v (moves.durs c l) w.loaded in
            omega (arith, a, b)
          where
            way : (durable_word S z.words c ≡ durable_word S w.words c) ⊎ (durable_word S z.words c ≡ get_or w.words c 0) → (durable_word S z.words c ≡ durable_word S w.words c) ⊎ (v ≤ durable_word S z.words c)
            way (inl q) = inl q
            way (inr q) = inr (omega (arith, q, t))

    -- a loaded word is raised: one that is pending, or one that changes nothing below v
    evict_leaves : (k : ℕ) → k < length w.loaded → Leaves (after_event S w (Evicts k))
    evict_leaves k h = (go (cases_eq d.0 c), omega (arith, t, cell_stays d))
      where
        d : ℕ × ℕ
        d = get_or w.loaded k (0, 0)

        is : IsLoaded S B w.words w.batches d
        is = g.core.loaded k (0, 0) h

        up : durable_word S w.words c ≤ durable_word S (after_raise S w d).words c
        up = rises S Lawful B w.words w.batches g.core.shared d.0 d.1 is c

        go : (d.0 ≡ c) ⊎ (d.0 ≡ c → ⊥) → one_if (goes_round (durable_word S w.words c) (durable_word S (after_raise S w d).words c) v) + pending_among (durable_word S (after_raise S w d).words c) c v w.loaded ≤ pending_among (durable_word S w.words c) c v w.loaded
        go (inr n) =
            let a = stays_not (durable_word S w.words c) (durable_word S (after_raise S w d).words c) v (inl (raised_other d n)) in
            let b = all_rise (durable_word S w.words c) (durable_word S (after_raise S w d).words c) c v up w.loaded in
            omega (arith, a, b)
        go (inl e) = by (round_tells (durable_word S w.words c) (durable_word S (after_raise S w d).words c) v)
          where
            here : durable_word S (after_raise S w d).words c ≡ max (durable_word S w.words c) d.1
            here = raised_here d is e

            by : (one_if (goes_round (durable_word S w.words c) (durable_word S (after_raise S w d).words c) v) ≡ 0)
                ⊎ ((one_if (goes_round (durable_word S w.words c) (durable_word S (after_raise S w d).words c) v) ≡ 1) × (durable_word S w.words c ≡ durable_word S (after_raise S w d).words c → ⊥) × (durable_word S (after_raise S w d).words c < v))
                → one_if (goes_round (durable_word S w.words c) (durable_word S (after_raise S w d).words c) v) + pending_among (durable_word S (after_raise S w d).words c) c v w.loaded ≤ pending_among (durable_word S w.words c) c v w.loaded
            by (inl q) =
                let b = all_rise (durable_word S w.words c) (durable_word S (after_raise S w d).words c) c v up w.loaded in
                omega (arith, q, b)
            by (inr q) = changed (cases_lt (durable_word S w.words c) d.1)
              where
                changed : (durable_word S w.words c < d.1) ⊎ (d.1 ≤ durable_word S w.words c) → one_if (goes_round (durable_word S w.words c) (durable_word S (after_raise S w d).words c) v) + pending_among (durable_word S (after_raise S w d).words c) c v w.loaded ≤ pending_among (durable_word S w.words c) c v w.loaded
                changed (inr u) = absurd (q.1 (omega (arith, here, u)))
                changed (inl u) =
                    let b = one_raised (durable_word S w.words c) (durable_word S (after_raise S w d).words c) c v up w.loaded k h e u (omega (arith, here, u, q.2)) (omega (arith, here)) in
                    omega (arith, q.0, b)

    -- a cell's present word is raised
    raise_leaves : (x : ℕ) → x < cell_count S → Leaves (after_event S w (Raises x))
    raise_leaves x h =
        let a = stays_not (durable_word S w.words c) (durable_word S (after_raise S w d).words c) v (go (cases_eq x c)) in
        let b = all_rise (durable_word S w.words c) (durable_word S (after_raise S w d).words c) c v (rises S Lawful B w.words w.batches g.core.shared x (get_or w.words x 0) is c) w.loaded in
        (omega (arith, a, b), omega (arith, t, cell_stays d))
      where
        d : ℕ × ℕ
        d = (x, get_or w.words x 0)

        is : IsLoaded S B w.words w.batches d
        is = load_kept S Lawful B w g x h

        go : (x ≡ c) ⊎ (x ≡ c → ⊥) → (durable_word S (after_raise S w d).words c ≡ durable_word S w.words c) ⊎ (v ≤ durable_word S (after_raise S w d).words c)
        go (inr n) = inl (raised_other d n)
        go (inl e) = inr (let y : get_or w.words x 0 ≡ get_or w.words c 0 = ap (λ (k : ℕ). get_or w.words k 0) e in omega (arith, raised_here d is e, y, t))

    leaves : (e : Event) → MayHappen S w e → Leaves (after_event S w e)
    leaves (Begins i op) may = (let a = stays_not (durable_word S w.words c) (durable_word S w.words c) v (inl refl) in omega (arith, a), t)
    leaves (Revives i made) may = (let a = stays_not (durable_word S w.words c) (durable_word S w.words c) v (inl refl) in omega (arith, a), t)
    leaves (Turns i) may = turn_leaves i may
    leaves (Loads x) may = (
      let a = stays_not (durable_word S w.words c) (durable_word S w.words c) v (inl refl) in
          let b = one_more (durable_word S w.words c) c v w.loaded (x, get_or w.words x 0) (λ e. omega (arith, t, ap (λ (k : ℕ). get_or w.words k 0) e)) in
          omega (arith, a, b),
      t,
    )
    leaves (Evicts k) may = evict_leaves k may
    leaves (Raises x) may = raise_leaves x may

  -- in every schedule the changes below v are no more than the words that are pending
  pub changes_few : (es : List Event) (w : Moment) → MeetsInvariant S Lawful B w → (c v : ℕ) → c < cell_count S → v ≤ get_or w.words c 0 → IsSchedule S w es → lower_changes S w es c v ≤ pending S w c v
  changes_few [] w g c v l t s = omega arith
  changes_few (e ∷ es) w g c v l t s =
      let a = leaves w g c v l t e s.0 in
      let b = changes_few es (after_event S w e) (event_good S Lawful B w g sound e s.0) c v l a.1 s.1 in
      omega (arith, a.0, b)

  module _ (w : Moment) (g : MeetsInvariant S Lawful B w) (i c v : ℕ) (h : i < S.callers) (l : c < cell_count S) (e : want S (machine_in w i) ≡ Raise (durable_at S c) v) where
    -- what is raised is no more than the cell's word: after the step the durable word isn't above it
    pub raise_held : v ≤ get_or w.words c 0
    raise_held = omega (arith, now, cell, after.core.shared.durable.low c l)
      where
        m : CallState
        m = machine_in w i

        own : get_or w.machines i m ≡ m
        own = get_or_default w.machines i m no_machine (omega (arith, g.core.members, h))

        n : ℕ
        n = word_found S w.words m

        after : MeetsInvariant S Lawful B (after_step S i m n w)
        after = step_kept S Lawful sound B w g i m h own n (found_now S w.words m)

        now : durable_word S (after_step S i m n w).words c ≡ max (durable_word S w.words c) v
        now = ap (λ (o : Op). durable_word S (words_after o w.words) c) e ∙ get_or-set_same w.words (durable_at S c) (max (durable_word S w.words c) v) 0 (omega (arith, g.core.shared.room, l))

        cell : get_or (after_step S i m n w).words c 0 ≡ get_or w.words c 0
        cell = ap (λ (o : Op). get_or (words_after o w.words) c 0) e ∙ get_or-set_other w.words (durable_at S c) c (max (durable_word S w.words c) v) 0 (λ z. omega (arith, z, l))

    pub raise_short : (es : List Event) → IsSchedule S w es → lower_changes S w es c v ≤ pending S w c v
    raise_short es s = changes_few es w g c v l raise_held s

  pub eviction_short : (w : Moment) → MeetsInvariant S Lawful B w → (e : ℕ × ℕ) → IsLoaded S B w.words w.batches e → (es : List Event) → IsSchedule S w es → lower_changes S w es e.0 e.1 ≤ pending S w e.0 e.1
  eviction_short w g e h es s = changes_few es w g e.0 e.1 h.place h.low s
