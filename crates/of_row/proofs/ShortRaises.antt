-- The raises of a run are short: the core's laws on raises, at each moment of a schedule.
use Rattle.std.proofs.Common.{◌≡◌, ◌≢◌, ℕ, suc, ◌+◌, ◌-◌, ◌<◌, ◌≤◌, ◌⊎◌, ◌==◌, nat_lt, inl, inr, List, [], ◌∷◌, ◌++◌, length, get_or, take, drop, max, Bool, true, false, if◌then◌else◌, refl, sym, ◌∙◌, ap, subst, arith}
use Rattle.std.proofs.lemmas.Bool.Decides.{nat_tests}
use Rattle.std.proofs.lemmas.List.{take-append-drop, drop-drop, length-append, get_or_append_left, get_or-set_same, get_or_push}
use Rattle.std.proofs.Math.Seq.{take-add}
use Rattle.of_core.specs.Table.{Setup, cell_count, words_before_members, durable_at, durable_word}
use Rattle.of_core.specs.TableMoment.{Moment, TableStart}
use Rattle.of_core.specs.WordsMatch.{MayStart}
use Rattle.of_core.specs.Invariant.{MeetsInvariant}
use Rattle.of_core.specs.Events.{Event, Loads, Evicts, after_event, after_raise, after_events, one_if, IsSchedule, AllReplaceNone}
use Rattle.of_core.specs.Raised.{goes_round, lower_changes, is_pending, pending_among, EvictionsAreShort, RaisesUndisturbed, EvictionsUndisturbed}
use Rattle.of_core.specs.Laws.{LoadsMayBeRaised, StartsMeetInvariant, SchedulesKeepInvariant}
use Rattle.of_core.specs.Grounds.{GoodGrounds}
use Rattle.of_core.proofs.Parts.{run_append, first_part, second_part}
use Rattle.of_core.proofs.ShortRaises.{stands, not_pending}
use Rattle.of_row.specs.Trail.{first_of, moment}
use Rattle.of_row.specs.ShortRaises.{moment_at, durable_after, IsShort, HasShortRaises}
use Rattle.of_row.proofs.Events.{schedule_append, first_replace_none, both_replace_none}

-- ---- events in two parts

-- lower changes of one list of events, and then of another
lower_append : (S : Setup) (w : Moment) (xs ys : List Event) (c v : ℕ) → lower_changes S w (xs ++ ys) c v ≡ lower_changes S w xs c v + lower_changes S (after_events S w xs) ys c v
lower_append S w [] ys c v = omega arith
lower_append S w (e ∷ xs) ys c v = omega (arith, lower_append S (after_event S w e) xs ys c v)

-- a word that has changed to one below v is counted
round_is : (x y v : ℕ) → (x ≡ y → ⊥) → y < v → one_if (goes_round x y v) ≡ 1
round_is x y v n l = go (x == y) refl (nat_lt y v) refl
  where
    go : (a : Bool) → (x == y) ≡ a → (b : Bool) → nat_lt y v ≡ b → one_if (if a then false else b) ≡ 1
    go true e b f = let z : x ≡ y = grind (arith, nat_tests) in absurd (n z)
    go false e false f = let z : v ≤ y = grind (arith, nat_tests) in absurd (omega (arith, z, l))
    go false e true f = refl

-- nothing is pending if none of the loaded words is between the two
none_among : (x c v : ℕ) (es : List (ℕ × ℕ)) → ((y : ℕ) → y < length es → (get_or es y (0, 0)).0 ≡ c → x < (get_or es y (0, 0)).1 → (get_or es y (0, 0)).1 < v → ⊥) → pending_among x c v es ≡ 0
none_among x c v [] none = refl
none_among x c v (e ∷ es) none =
    let a : one_if (is_pending x c v e) ≡ 0 = not_pending x c v e (none 0 (omega arith)) in
    let b : pending_among x c v es ≡ 0 = none_among x c v es (λ y l. none (suc y) (omega (arith, l))) in
    omega (arith, a, b)

-- ---- a schedule at one of its moments

module _ (S : Setup) (B : TableStart) (es : List Event) where
  -- the moment n events later
  moment_later : (k n : ℕ) → moment_at S B es (k + n) ≡ after_events S (moment_at S B es k) (take n (drop k es))
  moment_later k n = ap (moment S B) (take-add k n es) ∙ run_append S (first_of S B) (take k es) (take n (drop k es))

  -- the lower changes from one moment on are those up to a later one, and those from there on
  lower_parts : (k n c v : ℕ) → lower_changes S (moment_at S B es k) (drop k es) c v
      ≡ lower_changes S (moment_at S B es k) (take n (drop k es)) c v + lower_changes S (moment_at S B es (k + n)) (drop (k + n) es) c v
  lower_parts k n c v =
      ap (λ (ds : List Event). lower_changes S (moment_at S B es k) ds c v) (sym (take-append-drop n (drop k es)))
      ∙ (lower_append S (moment_at S B es k) (take n (drop k es)) (drop n (drop k es)) c v
      ∙ (λ p. lower_changes S (moment_at S B es k) (take n (drop k es)) c v + lower_changes S (sym (moment_later k n) p) (sym (rest k n) p) c v))
    where
      rest : (k n : ℕ) → drop (k + n) es ≡ drop n (drop k es)
      rest k n = sym (drop-drop n k es)

  module _ (k c v : ℕ) (quiet : lower_changes S (moment_at S B es k) (drop k es) c v ≡ 0) where
    -- from later moments on there is no lower change either
    quiet_at : (a : ℕ) → k ≤ a → lower_changes S (moment_at S B es a) (drop a es) c v ≡ 0
    quiet_at a low =
        let n : ℕ = a - k in
        let at : k + n ≡ a = omega arith in
        let p = lower_parts k n c v in
        subst (λ (x : ℕ). lower_changes S (moment_at S B es x) (drop x es) c v ≡ 0) at (omega (arith, p, quiet))

    -- between two of them the word stays as it is, or becomes at least v
    stays : (a b : ℕ) → k ≤ a → a ≤ b → (durable_after S B es b c ≡ durable_after S B es a c) ⊎ (v ≤ durable_after S B es b c)
    stays a b low up = subst (λ (x : ℕ). (durable_after S B es x c ≡ durable_after S B es a c) ⊎ (v ≤ durable_after S B es x c)) at later
      where
        n : ℕ
        n = b - a

        at : a + n ≡ b
        at = omega arith

        none : lower_changes S (moment_at S B es a) (take n (drop a es)) c v ≡ 0
        none = let p = lower_parts a n c v in let q = quiet_at a low in omega (arith, p, q)

        later : (durable_after S B es (a + n) c ≡ durable_after S B es a c) ⊎ (v ≤ durable_after S B es (a + n) c)
        later = subst (λ (z : Moment). (durable_word S z.words c ≡ durable_after S B es a c) ⊎ (v ≤ durable_word S z.words c)) (sym (moment_later a n)) (stands S (take n (drop a es)) (moment_at S B es a) c v none)

    pub short : IsShort S B es k c v
    short = record {
      undisturbed = quiet;
      once = λ load exchange again k_in l_in e_in other. go load exchange again other (stays load exchange k_in l_in) (stays exchange again (omega arith) e_in);
    }
      where
        go : (a b d : ℕ) → durable_after S B es b c ≢ durable_after S B es a c → (durable_after S B es b c ≡ durable_after S B es a c) ⊎ (v ≤ durable_after S B es b c) → (durable_after S B es d c ≡ durable_after S B es b c) ⊎ (v ≤ durable_after S B es d c) → v ≤ durable_after S B es d c
        go a b d other (inl e) q = absurd (other e)
        go a b d other (inr u) (inl e) = omega (arith, u, e)
        go a b d other (inr u) (inr t) = t

-- ---- the core's laws there

module _ (S : Setup) (L : List ℕ → Type 0) (start : StartsMeetInvariant S L) (runs : SchedulesKeepInvariant S L) (grounds : GoodGrounds S L) (loads : LoadsMayBeRaised S L) (short_evictions : EvictionsAreShort S L) (undisturbed : RaisesUndisturbed S L) (loaded : EvictionsUndisturbed S L) (B : TableStart) (may : MayStart S L B) (es : List Event) (is : IsSchedule S (first_of S B) es) (same : AllReplaceNone es) where
  module _ (k : ℕ) where
    abbrev w : Moment
    w = moment_at S B es k

    whole : IsSchedule S (first_of S B) (take k es ++ drop k es)
    whole = subst (IsSchedule S (first_of S B)) (sym (take-append-drop k es)) is

    before : IsSchedule S (first_of S B) (take k es)
    before = first_part S (first_of S B) (take k es) (drop k es) whole

    after : IsSchedule S w (drop k es)
    after = second_part S (first_of S B) (take k es) (drop k es) whole

    same_before : AllReplaceNone (take k es)
    same_before = first_replace_none (take k es) (drop k es) (subst AllReplaceNone (sym (take-append-drop k es)) same)

    good : MeetsInvariant S L B w
    good = runs B (first_of S B) (start B may (words_before_members S + 1) (omega arith)).0 (take k es) before

    -- a loaded word that is above the durable word of its cell isn't below the cell's word: if the
    -- cell were loaded again, the raise to the older word would be such a change
    none_between : (c : ℕ) → c < cell_count S → (y : ℕ) → y < length w.loaded → (get_or w.loaded y (0, 0)).0 ≡ c → durable_word S w.words c < (get_or w.loaded y (0, 0)).1 → (get_or w.loaded y (0, 0)).1 < get_or w.words c 0 → ⊥
    none_between c low y inside here above below = omega (arith, counts, none)
      where
        v : ℕ
        v = get_or w.words c 0

        e : ℕ × ℕ
        e = get_or w.loaded y (0, 0)

        -- the cell is loaded again
        again : Moment
        again = after_event S w (Loads c)

        many : length again.loaded ≡ length w.loaded + 1
        many = length-append w.loaded ((c, v) ∷ [])

        old : get_or again.loaded y (0, 0) ≡ e
        old = get_or_append_left w.loaded ((c, v) ∷ []) (0, 0) y inside

        new : get_or again.loaded (length w.loaded) (0, 0) ≡ (c, v)
        new = get_or_push w.loaded (c, v) (0, 0) (length w.loaded) refl

        leads : moment S B (take k es ++ Loads c ∷ []) ≡ again
        leads = run_append S (first_of S B) (take k es) (Loads c ∷ [])

        may_load : IsSchedule S (first_of S B) (take k es ++ Loads c ∷ [])
        may_load = schedule_append S (first_of S B) (take k es) (Loads c ∷ []) before (low, tt)

        Undisturbed : Moment → Type 0
        Undisturbed z = (n : ℕ) → n < length z.loaded → (ds : List Event) → IsSchedule S z ds → lower_changes S z ds (get_or z.loaded n (0, 0)).0 (get_or z.loaded n (0, 0)).1 ≡ 0

        so : Undisturbed again
        so = subst Undisturbed leads (loaded B may (words_before_members S + 1) (omega arith) (take k es ++ Loads c ∷ []) may_load (both_replace_none (take k es) (Loads c ∷ []) same_before (tt, tt)))

        none : lower_changes S again (Evicts y ∷ []) c v ≡ 0
        none = subst (λ (d : ℕ × ℕ). lower_changes S again (Evicts y ∷ []) d.0 d.1 ≡ 0) new (so (length w.loaded) (omega (arith, many)) (Evicts y ∷ []) (omega (arith, many, inside), tt))

        raised : durable_word S (after_raise S again e).words c ≡ e.1
        raised = subst (λ (x : ℕ). durable_word S (after_raise S again e).words x ≡ e.1) here
            (get_or-set_same w.words (durable_at S e.0) (max (durable_word S w.words e.0) e.1) 0 (omega (arith, (grounds B w good).room, here, low))
            ∙ omega (arith, above, ap (durable_word S w.words) here))

        counts : lower_changes S again (Evicts y ∷ []) c v ≡ 1
        counts =
            let one : one_if (goes_round (durable_word S w.words c) (durable_word S (after_raise S again e).words c) v) ≡ 1
            = round_is (durable_word S w.words c) (durable_word S (after_raise S again e).words c) v (λ z. omega (arith, z, raised, above)) (omega (arith, raised, below)) in
            let here_too : lower_changes S again (Evicts y ∷ []) c v ≡ one_if (goes_round (durable_word S w.words c) (durable_word S (after_raise S again e).words c) v) + 0
            = ap (λ (d : ℕ × ℕ). one_if (goes_round (durable_word S w.words c) (durable_word S (after_raise S again d).words c) v) + 0) old in
            omega (arith, one, here_too)

    quiet_now : (c : ℕ) → c < cell_count S → lower_changes S w (drop k es) c (get_or w.words c 0) ≡ 0
    quiet_now c low =
        let few : lower_changes S w (drop k es) c (get_or w.words c 0) ≤ pending_among (durable_word S w.words c) c (get_or w.words c 0) w.loaded
        = short_evictions B w good (c, get_or w.words c 0) (loads B w good c low) (drop k es) after in
        let none : pending_among (durable_word S w.words c) c (get_or w.words c 0) w.loaded ≡ 0
        = none_among (durable_word S w.words c) c (get_or w.words c 0) w.loaded (none_between c low) in
        omega (arith, few, none)

  pub short_raises : HasShortRaises S B es
  short_raises = record {
    calls = λ k i c v i_in c_in wants. short S B es k c v (undisturbed B may (words_before_members S + 1) (omega arith) (take k es) (before k) (same_before k) i c v i_in c_in wants (drop k es) (after k));
    evictions = λ k n l. short S B es k (get_or (moment_at S B es k).loaded n (0, 0)).0 (get_or (moment_at S B es k).loaded n (0, 0)).1
        (loaded B may (words_before_members S + 1) (omega arith) (take k es) (before k) (same_before k) n l (drop k es) (after k));
    at_once = λ k c low. short S B es k c (get_or (moment_at S B es k).words c 0) (quiet_now k c low);
  }
