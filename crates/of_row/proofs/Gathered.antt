-- A pass that keeps a caller of each number that is taken: it may learn of all events, and each word
-- that it loads from then on is that of the moment which they leave.
use Rattle.std.proofs.Common.{◌≡◌, ◌==◌, ℕ, ◌+◌, ◌<◌, ◌≤◌, ◌⊎◌, inl, inr, false, Option, Some, List, [], ◌∷◌, ◌++◌, length, get_or, set, refl, sym, ◌∙◌, ap, subst, arith}
use Rattle.std.specs.Int.{bit_at}
use Rattle.std.specs.List.{AllByRecursion as Each}
use Rattle.std.proofs.lemmas.Bool.{cases_eq, eq-eqb}
use Rattle.std.proofs.lemmas.List.{append-nil, length-append}
use Rattle.std.proofs.lemmas.Nat.Bits.{bit_at-lt}
use mathlib.Core.Option.{some}
use lib.ListN.{get_elem?}
use Rattle.atomic_table.specs.Table.{State, Me, keeps, Allows}
use Rattle.of_mem.specs.Meaning.{Meaning}
use Rattle.of_core.specs.Table.{Setup, words_before_members, durable_at}
use Rattle.of_core.specs.TableMoment.{Moment, TableStart}
use Rattle.of_core.specs.Events.{Event, Begins, Turns, Loads, Evicts, Raises, Revives, after_event, after_events, IsSchedule, turn_count, one_if}
use Rattle.of_core.proofs.Parts.{run_append, second_part}
use Rattle.of_row.specs.declared.view.RowKey.{RowKey}
use Rattle.of_row.specs.Views.{KnownCaller, View, KnowsStill}
use Rattle.of_mem.proofs.Lists.{prefix_trans}
use Rattle.of_row.specs.Trail.{first_of, moment, TurnIsNext, AreSteps, IsRunBy}
use Rattle.of_row.specs.Rule.{members_of, IsFirstPassView, IsRaised, IsCallerKept, ViewFits, MeetsRule}
use Rattle.of_row.specs.Keys.{key_setup, key_start}
use Rattle.of_row.specs.Gathered.{IsGathered, HasLongerPast, HasWholePast, LearnsAll, IsWordOfPast, LearnsAllOf, IsWordOfPastOf}
use Rattle.of_row.proofs.AtOnce.{raised_already}
use Rattle.of_row.proofs.Events.{turns_append}
use Rattle.of_row.proofs.Fixed.{allows_with}
use Rattle.of_row.proofs.Frames.{seats_set}
use Rattle.of_row.proofs.Fronts.{each_map, each_at}
use Rattle.of_row.proofs.Moves.{other_views, loads_so}
use Rattle.of_row.proofs.Pasts.{prefix_self}
use Rattle.of_row.proofs.RowLaws.{word_at}

-- ---- events without a turn and without a load

-- what was loaded stays
loaded_more : (S : Setup) (w : Moment) (es : List Event) → length w.loaded ≤ length (after_events S w es).loaded
loaded_more S w [] = omega arith
loaded_more S w (Begins i op ∷ es) = loaded_more S (after_event S w (Begins i op)) es
loaded_more S w (Turns i ∷ es) = loaded_more S (after_event S w (Turns i)) es
loaded_more S w (Loads c ∷ es) = omega (arith, loaded_more S (after_event S w (Loads c)) es, length-append w.loaded ((c, get_or w.words c 0) ∷ []))
loaded_more S w (Evicts k ∷ es) = loaded_more S (after_event S w (Evicts k)) es
loaded_more S w (Raises c ∷ es) = loaded_more S (after_event S w (Raises c)) es
loaded_more S w (Revives i made ∷ es) = loaded_more S (after_event S w (Revives i made)) es

-- a turn is counted
turn_counted : (i : ℕ) (es : List Event) → turn_count i (Turns i ∷ es) ≡ 0 → ⊥
turn_counted i es z = let one : one_if (i == i) ≡ 1 = ap one_if (eq-eqb i i refl) in omega (arith, z, one)

next_counted : (i : ℕ) (es : List Event) → TurnIsNext i es → turn_count i es ≡ 0 → ⊥
next_counted i [] t z = t
next_counted i (Begins j op ∷ es) t z = t
next_counted i (Turns j ∷ es) t z = turn_counted i es (subst (λ (k : ℕ). turn_count i (Turns k ∷ es) ≡ 0) t z)
next_counted i (Loads c ∷ es) t z = t
next_counted i (Evicts k ∷ es) t z = t
next_counted i (Raises c ∷ es) t z = t
next_counted i (Revives j made ∷ es) t z = t

-- Nobody makes a turn, nothing is loaded, and all that was loaded is raised: the words stay.
words_stay : (S : Setup) (w : Moment) (es : List Event) → IsSchedule S w es → AreSteps es → ((i : ℕ) → i < S.callers → turn_count i es ≡ 0) → length (after_events S w es).loaded ≤ length w.loaded → Each (IsRaised S w.words) w.loaded
    → (after_events S w es).words ≡ w.words
words_stay S w [] may steps none few up = refl
words_stay S w (Begins i op ∷ es) may steps none few up = absurd (next_counted i es steps.0 (omega (arith, none i may.0.0)))
words_stay S w (Turns i ∷ es) may steps none few up = absurd (turn_counted i es (none i may.0))
words_stay S w (Loads c ∷ es) may steps none few up = absurd (omega (arith, few, loaded_more S (after_event S w (Loads c)) es, length-append w.loaded ((c, get_or w.words c 0) ∷ [])))
words_stay S w (Raises c ∷ es) may steps none few up = absurd steps
words_stay S w (Revives i made ∷ es) may steps none few up = words_stay S (after_event S w (Revives i made)) es may.1 steps (λ j low. omega (arith, none j low)) few up
words_stay S w (Evicts k ∷ es) may steps none few up =
    let e : ℕ × ℕ = get_or w.loaded k (0, 0) in
    let same : after_event S w (Evicts k) ≡ w = λ i. record w { words = raised_already w.words (durable_at S e.0) e.1 (each_at (IsRaised S w.words) w.loaded k (0, 0) may.0 up).1 i } in
    subst (λ (z : Moment). IsSchedule S z es → length (after_events S z es).loaded ≤ length w.loaded → (after_events S z es).words ≡ w.words) (sym same)
    (λ rest less. words_stay S w es rest steps (λ i low. omega (arith, none i low)) less up) may.1 few

steps_rest : (es ds : List Event) → AreSteps (es ++ ds) → AreSteps ds
steps_rest [] ds a = a
steps_rest (Begins i op ∷ es) ds a = steps_rest es ds a.1
steps_rest (Turns i ∷ es) ds a = steps_rest es ds a
steps_rest (Loads c ∷ es) ds a = steps_rest es ds a
steps_rest (Evicts k ∷ es) ds a = steps_rest es ds a
steps_rest (Raises c ∷ es) ds a = absurd a
steps_rest (Revives i made ∷ es) ds a = steps_rest es ds a

-- events that both tell of a caller have as many turns of it
turns_alike : (S : Setup) (B : TableStart) (es ds : List Event) (n : ℕ) (xs : List KnownCaller) → IsCallerKept n xs → Each (IsRunBy S B es) xs → Each (IsRunBy S B ds) xs → turn_count n es ≡ turn_count n ds
turns_alike S B es ds n [] q a b = absurd q
turns_alike S B es ds n (x ∷ xs) (inl q) a b = subst (λ (k : ℕ). turn_count k es ≡ turn_count k ds) q (sym a.0.told.turned ∙ b.0.told.turned)
turns_alike S B es ds n (x ∷ xs) (inr q) a b = turns_alike S B es ds n xs q a.1 b.1

-- ---- a view at its seat

module _ (S : Setup) (L : List ℕ → Type 0) (B : TableStart) (s : State (Unit {0}) View) (r : MeetsRule S L B s) (id : ℕ) (v : View) (at : get_elem? s.views id ≡ some v) (live : v.spent ≡ false) (here : IsGathered S.callers v) where
  fits : ViewFits S B s.words r.events r.home r.chief id v
  fits = r.each id v at live

  chief : IsFirstPassView (members_of S s.words) (moment S B r.events).loaded r.chief id v
  chief = fits.first here.first

  -- all evictions are the pass's
  evicts : v.evicted ≡ (moment S B r.events).loaded
  evicts = sym (append-nil v.evicted) ∙ (ap (λ (l : List (ℕ × ℕ)). v.evicted ++ l) (sym here.none) ∙ chief.evicts)

  -- the view with all events for its past
  abbrev learnt : View
  learnt = record v { past = r.events }

  learnt_fits : ViewFits S B s.words r.events r.home r.chief id learnt
  learnt_fits = record {
    seen = fits.seen;
    past = prefix_self r.events;
    met = each_map (KnowsStill v) (KnowsStill learnt) v.met (λ k p. (p.0, prefix_trans k.past v.past r.events p.1 fits.past)) fits.met;
    kept = fits.kept;
    apart = fits.apart;
    runs = fits.runs;
    knows = fits.knows;
    raised = fits.raised;
    first = λ q. record { here = chief.here; asked = chief.asked; set = chief.set; evicts = chief.evicts };
  }

  whole : HasWholePast S B learnt
  whole = record {
    runs = fits.runs;
    evicts = evicts;
    raised = each_map (IsRaised S s.words) (IsRaised S (moment S B r.events).words) v.evicted (λ e q. (q.0, let same = word_at S L B s r (durable_at S e.0) (omega (arith, q.0)) in omega (arith, q.1, same))) fits.raised;
  }

  pub learns : LearnsAll S L B v learnt
  learns = record {
    learnt = (fits.past, refl);
    whole = whole;
    words = s.words;
    meets = record { state = s; rule = r; words = refl; seat = id; view = at };
    own = word_at S L B s r;
  }

  -- the rule with that view
  pub learns_rule : MeetsRule S L B record { words = s.words; homes = s.homes; views = set s.views id learnt }
  learns_rule = other_views S L B s r r.home (set s.views id learnt) (seats_set (ViewFits S B s.words r.events r.home r.chief) (ViewFits S B s.words r.events r.home r.chief) s.views id learnt r.each (λ j u away p alive g. g) (λ _. learnt_fits))

  pub same_rule : MeetsRule S L B record { words = s.words; homes = s.homes; views = set s.views id v }
  same_rule = other_views S L B s r r.home (set s.views id v) (seats_set (ViewFits S B s.words r.events r.home r.chief) (ViewFits S B s.words r.events r.home r.chief) s.views id v r.each (λ j u away p alive g. g) (λ _. fits))

  -- If it has learnt of all events, what has come since has changed no word.
  module _ (known : HasWholePast S B v) where
    rest : List Event
    rest = fits.past.0

    no_turn : (i : ℕ) → i < S.callers → turn_count i fits.past.0 ≡ 0
    no_turn i low = go (cases_eq (bit_at (members_of S s.words) i) 1)
      where
        both : turn_count i r.events ≡ turn_count i v.past + turn_count i fits.past.0
        both = ap (turn_count i) (sym fits.past.1) ∙ turns_append i v.past fits.past.0

        go : (bit_at (members_of S s.words) i ≡ 1) ⊎ (bit_at (members_of S s.words) i ≡ 1 → ⊥) → turn_count i fits.past.0 ≡ 0
        go (inl on) = let same = turns_alike S B r.events v.past i v.kept (here.keeps i low (chief.asked i on)) fits.runs known.runs in omega (arith, both, same)
        go (inr off) =
            let b = bit_at-lt (members_of S s.words) i in
            let zero : bit_at (members_of S s.words) i ≡ 0 = omega (arith, b, off) in
            let none = (r.free i low zero).1 in
            omega (arith, both, none)

    abbrev W : Moment
    W = moment S B v.past

    leads : moment S B r.events ≡ after_events S W fits.past.0
    leads = ap (moment S B) (sym fits.past.1) ∙ run_append S (first_of S B) v.past fits.past.0

    few : length (after_events S W fits.past.0).loaded ≤ length W.loaded
    few = let same : (after_events S W fits.past.0).loaded ≡ W.loaded = ap (λ (w : Moment). w.loaded) (sym leads) ∙ (sym evicts ∙ known.evicts) in omega (arith, ap length same)

    stay : (moment S B r.events).words ≡ W.words
    stay = ap (λ (w : Moment). w.words) leads
        ∙ words_stay S W fits.past.0 (second_part S (first_of S B) v.past fits.past.0 (subst (IsSchedule S (first_of S B)) (sym fits.past.1) r.schedule)) (steps_rest v.past fits.past.0 (subst AreSteps (sym fits.past.1) r.steps)) no_turn few
        (subst (Each (IsRaised S W.words)) known.evicts known.raised)

    pub finds : (c : ℕ) → c < words_before_members S → IsWordOfPast S B v c (get_or s.words c 0)
    finds c low = word_at S L B s r c low ∙ ap (λ (ws : List ℕ). get_or ws c 0) stay

-- ---- a pass that has learnt

-- it stays gathered
pub gathered_still : (n : ℕ) (v w : View) → HasLongerPast v w → IsGathered n v → IsGathered n w
gathered_still n v w h g = subst (IsGathered n) (sym h.1) record { first = g.first; none = g.none; keeps = g.keeps }

-- ---- the loads

-- the pass learns of all events
pub learns_so : (S : Setup) (L : List ℕ → Type 0) (B : TableStart) (slots id c : ℕ) (me : Me (Unit {0}) View) → me.0.spent ≡ false → IsGathered S.callers me.0 → Allows (MeetsRule S L B) slots id me c (λ n. n) (λ n after. (after.1 ≡ me.1) × LearnsAll S L B me.0 after.0)
learns_so S L B slots id c me live here s r _ at small = (
  learnt S L B s r id me.0 at live here,
  keeps,
  tt,
  loads_so S L B s c (set s.views id (learnt S L B s r id me.0 at live here)) (learns_rule S L B s r id me.0 at live here),
  (refl, learns S L B s r id me.0 at live here),
)

-- it loads a word
pub finds_so : (S : Setup) (L : List ℕ → Type 0) (B : TableStart) (slots id c : ℕ) (me : Me (Unit {0}) View) → c < words_before_members S → me.0.spent ≡ false → IsGathered S.callers me.0 → HasWholePast S B me.0
    → Allows (MeetsRule S L B) slots id me c (λ n. n) (λ n after. (after ≡ me) × IsWordOfPast S B me.0 c n)
finds_so S L B slots id c me low live here known s r _ at small = (
  me.0,
  keeps,
  tt,
  loads_so S L B s c (set s.views id me.0) (same_rule S L B s r id me.0 at live here),
  (refl, finds S L B s r id me.0 at live here known c low),
)

-- the same, where the load is told the row's key
pub learns_for : {X : Type 0} (meaning : X → Meaning) (lawful : X → List ℕ → Type 0) (Z : Type 0) (key : RowKey X) (told : Option (RowKey X)) → told ≡ Some key → (slots id c : ℕ) (me : Me (Unit {0}) View) → me.0.spent ≡ false → IsGathered key.callers me.0
    → Allows (λ s. Z × MeetsRule (key_setup meaning key) (lawful key.work) (key_start meaning key) s) slots id me c (λ n. n) (λ n after. (after.1 ≡ me.1) × LearnsAllOf meaning lawful told me.0 after.0)
learns_for {X} meaning lawful Z key told is slots id c me live here =
    let S : Setup = key_setup meaning key in
    let L : List ℕ → Type 0 = lawful key.work in
    let B : TableStart = key_start meaning key in
    subst (λ (o : Option (RowKey X)). Allows (λ s. Z × MeetsRule S L B s) slots id me c (λ n. n) (λ n after. (after.1 ≡ me.1) × LearnsAllOf meaning lawful o me.0 after.0)) (sym is)
    (allows_with Z (MeetsRule S L B) slots id me c (λ n. n) (λ n after. (after.1 ≡ me.1) × LearnsAll S L B me.0 after.0) (λ _. learns_so S L B slots id c me live here))

pub finds_for : {X : Type 0} (meaning : X → Meaning) (lawful : X → List ℕ → Type 0) (Z : Type 0) (key : RowKey X) (told : Option (RowKey X)) → told ≡ Some key → (slots id c : ℕ) (me : Me (Unit {0}) View) → c < words_before_members (key_setup meaning key) → me.0.spent ≡ false → IsGathered key.callers me.0
    → HasWholePast (key_setup meaning key) (key_start meaning key) me.0
    → Allows (λ s. Z × MeetsRule (key_setup meaning key) (lawful key.work) (key_start meaning key) s) slots id me c (λ n. n) (λ n after. (after ≡ me) × IsWordOfPastOf meaning told me.0 c n)
finds_for {X} meaning lawful Z key told is slots id c me low live here known =
    let S : Setup = key_setup meaning key in
    let L : List ℕ → Type 0 = lawful key.work in
    let B : TableStart = key_start meaning key in
    subst (λ (o : Option (RowKey X)). Allows (λ s. Z × MeetsRule S L B s) slots id me c (λ n. n) (λ n after. (after ≡ me) × IsWordOfPastOf meaning o me.0 c n)) (sym is)
    (allows_with Z (MeetsRule S L B) slots id me c (λ n. n) (λ n after. (after ≡ me) × IsWordOfPast S B me.0 c n) (λ _. finds_so S L B slots id c me low live here known))
