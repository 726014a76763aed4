-- A member whose machine is lost learns of all events, and a new machine takes the lost one's place.
use Rattle.std.proofs.Common.{◌≡◌, ◌≢◌, ◌==◌, ℕ, ◌+◌, ◌-◌, ◌<◌, ◌≤◌, ◌⊎◌, inl, inr, Bool, true, false, Option, Some, List, [], ◌∷◌, ◌++◌, length, get_or, set, map, refl, sym, ◌∙◌, ap, subst, arith}
use Rattle.std.specs.Int.{bit_at}
use Rattle.std.specs.List.{All, AllByRecursion as Each}
use Rattle.std.proofs.lemmas.Bool.{cases_lt, eq-eqb, ne_eqb}
use Rattle.std.proofs.lemmas.List.{append-nil, length-append, length-map, map-append, get_or_append_left, get_or-append_right, get_or-set_same, get_or-set_other}
use mathlib.Core.List.{IsPrefix}
use mathlib.Core.Option.{some}
use lib.ListN.{get_elem?}
use Rattle.atomic_table.specs.Table.{State, Me, keeps, Allows}
use Rattle.of_mem.specs.Meaning.{Meaning}
use Rattle.of_mem.proofs.Lists.{prefix_trans}
use Rattle.of_core.specs.declared.place.Place.{Place}
use Rattle.of_core.specs.declared.place.Place.TheVariants.{Idle}
use Rattle.of_core.specs.declared.place.Outcome.{Outcome}
use Rattle.of_core.specs.declared.place.Outcome.TheVariants.{Lost}
use Rattle.of_core.specs.declared.remains.Remains.{Remains}
use Rattle.of_core.specs.Table.{Setup, words_before_members, committed_seq}
use Rattle.of_core.specs.Machine.{Call, CallState, IsOpen, is_idle, no_machine}
use Rattle.of_core.specs.TableMoment.{Moment, TableStart, Batch}
use Rattle.of_core.specs.History.{batch_at}
use Rattle.of_core.specs.Claim.{IsSound}
use Rattle.of_core.specs.Invariant.{MeetsInvariant}
use Rattle.of_core.specs.Remains.{remains_of, MayRevive, announces_open_call, revived_if, revived_machine, CountsOn, after_revival}
use Rattle.of_core.specs.Events.{Event, Revives, IsSchedule, machine_in, after_event, turn_count, one_if, start_ticket}
use Rattle.of_core.specs.Calls.{HasCalls, if_so, operations_begun, outcomes, outcome_of_loss}
use Rattle.of_core.proofs.Parts.{run_append, operations_append, outcomes_append}
use Rattle.of_row.specs.declared.view.RowKey.{RowKey}
use Rattle.of_row.specs.Views.{SeenBatch, EndedCall, KnownCaller, View, no_ended, seen_batch, IsSeenPrefix, seen_seq, KnowsStill}
use Rattle.of_row.specs.Told.{operations_known, outcomes_of}
use Rattle.of_row.specs.Trail.{first_of, moment, AreSteps, revival_count, IsToldBy, IsRunBy, HasDoneNothing}
use Rattle.of_row.specs.Rule.{done_before, members_of, CallHasEnded, open_call_count, HasOwn, IsAtHome, KnowsCallsOf, ViewFits, MeetsRule}
use Rattle.of_row.specs.RowLaws.{RowLaws}
use Rattle.of_row.specs.Keys.{key_setup, key_start}
use Rattle.of_row.specs.Revivals.{HasOwnPast, after_learning, LearnsWord, lost_calls, new_machine_at, known_after_revival, after_revival_of, TakesOver, IsReplacedAt, TriesRevival, LearnsWordOf, TriesRevivalOf}
use Rattle.of_row.proofs.Events.{schedule_append, steps_append, turns_append, revivals_append, busy_append}
use Rattle.of_row.proofs.Pasts.{prefix_self, prefix_more}
use Rattle.of_row.proofs.Calls.{calls_of, counts_made, has_own}
use Rattle.of_row.proofs.Frames.{seats_set, chief_as}
use Rattle.of_row.proofs.Fronts.{each_map, each_both, front_all, front_prefix, ended_later}
use Rattle.of_row.proofs.Moves.{other_views, loads_so}
use Rattle.of_row.proofs.Onces.{own_once, legal_front}
use Rattle.of_row.proofs.RowLaws.{good_of, word_at}
use Rattle.of_row.proofs.Fixed.{allows_with}
use Rattle.of_row.proofs.Tellings.{begun_idle, begun_open}
use Rattle.of_row.proofs.Revivable.{leaves_between}

-- ---- what a new machine has of the lost one

revived_caller : (S : Setup) (r : Remains) (i made : ℕ) → (revived_machine S r i made).caller ≡ i
revived_caller S r i made = go (announces_open_call r)
  where
    go : (b : Bool) → (revived_if S r i made b).caller ≡ i
    go true = refl
    go false = refl

-- one that goes on has made the steps of its announcement
revived_started : (S : Setup) (r : Remains) (i made : ℕ) → IsOpen (revived_machine S r i made).place → 0 < (revived_machine S r i made).steps
revived_started S r i made = go (announces_open_call r)
  where
    go : (b : Bool) → IsOpen (revived_if S r i made b).place → 0 < (revived_if S r i made b).steps
    go true o = omega arith
    go false o = let z : true ≡ false = o in cc

open_or_idle : (p : Place) → (is_idle p ≡ false) ⊎ (p ≡ Idle)
open_or_idle Idle = inr refl
open_or_idle p = inl refl

head_is : {A : Type 0} (x y : A) → (x ∷ []) ≡ (y ∷ []) → x ≡ y
head_is x y e = cc

-- ---- a load by which a view learns of all events

module _ (S : Setup) (L : List ℕ → Type 0) (B : TableStart) (s : State (Unit {0}) View) (r : MeetsRule S L B s) (id : ℕ) (v : View) (at : get_elem? s.views id ≡ some v) (live : v.spent ≡ false) where
  fits : ViewFits S B s.words r.events r.home r.chief id v
  fits = r.each id v at live

  abbrev learnt : View
  learnt = after_learning v r.events

  learnt_fits : ViewFits S B s.words r.events r.home r.chief id learnt
  learnt_fits = record {
    seen = fits.seen;
    past = prefix_self r.events;
    met = each_map (KnowsStill v) (KnowsStill learnt) v.met (λ k p. (p.0, prefix_trans k.past v.past r.events p.1 fits.past)) fits.met;
    kept = fits.kept;
    apart = fits.apart;
    runs = fits.runs;
    knows = fits.knows;
    raised = fits.raised;
    first = λ q. chief_as (members_of S s.words) (members_of S s.words) _ _ r.chief id v learnt refl refl refl refl refl (fits.first q);
  }

  own_past : HasOwnPast S L B learnt
  own_past = record { from = r.from; schedule = r.schedule; runs = fits.runs }

  learns : (c : ℕ) → c < words_before_members S → LearnsWord S L B c v (get_or s.words c 0) learnt
  learns c low = record { is = refl; past = fits.past; own = own_past; word = word_at S L B s r c low; state = s; rule = r; now = refl }

  learns_rule : MeetsRule S L B record { words = s.words; homes = s.homes; views = set s.views id learnt }
  learns_rule = other_views S L B s r r.home (set s.views id learnt) (seats_set (ViewFits S B s.words r.events r.home r.chief) (ViewFits S B s.words r.events r.home r.chief) s.views id learnt r.each (λ j u away p alive g. g) (λ _. learnt_fits))

-- ---- a new machine takes the lost one's place

module _ (S : Setup) (L : List ℕ → Type 0) (B : TableStart) (laws : RowLaws S L) (s : State (Unit {0}) View) (r : MeetsRule S L B s) (id : ℕ) (v : View) (at : get_elem? s.views id ≡ some v) (live : v.spent ≡ false)
    (x : KnownCaller) (one : v.kept ≡ x ∷ []) (may : MayRevive (remains_of S (moment S B r.events).words x.machine.caller) x.machine.caller) (below : committed_seq (moment S B r.events).words < S.limit) where
  abbrev i : ℕ
  i = x.machine.caller

  abbrev es : List Event
  es = r.events

  abbrev W : Moment
  W = moment S B es

  abbrev m : ℕ
  m = members_of S s.words

  abbrev d : CallState
  d = new_machine_at S W x

  abbrev y : KnownCaller
  y = known_after_revival S W x

  abbrev e : Event
  e = Revives i x.machine.made

  abbrev es2 : List Event
  es2 = es ++ e ∷ []

  abbrev V : Moment
  V = moment S B es2

  abbrev w : View
  w = after_revival_of S B v x es

  good : MeetsInvariant S L B W
  good = good_of S L laws B s r

  sound : IsSound S B W
  sound = laws.sound B W good

  here : ViewFits S B s.words es r.home r.chief id v
  here = r.each id v at live

  stay : IsAtHome S r.home m id x
  stay = (subst (Each (IsAtHome S r.home m id)) one here.kept).0

  run_by : IsRunBy S B es x
  run_by = (subst (Each (IsRunBy S B es)) one here.runs).0

  know : KnowsCallsOf S B W.batches (seen_seq B v.seen) x
  know = (subst (Each (KnowsCallsOf S B W.batches (seen_seq B v.seen))) one here.knows).0

  calls : HasCalls S B (start_ticket S B i) W i (operations_known x) (outcomes_of x)
  calls = calls_of S L laws.calls B r.from es r.schedule x stay.in_range run_by

  counts_lost : CountsOn (machine_in W i) d
  counts_lost = laws.counted B W good i x.machine.made stay.in_range may (ap (λ (z : CallState). z.made) (sym run_by.machine_is)) below

  made_same : d.made ≡ x.machine.made
  made_same = counts_lost.0 ∙ ap (λ (z : CallState). z.made) run_by.machine_is

  was_open : IsOpen d.place → IsOpen x.machine.place
  was_open o = subst (λ (z : CallState). IsOpen z.place) run_by.machine_is (counts_lost.1 o)

  number : d.caller ≡ i
  number = revived_caller S (remains_of S W.words i) i x.machine.made

  -- ---- the events with it

  to : V ≡ after_revival S i x.machine.made W
  to = run_append S (first_of S B) es (e ∷ [])

  schedule2 : IsSchedule S (first_of S B) es2
  schedule2 = schedule_append S (first_of S B) es (e ∷ []) r.schedule ((stay.in_range, may, counts_lost), tt)

  steps2 : AreSteps es2
  steps2 = steps_append es (e ∷ []) r.steps tt

  inside : i < length W.machines
  inside = omega (arith, sound.members, stay.in_range)

  here2 : machine_in V i ≡ d
  here2 = ap (λ (z : Moment). machine_in z i) to ∙ get_or-set_same W.machines i d no_machine inside

  batches2 : V.batches ≡ W.batches
  batches2 = ap (λ (z : Moment). z.batches) to

  loaded2 : V.loaded ≡ W.loaded
  loaded2 = ap (λ (z : Moment). z.loaded) to

  good2 : MeetsInvariant S L B V
  good2 = laws.runs B (first_of S B) (laws.start B r.from (words_before_members S + 1) (omega arith)).0 es2 schedule2

  sound2 : IsSound S B V
  sound2 = laws.sound B V good2

  begun_still : (j : ℕ) → operations_begun es2 j ≡ operations_begun es j
  begun_still j = operations_append es (e ∷ []) j ∙ append-nil (operations_begun es j)

  turned_still : (j : ℕ) → turn_count j es2 ≡ turn_count j es
  turned_still j = omega (arith, turns_append j es (e ∷ []))

  revived_now : (j : ℕ) → revival_count j es2 ≡ revival_count j es + one_if (j == i)
  revived_now j = omega (arith, revivals_append j es (e ∷ []))

  abbrev loss : List Outcome
  loss = outcome_of_loss (committed_seq W.words) (is_idle x.machine.place) (is_idle d.place)

  ended_now : (j : ℕ) → outcomes S (first_of S B) es2 j ≡ outcomes S (first_of S B) es j ++ if_so (j == i) loss
  ended_now j =
      outcomes_append S (first_of S B) es (e ∷ []) j
      ∙ ap (λ (z : List Outcome). outcomes S (first_of S B) es j ++ z)
      (append-nil (if_so (j == i) (outcome_of_loss (committed_seq W.words) (is_idle (machine_in W i).place) (is_idle (machine_in (after_event S W e) i).place)))
      ∙ λ k. if_so (j == i) (outcome_of_loss (committed_seq W.words) (is_idle (run_by.machine_is k).place) (is_idle ((get_or-set_same W.machines i d no_machine inside) k).place)))

  -- ---- what is kept of the caller

  abbrev lost : List EndedCall
  lost = lost_calls x.machine d (committed_seq W.words)

  -- the call with which a lost machine's caller goes on is the one that it had begun
  same_op : IsOpen d.place → d.op ≡ x.machine.op
  same_op o =
      let was : HasCalls S B (start_ticket S B i) W i (operations_begun es i) (outcomes S (first_of S B) es i) = laws.calls B r.from (words_before_members S + 1) (omega arith) es r.schedule i stay.in_range in
      let is : HasCalls S B (start_ticket S B i) V i (operations_begun es2 i) (outcomes S (first_of S B) es2 i) = laws.calls B r.from (words_before_members S + 1) (omega arith) es2 schedule2 i stay.in_range in
      let a = was.open_call (subst (λ (z : CallState). IsOpen z.place) (sym run_by.machine_is) (was_open o)) in
      let b = is.open_call (subst (λ (z : CallState). IsOpen z.place) (sym here2) o) in
      let long : length (outcomes S (first_of S B) es2 i) ≡ length (outcomes S (first_of S B) es i) = omega (arith, a.0, b.0, ap length (begun_still i)) in
      ap (λ (z : CallState). z.op) (sym here2) ∙ (b.1 ∙ ((λ k. get_or (begun_still i k) (long k) []) ∙ (sym a.1 ∙ ap (λ (z : CallState). z.op) run_by.machine_is)))

  idle_still : x.machine.place ≡ Idle → d.place ≡ Idle
  idle_still rest = go (open_or_idle d.place)
    where
      go : (is_idle d.place ≡ false) ⊎ (d.place ≡ Idle) → d.place ≡ Idle
      go (inl o) = let z : true ≡ false = sym (ap is_idle rest) ∙ was_open o in cc
      go (inr q) = q

  none_lost : is_idle x.machine.place ≡ true → lost ≡ []
  none_lost q = ap (λ (b : Bool). map (λ (o : Outcome). record { op = x.machine.op; outcome = o }) (outcome_of_loss (committed_seq W.words) b (is_idle d.place))) q

  goes_on : is_idle x.machine.place ≡ false → is_idle d.place ≡ false → lost ≡ []
  goes_on q o = λ k. map (λ (o : Outcome). record { op = x.machine.op; outcome = o }) (outcome_of_loss (committed_seq W.words) (q k) (o k))

  one_lost : is_idle x.machine.place ≡ false → is_idle d.place ≡ true → lost ≡ record { op = x.machine.op; outcome = Lost (committed_seq W.words) } ∷ []
  one_lost q o = λ k. map (λ (o : Outcome). record { op = x.machine.op; outcome = o }) (outcome_of_loss (committed_seq W.words) (q k) (o k))

  takes_over : TakesOver x y
  takes_over = record {
    caller = number;
    made = made_same;
    turns = refl;
    since = refl;
    losses = refl;
    idle = λ q. (idle_still q, ap (λ (l : List EndedCall). x.ended ++ l) (none_lost (ap is_idle q)) ∙ append-nil x.ended);
    open_call = λ q. go q (open_or_idle d.place);
  }
    where
      go : IsOpen x.machine.place → (is_idle d.place ≡ false) ⊎ (d.place ≡ Idle)
          → (IsOpen y.machine.place × (y.machine.op ≡ x.machine.op) × (y.ended ≡ x.ended))
          ⊎ ((y.machine.place ≡ Idle) × ((s : ℕ) × (y.ended ≡ x.ended ++ record { op = x.machine.op; outcome = Lost s } ∷ [])))
      go q (inl o) = inl (o, same_op o, ap (λ (l : List EndedCall). x.ended ++ l) (goes_on q o) ∙ append-nil x.ended)
      go q (inr rest) = inr (rest, (committed_seq W.words, ap (λ (l : List EndedCall). x.ended ++ l) (one_lost q (ap is_idle rest))))

  outcomes2 : outcomes_of y ≡ outcomes_of x ++ loss
  outcomes2 = map-append (λ (f : EndedCall). f.outcome) x.ended lost ∙ ap (λ (l : List Outcome). outcomes_of x ++ l) (back (is_idle x.machine.place) (is_idle d.place))
    where
      back : (a b : Bool) → map (λ (f : EndedCall). f.outcome) (map (λ (o : Outcome). record { op = x.machine.op; outcome = o }) (outcome_of_loss (committed_seq W.words) a b)) ≡ outcome_of_loss (committed_seq W.words) a b
      back true b = refl
      back false true = refl
      back false false = refl

  begun2 : operations_known y ≡ operations_known x
  begun2 = go (open_or_idle x.machine.place) (open_or_idle d.place)
    where
      ops : List EndedCall → List (List ℕ)
      ops l = map (λ (f : EndedCall). f.op) l

      go : (is_idle x.machine.place ≡ false) ⊎ (x.machine.place ≡ Idle) → (is_idle d.place ≡ false) ⊎ (d.place ≡ Idle) → operations_known y ≡ operations_known x
      go (inr q) o = begun_idle y (idle_still q) ∙ (ap ops (takes_over.idle q).1 ∙ sym (begun_idle x q))
      go (inl q) (inl o) = begun_open y o ∙ ((λ k. ops ((ap (λ (l : List EndedCall). x.ended ++ l) (goes_on q o) ∙ append-nil x.ended) k) ++ same_op o k ∷ []) ∙ sym (begun_open x q))
      go (inl q) (inr rest) =
          begun_idle y rest
          ∙ (ap (λ (l : List EndedCall). ops (x.ended ++ l)) (one_lost q (ap is_idle rest))
          ∙ (map-append (λ (f : EndedCall). f.op) x.ended (record { op = x.machine.op; outcome = Lost (committed_seq W.words) } ∷ []) ∙ sym (begun_open x q)))

  run2 : IsRunBy S B es2 y
  run2 = record {
    told = subst (λ (k : ℕ). IsToldBy S B es2 k y) (sym number) told2;
    machine_is = ap (machine_in V) number ∙ here2;
  }
    where
      told2 : IsToldBy S B es2 i y
      told2 = record {
        begun = begun2 ∙ (run_by.told.begun ∙ sym (begun_still i));
        ended = outcomes2 ∙ ((λ k. run_by.told.ended k ++ if_so (sym (eq-eqb i i refl) k) loss) ∙ sym (ended_now i));
        turned = run_by.told.turned ∙ sym (turned_still i);
        lost = let c : one_if (i == i) ≡ 1 = ap one_if (eq-eqb i i refl) in omega (arith, run_by.told.lost, revived_now i, c);
        busy = λ q. absurd (omega (arith, q));
      }

  -- ---- what others know

  module _ (j : ℕ) (away : i ≡ j → ⊥) where
    not_same : (j == i) ≡ false
    not_same = ne_eqb j i (λ q. away (sym q))

    revived_else : revival_count j es2 ≡ revival_count j es
    revived_else = let c : one_if (j == i) ≡ 0 = ap one_if not_same in omega (arith, revived_now j, c)

    other_machine : machine_in V j ≡ machine_in W j
    other_machine = ap (λ (z : Moment). machine_in z j) to ∙ get_or-set_other W.machines i j d no_machine (λ q. away (sym q))

    other_told : (z : KnownCaller) → IsToldBy S B es j z → IsToldBy S B es2 j z
    other_told z t = record {
      begun = t.begun ∙ sym (begun_still j);
      ended = t.ended ∙ sym (ended_now j ∙ ((λ k. outcomes S (first_of S B) es j ++ if_so (not_same k) loss) ∙ append-nil (outcomes S (first_of S B) es j)));
      turned = t.turned ∙ sym (turned_still j);
      lost = t.lost ∙ sym revived_else;
      busy = λ q. busy_append S (first_of S B) es (e ∷ []) j (t.busy q) (λ same. away (sym same), tt);
    }

    other_free : HasDoneNothing es j → HasDoneNothing es2 j
    other_free h = (begun_still j ∙ h.0, turned_still j ∙ h.1, revived_else ∙ h.2)

  other_run : (z : KnownCaller) → (i ≡ z.machine.caller → ⊥) → IsRunBy S B es z → IsRunBy S B es2 z
  other_run z away q = record { told = other_told z.machine.caller away z q.told; machine_is = other_machine z.machine.caller away ∙ q.machine_is }

  -- ---- what is known of the caller

  abbrev seen2 : List SeenBatch
  seen2 = map seen_batch W.batches

  long2 : length seen2 ≡ length W.batches
  long2 = length-map W.batches seen_batch

  front2 : IsSeenPrefix seen2 V.batches
  front2 = subst (IsSeenPrefix seen2) (sym batches2) (front_all W.batches)

  calls2 : HasCalls S B (start_ticket S B i) V i (operations_known y) (outcomes_of y)
  calls2 = subst (λ (k : ℕ). HasCalls S B (start_ticket S B k) V k (operations_known y) (outcomes_of y)) number (calls_of S L laws.calls B r.from es2 schedule2 y (omega (arith, number, stay.in_range)) run2)

  ended_each : (k : ℕ) → k < length y.ended → CallHasEnded S B W.batches (seen_seq B seen2) i (done_before S B i + k + 1) (get_or y.ended k no_ended).op (get_or y.ended k no_ended).outcome
  ended_each k l = go (cases_lt k (length x.ended))
    where
      both : length y.ended ≡ length x.ended + length lost
      both = length-append x.ended lost

      go : (k < length x.ended) ⊎ (length x.ended ≤ k) → CallHasEnded S B W.batches (seen_seq B seen2) i (done_before S B i + k + 1) (get_or y.ended k no_ended).op (get_or y.ended k no_ended).outcome
      go (inl u) =
          subst (λ (z : EndedCall). CallHasEnded S B W.batches (seen_seq B seen2) i (done_before S B i + k + 1) z.op z.outcome) (sym (get_or_append_left x.ended lost no_ended k u))
          (ended_later S B W.batches (seen_seq B v.seen) (seen_seq B seen2) i (done_before S B i + k + 1) (get_or x.ended k no_ended).op (get_or x.ended k no_ended).outcome (omega (arith, here.seen.few, long2)) (know.each k u))
      go (inr u) =
          let j : ℕ = k - length x.ended in
          let same : get_or y.ended k no_ended ≡ get_or lost j no_ended = get_or-append_right x.ended lost (length x.ended) k no_ended refl u in
          subst (λ (z : EndedCall). CallHasEnded S B W.batches (seen_seq B seen2) i (done_before S B i + k + 1) z.op z.outcome) (sym same) (at_loss j (open_or_idle x.machine.place) (open_or_idle d.place) refl (omega (arith, both, l)))
        where
          -- all calls of the caller that are in batches have been begun
          up_to : is_idle x.machine.place ≡ false → k ≡ length x.ended → CallHasEnded S B W.batches (seen_seq B seen2) i (done_before S B i + k + 1) x.machine.op (Lost (committed_seq W.words))
          up_to q t =
              let one : open_call_count (is_idle x.machine.place) ≡ 1 = ap open_call_count q in (
                omega (arith, sound.count),
                omega (arith, sound.count, long2),
                λ b low high. λ n c among same.
                    let begun = sound.begun b low (omega (arith, high, sound.count)) n c among in
                    let count : (machine_in W (get_or (batch_at B W.batches b).calls n c).caller).made ≡ x.machine.made = ap (λ (z : ℕ). (machine_in W z).made) same ∙ ap (λ (z : CallState). z.made) run_by.machine_is in
                    omega (arith, begun.2, count, counts_made S B W x run_by.machine_is calls, one, t),
              )

          at_loss : (j : ℕ) → (is_idle x.machine.place ≡ false) ⊎ (x.machine.place ≡ Idle) → (is_idle d.place ≡ false) ⊎ (d.place ≡ Idle) → j ≡ k - length x.ended → j < length lost
              → CallHasEnded S B W.batches (seen_seq B seen2) i (done_before S B i + k + 1) (get_or lost j no_ended).op (get_or lost j no_ended).outcome
          at_loss j (inr q) o is low = absurd (let none = ap length (none_lost (ap is_idle q)) in omega (arith, low, none))
          at_loss j (inl q) (inl o) is low = absurd (let none = ap length (goes_on q o) in omega (arith, low, none))
          at_loss j (inl q) (inr rest) is low =
              let only = one_lost q (ap is_idle rest) in
              let first : j ≡ 0 = omega (arith, low, ap length only) in
              subst (λ (z : EndedCall). CallHasEnded S B W.batches (seen_seq B seen2) i (done_before S B i + k + 1) z.op z.outcome) (λ t. get_or (sym only t) (sym first t) no_ended) (up_to q (omega (arith, first, is, u)))

  knows2 : KnowsCallsOf S B W.batches (seen_seq B seen2) y
  knows2 =
      let rest = laws.rests (remains_of S W.words i) i x.machine.made in
      record {
        rests_on = omega (arith, rest.0);
        own = λ k l u q. absurd (omega (arith, l, u, long2));
        since_seen = omega (arith, know.since_seen, here.seen.few, long2);
        reads_from = rest.1 x.since;
        new_call = λ o k l u. subst (λ (z : ℕ × ℕ). All (λ (c : Call). c.caller ≡ z.0 → c.ticket < z.1) (batch_at B W.batches k).calls) (λ t. (sym number t, sym made_same t)) (know.new_call (was_open o) k l u);
        each = λ k l. subst (λ (z : ℕ). CallHasEnded S B W.batches (seen_seq B seen2) z (done_before S B z + k + 1) (get_or y.ended k no_ended).op (get_or y.ended k no_ended).outcome) (sym number) (ended_each k l);
      }

  seen_more : IsPrefix v.seen seen2
  seen_more = front_prefix v.seen seen2 W.batches here.seen (front_all W.batches) (omega (arith, here.seen.few, long2))

  past_more : IsPrefix v.past es2
  past_more = prefix_more v.past es (e ∷ []) here.past

  own2 : HasOwn S B seen2 y
  own2 = has_own S B V y (ap (machine_in V) number ∙ here2) (subst (λ (k : ℕ). HasCalls S B (start_ticket S B k) V k (operations_known y) (outcomes_of y)) (sym number) calls2) seen2 front2 (subst (λ (bs : List Batch). KnowsCallsOf S B bs (seen_seq B seen2) y) (sym batches2) knows2)

  pub revived : IsReplacedAt S L B es v x w
  revived = record {
    is = refl;
    seen = seen_more;
    takes_over = takes_over;
    legal = legal_front S B seen2 V front2 sound2;
    own = own2;
    once = own_once S B seen2 V.batches y front2 sound2.tickets sound2.rising own2;
    told = subst (λ (k : ℕ). IsToldBy S B es2 k y) number run2.told;
    started = revived_started S (remains_of S W.words i) i x.machine.made;
    within = λ o.
        let t = (laws.in_time B V good2 [] tt i stay.in_range (subst (λ (z : CallState). IsOpen z.place) (sym here2) o)).0 in
        let c : (machine_in V i).steps ≡ d.steps = ap (λ (z : CallState). z.steps) here2 in
        omega (arith, t, c);
  }

  -- ---- the rule with it

  fits_mine : ViewFits S B s.words es2 r.home r.chief id w
  fits_mine = record {
    seen = front2;
    past = prefix_self es2;
    met = each_map (KnowsStill v) (KnowsStill w) v.met (λ k p. (prefix_trans k.seen v.seen seen2 p.0 seen_more, prefix_trans k.past v.past es2 p.1 past_more)) here.met;
    kept = (record { in_range = omega (arith, number, stay.in_range); home_is = ap r.home number ∙ stay.home_is; taken = ap (bit_at m) number ∙ stay.taken }, tt);
    apart = (tt, tt);
    runs = (run2, tt);
    knows = (subst (λ (bs : List Batch). KnowsCallsOf S B bs (seen_seq B seen2) y) (sym batches2) knows2, tt);
    raised = here.raised;
    first = λ q. chief_as m m W.loaded V.loaded r.chief id v w refl loaded2 refl refl refl (here.first q);
  }

  fits_other : (j : ℕ) (u : View) → j ≢ id → ViewFits S B s.words es r.home r.chief j u → ViewFits S B s.words es2 r.home r.chief j u
  fits_other j u away f = record {
    seen = subst (IsSeenPrefix u.seen) (sym batches2) f.seen;
    past = prefix_more u.past es (e ∷ []) f.past;
    met = f.met;
    kept = f.kept;
    apart = f.apart;
    runs = each_both (IsAtHome S r.home m j) (IsRunBy S B es) (IsRunBy S B es2) u.kept (λ z q k. other_run z (λ p. away (sym q.home_is ∙ (ap r.home (sym p) ∙ stay.home_is))) k) f.kept f.runs;
    knows = subst (λ (bs : List Batch). Each (KnowsCallsOf S B bs (seen_seq B u.seen)) u.kept) (sym batches2) f.knows;
    raised = f.raised;
    first = λ q. chief_as m m W.loaded V.loaded r.chief j u u refl loaded2 refl refl refl (f.first q);
  }

  pub revived_rule : MeetsRule S L B record { words = s.words; homes = s.homes; views = set s.views id w }
  revived_rule = record {
    from = r.from;
    events = es2;
    schedule = schedule2;
    steps = steps2;
    words = r.words ∙ ap (λ (z : Moment). z.words) (sym to);
    home = r.home;
    chief = r.chief;
    each = seats_set (ViewFits S B s.words es r.home r.chief) (ViewFits S B s.words es2 r.home r.chief) s.views id w r.each (λ j u away p alive f. fits_other j u away f) (λ _. fits_mine);
    free = λ k l off. other_free k (λ q. let b : bit_at m k ≡ 1 = ap (bit_at m) (sym q) ∙ stay.taken in omega (arith, b, off)) (r.free k l off);
  }

  pub after_past : HasOwnPast S L B w
  after_past = record { from = r.from; schedule = schedule2; runs = (run2, tt) }

-- ---- the loads

-- a seat loads a word, and learns of all events
pub learns_word : (S : Setup) (L : List ℕ → Type 0) (B : TableStart) (slots id c : ℕ) (me : Me (Unit {0}) View) → c < words_before_members S → me.0.spent ≡ false
    → Allows (MeetsRule S L B) slots id me c (λ n. n) (λ n after. (after.1 ≡ me.1) × LearnsWord S L B c me.0 n after.0)
learns_word S L B slots id c me low live s r _ at small = (
  learnt S L B s r id me.0 at live,
  keeps,
  tt,
  loads_so S L B s c (set s.views id (learnt S L B s r id me.0 at live)) (learns_rule S L B s r id me.0 at live),
  (refl, learns S L B s r id me.0 at live c low),
)

-- a member loads the word c, and below the limit a new machine takes the place of the lost one
pub tries_revival : (S : Setup) (L : List ℕ → Type 0) (B : TableStart) → RowLaws S L → (slots id c : ℕ) (me : Me (Unit {0}) View) → c < words_before_members S → me.0.spent ≡ false → HasOwnPast S L B me.0 → (x : KnownCaller) → me.0.kept ≡ x ∷ []
    → x.machine.caller < S.callers → MayRevive (remains_of S (moment S B me.0.past).words x.machine.caller) x.machine.caller
    → Allows (MeetsRule S L B) slots id me c (λ n. n) (λ n after. (after.1 ≡ me.1) × TriesRevival S L B c me.0 n after.0)
tries_revival S L B laws slots id c me low live known x one inside was s r _ at small =
    let k = go (cases_lt (committed_seq W.words) S.limit) in
    (k.0, keeps, tt, loads_so S L B s c (set s.views id k.0) k.1, (refl, k.2))
  where
    v : View
    v = me.0

    W : Moment
    W = moment S B r.events

    f : ViewFits S B s.words r.events r.home r.chief id v
    f = fits S L B s r id v at live

    then : IsRunBy S B v.past x
    then = (subst (Each (IsRunBy S B v.past)) one known.runs).0

    now : IsRunBy S B r.events x
    now = (subst (Each (IsRunBy S B r.events)) one f.runs).0

    may : MayRevive (remains_of S W.words x.machine.caller) x.machine.caller
    may = (leaves_between S L laws B x.machine.caller inside r.from v.past r.events r.schedule f.past (sym now.told.turned ∙ then.told.turned)).revivable was

    here : HasOwnPast S L B (record v { past = r.events })
    here = record { from = r.from; schedule = r.schedule; runs = f.runs }

    go : (committed_seq W.words < S.limit) ⊎ (S.limit ≤ committed_seq W.words) → (w : View) × MeetsRule S L B record { words = s.words; homes = s.homes; views = set s.views id w } × TriesRevival S L B c v (get_or s.words c 0) w
    go (inl below) = (
      after_revival_of S B v x r.events,
      revived_rule S L B laws s r id v at live x one may below,
      record {
        events = r.events;
        past = f.past;
        own = here;
        after = after_past S L B laws s r id v at live x one may below;
        word = word_at S L B s r c low;
        result = λ z only. inl (below, subst (λ (u : KnownCaller). IsReplacedAt S L B r.events v u (after_revival_of S B v x r.events)) (head_is x z (sym one ∙ only)) (revived S L B laws s r id v at live x one may below));
      },
    )
    go (inr over) = (
      after_learning v r.events,
      learns_rule S L B s r id v at live,
      record { events = r.events; past = f.past; own = here; after = own_past S L B s r id v at live; word = word_at S L B s r c low; result = λ z only. inr (over, refl) },
    )

-- the same, where the load is told the row's key
pub learns_word_for : {X : Type 0} (meaning : X → Meaning) (lawful : X → List ℕ → Type 0) (Z : Type 0) (key : RowKey X) (told : Option (RowKey X)) → told ≡ Some key → (slots id c : ℕ) (me : Me (Unit {0}) View) → c < words_before_members (key_setup meaning key) → me.0.spent ≡ false
    → Allows (λ s. Z × MeetsRule (key_setup meaning key) (lawful key.work) (key_start meaning key) s) slots id me c (λ n. n) (λ n after. (after.1 ≡ me.1) × LearnsWordOf meaning lawful told c me.0 n after.0)
learns_word_for {X} meaning lawful Z key told is slots id c me low live =
    let S : Setup = key_setup meaning key in
    let L : List ℕ → Type 0 = lawful key.work in
    let B : TableStart = key_start meaning key in
    subst (λ (o : Option (RowKey X)). Allows (λ s. Z × MeetsRule S L B s) slots id me c (λ n. n) (λ n after. (after.1 ≡ me.1) × LearnsWordOf meaning lawful o c me.0 n after.0)) (sym is)
    (allows_with Z (MeetsRule S L B) slots id me c (λ n. n) (λ n after. (after.1 ≡ me.1) × LearnsWord S L B c me.0 n after.0) (λ _. learns_word S L B slots id c me low live))

pub tries_revival_for : {X : Type 0} (meaning : X → Meaning) (lawful : X → List ℕ → Type 0) (Z : Type 0) (key : RowKey X) (told : Option (RowKey X)) → told ≡ Some key → (Z → RowLaws (key_setup meaning key) (lawful key.work)) → (slots id c : ℕ) (me : Me (Unit {0}) View) → c < words_before_members (key_setup meaning key) → me.0.spent ≡ false
    → HasOwnPast (key_setup meaning key) (lawful key.work) (key_start meaning key) me.0 → (x : KnownCaller) → me.0.kept ≡ x ∷ [] → x.machine.caller < key.callers → MayRevive (remains_of (key_setup meaning key) (moment (key_setup meaning key) (key_start meaning key) me.0.past).words x.machine.caller) x.machine.caller
    → Allows (λ s. Z × MeetsRule (key_setup meaning key) (lawful key.work) (key_start meaning key) s) slots id me c (λ n. n) (λ n after. (after.1 ≡ me.1) × TriesRevivalOf meaning lawful told c me.0 n after.0)
tries_revival_for {X} meaning lawful Z key told is laws slots id c me low live known x one inside was =
    let S : Setup = key_setup meaning key in
    let L : List ℕ → Type 0 = lawful key.work in
    let B : TableStart = key_start meaning key in
    subst (λ (o : Option (RowKey X)). Allows (λ s. Z × MeetsRule S L B s) slots id me c (λ n. n) (λ n after. (after.1 ≡ me.1) × TriesRevivalOf meaning lawful o c me.0 n after.0)) (sym is)
    (allows_with Z (MeetsRule S L B) slots id me c (λ n. n) (λ n after. (after.1 ≡ me.1) × TriesRevival S L B c me.0 n after.0) (λ z. tries_revival S L B (laws z) slots id c me low live known x one inside was))

-- after such a load the seat is one of the same row
pub tried_seat : (S : Setup) (L : List ℕ → Type 0) (B : TableStart) (c : ℕ) (v : View) (n : ℕ) (w : View) → TriesRevival S L B c v n w → (x : KnownCaller) → v.kept ≡ x ∷ [] → (count : ℕ) → x.machine.caller < count → (w.spent ≡ v.spent) × Each (λ (z : KnownCaller). z.machine.caller < count) w.kept
tried_seat S L B c v n w t x one count low = go (t.result x one)
  where
    go : ((committed_seq (moment S B t.events).words < S.limit) × IsReplacedAt S L B t.events v x w) ⊎ ((S.limit ≤ committed_seq (moment S B t.events).words) × (w ≡ after_learning v t.events)) → (w.spent ≡ v.spent) × Each (λ (z : KnownCaller). z.machine.caller < count) w.kept
    go (inl r) = (ap (λ (u : View). u.spent) r.1.is, subst (λ (l : List KnownCaller). Each (λ (z : KnownCaller). z.machine.caller < count) l) (ap (λ (u : View). u.kept) (sym r.1.is)) (omega (arith, r.1.takes_over.caller, low), tt))
    go (inr r) = (ap (λ (u : View). u.spent) r.1, subst (λ (l : List KnownCaller). Each (λ (z : KnownCaller). z.machine.caller < count) l) (sym one ∙ ap (λ (u : View). u.kept) (sym r.1)) (low, tt))
