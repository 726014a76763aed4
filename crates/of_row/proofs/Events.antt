-- Lists of events in two parts, callers that have done nothing, and the events of evictions.
use Rattle.std.proofs.Common.{◌≡◌, ◌==◌, ℕ, ◌+◌, ◌<◌, get_or, Bool, true, false, List, [], ◌∷◌, ◌++◌, refl, sym, ◌∙◌, ap, arith}
use Rattle.std.proofs.lemmas.Bool.{eq-eqb}
use Rattle.std.proofs.lemmas.List.{append-nil, get_or-set_other}
use Rattle.of_core.specs.declared.place.Outcome.{Outcome}
use Rattle.of_core.specs.Table.{Setup, words_before_members, committed_seq}
use Rattle.of_core.specs.Machine.{CallState, is_idle, no_machine, begin_call}
use Rattle.of_core.specs.Remains.{remains_of, revived_machine}
use Rattle.of_core.specs.Steps.{take_word, word_found}
use Rattle.of_core.specs.TableMoment.{Moment, TableStart}
use Rattle.of_core.specs.Events.{Event, Begins, Turns, Loads, Evicts, Raises, Revives, machine_in, after_event, after_events, IsSchedule, turn_count, one_if, AllReplaceNone}
use Rattle.of_core.specs.Calls.{if_so, operations_begun, outcomes, outcome_of_step, outcome_of_loss, TurnsFindOpenCalls}
use Rattle.of_core.specs.Laws.{FirstMachinesAreIdle}
use Rattle.of_core.proofs.Parts.{run_append, operations_append, outcomes_append}
use Rattle.of_row.specs.Views.{KnownCaller}
use Rattle.of_row.specs.Turned.{new_known_caller}
use Rattle.of_row.specs.Trail.{first_of, moment, TurnIsNext, IsPrompt, AreSteps, revival_count, IsRunBy, HasDoneNothing}

-- ---- lists of events in two parts

pub schedule_append : (S : Setup) (w : Moment) (es ds : List Event) → IsSchedule S w es → IsSchedule S (after_events S w es) ds → IsSchedule S w (es ++ ds)
schedule_append S w [] ds a b = b
schedule_append S w (e ∷ es) ds a b = (a.0, schedule_append S (after_event S w e) es ds a.1 b)

pub turns_append : (i : ℕ) (es ds : List Event) → turn_count i (es ++ ds) ≡ turn_count i es + turn_count i ds
turns_append i [] ds = omega arith
turns_append i (e ∷ es) ds = omega (arith, turns_append i es ds)

pub revivals_append : (i : ℕ) (es ds : List Event) → revival_count i (es ++ ds) ≡ revival_count i es + revival_count i ds
revivals_append i [] ds = omega arith
revivals_append i (e ∷ es) ds = omega (arith, revivals_append i es ds)

pub busy_append : (S : Setup) (w : Moment) (es ds : List Event) (i : ℕ) → TurnsFindOpenCalls S w es i → TurnsFindOpenCalls S (after_events S w es) ds i → TurnsFindOpenCalls S w (es ++ ds) i
busy_append S w [] ds i a b = b
busy_append S w (e ∷ es) ds i a b = (a.0, busy_append S (after_event S w e) es ds i a.1 b)

next_append : (i : ℕ) (es ds : List Event) → TurnIsNext i es → TurnIsNext i (es ++ ds)
next_append i [] ds t = absurd t
next_append i (Begins j op ∷ es) ds t = absurd t
next_append i (Turns j ∷ es) ds t = t
next_append i (Loads c ∷ es) ds t = absurd t
next_append i (Evicts k ∷ es) ds t = absurd t
next_append i (Raises c ∷ es) ds t = absurd t
next_append i (Revives j made ∷ es) ds t = absurd t

pub steps_append : (es ds : List Event) → AreSteps es → AreSteps ds → AreSteps (es ++ ds)
steps_append [] ds a b = b
steps_append (Begins i op ∷ es) ds a b = (next_append i es ds a.0, steps_append es ds a.1 b)
steps_append (Turns i ∷ es) ds a b = steps_append es ds a b
steps_append (Loads c ∷ es) ds a b = steps_append es ds a b
steps_append (Evicts k ∷ es) ds a b = steps_append es ds a b
steps_append (Raises c ∷ es) ds a b = absurd a
steps_append (Revives i made ∷ es) ds a b = steps_append es ds a b

-- ---- events that replace no machine

-- events replace none if they replace no caller's
pub none_replaced : (S : Setup) (w : Moment) (es : List Event) → IsSchedule S w es → ((i : ℕ) → i < S.callers → revival_count i es ≡ 0) → AllReplaceNone es
none_replaced S w [] may none = tt
none_replaced S w (Begins j op ∷ es) may none = (tt, none_replaced S (after_event S w (Begins j op)) es may.1 (λ i l. omega (arith, none i l)))
none_replaced S w (Turns j ∷ es) may none = (tt, none_replaced S (after_event S w (Turns j)) es may.1 (λ i l. omega (arith, none i l)))
none_replaced S w (Loads c ∷ es) may none = (tt, none_replaced S (after_event S w (Loads c)) es may.1 (λ i l. omega (arith, none i l)))
none_replaced S w (Evicts k ∷ es) may none = (tt, none_replaced S (after_event S w (Evicts k)) es may.1 (λ i l. omega (arith, none i l)))
none_replaced S w (Raises c ∷ es) may none = (tt, none_replaced S (after_event S w (Raises c)) es may.1 (λ i l. omega (arith, none i l)))
none_replaced S w (Revives j made ∷ es) may none = let one : one_if (j == j) ≡ 1 = ap one_if (eq-eqb j j refl) in absurd (omega (arith, none j may.0.0, one))

-- nor do events as in the schedule of a plan replace any
pub prompt_replace_none : (es : List Event) → IsPrompt es → AllReplaceNone es
prompt_replace_none [] a = tt
prompt_replace_none (Begins i op ∷ es) a = (tt, prompt_replace_none es a.1)
prompt_replace_none (Turns i ∷ es) a = (tt, prompt_replace_none es a)
prompt_replace_none (Loads c ∷ es) a = absurd a
prompt_replace_none (Evicts k ∷ es) a = absurd a
prompt_replace_none (Raises c ∷ es) a = (tt, prompt_replace_none es a)
prompt_replace_none (Revives i made ∷ es) a = absurd a

-- nor do the first of these, or these and others
pub first_replace_none : (es ds : List Event) → AllReplaceNone (es ++ ds) → AllReplaceNone es
first_replace_none [] ds a = tt
first_replace_none (e ∷ es) ds a = (a.0, first_replace_none es ds a.1)

pub both_replace_none : (es ds : List Event) → AllReplaceNone es → AllReplaceNone ds → AllReplaceNone (es ++ ds)
both_replace_none [] ds a b = b
both_replace_none (e ∷ es) ds a b = (a.0, both_replace_none es ds a.1 b)

-- ---- a caller that has done nothing

module _ (S : Setup) (n : ℕ) where
  -- a turn of another
  not_turn : (j k : ℕ) → one_if (n == j) + k ≡ 0 → ((n == j) ≡ false) × (k ≡ 0)
  not_turn j k = go (n == j)
    where
      go : (b : Bool) → one_if b + k ≡ 0 → (b ≡ false) × (k ≡ 0)
      go true z = absurd (omega (arith, z))
      go false z = (refl, omega (arith, z))

  -- a call of another
  not_begin : (j : ℕ) (op : List ℕ) (ops : List (List ℕ)) → if_so (n == j) (op ∷ []) ++ ops ≡ [] → ((n == j) ≡ false) × (ops ≡ [])
  not_begin j op ops = go (n == j)
    where
      go : (b : Bool) → if_so b (op ∷ []) ++ ops ≡ [] → (b ≡ false) × (ops ≡ [])
      go true z = cc
      go false z = (refl, z)

  apart : (j : ℕ) → (n == j) ≡ false → n ≡ j → ⊥
  apart j b e = let t : true ≡ false = sym (ap (λ (k : ℕ). n == k) (sym e) ∙ eq-eqb n n refl) ∙ b in cc

  pub no_outcomes : (w : Moment) (es : List Event) → turn_count n es ≡ 0 → revival_count n es ≡ 0 → outcomes S w es n ≡ []
  no_outcomes w [] z q = refl
  no_outcomes w (Begins j op ∷ es) z q = no_outcomes (after_event S w (Begins j op)) es (omega (arith, z)) (omega (arith, q))
  no_outcomes w (Turns j ∷ es) z q =
      let t = not_turn j (turn_count n es) z in
      (λ k. if_so (t.0 k) (outcome_of_step (machine_in w j) (machine_in (after_event S w (Turns j)) j)) ++ outcomes S (after_event S w (Turns j)) es n) ∙ no_outcomes (after_event S w (Turns j)) es t.1 (omega (arith, q))
  no_outcomes w (Loads c ∷ es) z q = no_outcomes (after_event S w (Loads c)) es (omega (arith, z)) (omega (arith, q))
  no_outcomes w (Evicts c ∷ es) z q = no_outcomes (after_event S w (Evicts c)) es (omega (arith, z)) (omega (arith, q))
  no_outcomes w (Raises c ∷ es) z q = no_outcomes (after_event S w (Raises c)) es (omega (arith, z)) (omega (arith, q))
  no_outcomes w (Revives j made ∷ es) z q =
      let t = not_turn j (revival_count n es) q in
      (λ k. if_so (t.0 k) (outcome_of_loss (committed_seq w.words) (is_idle (machine_in w j).place) (is_idle (machine_in (after_event S w (Revives j made)) j).place)) ++ outcomes S (after_event S w (Revives j made)) es n) ∙ no_outcomes (after_event S w (Revives j made)) es (omega (arith, z)) t.1

  pub no_idle_turn : (w : Moment) (es : List Event) → turn_count n es ≡ 0 → revival_count n es ≡ 0 → TurnsFindOpenCalls S w es n
  no_idle_turn w [] z q = tt
  no_idle_turn w (Begins j op ∷ es) z q = (tt, no_idle_turn (after_event S w (Begins j op)) es (omega (arith, z)) (omega (arith, q)))
  no_idle_turn w (Turns j ∷ es) z q = let t = not_turn j (turn_count n es) z in (λ e. absurd (apart j t.0 e), no_idle_turn (after_event S w (Turns j)) es t.1 (omega (arith, q)))
  no_idle_turn w (Loads c ∷ es) z q = (tt, no_idle_turn (after_event S w (Loads c)) es (omega (arith, z)) (omega (arith, q)))
  no_idle_turn w (Evicts c ∷ es) z q = (tt, no_idle_turn (after_event S w (Evicts c)) es (omega (arith, z)) (omega (arith, q)))
  no_idle_turn w (Raises c ∷ es) z q = (tt, no_idle_turn (after_event S w (Raises c)) es (omega (arith, z)) (omega (arith, q)))
  no_idle_turn w (Revives j made ∷ es) z q = let t = not_turn j (revival_count n es) q in (λ e. apart j t.0 e, no_idle_turn (after_event S w (Revives j made)) es (omega (arith, z)) t.1)

  pub machine_stays : (w : Moment) (es : List Event) → HasDoneNothing es n → machine_in (after_events S w es) n ≡ machine_in w n
  machine_stays w [] h = refl
  machine_stays w (Begins j op ∷ es) h =
      let b = not_begin j op (operations_begun es n) h.0 in
      machine_stays (after_event S w (Begins j op)) es (b.1, omega (arith, h.1), omega (arith, h.2)) ∙ get_or-set_other w.machines j n (begin_call S (machine_in w j) op) no_machine (apart j b.0)
  machine_stays w (Turns j ∷ es) h =
      let t = not_turn j (turn_count n es) h.1 in
      machine_stays (after_event S w (Turns j)) es (h.0, t.1, omega (arith, h.2)) ∙ get_or-set_other w.machines j n (take_word S (machine_in w j) (word_found S w.words (machine_in w j))) no_machine (apart j t.0)
  machine_stays w (Loads c ∷ es) h = machine_stays (after_event S w (Loads c)) es (h.0, omega (arith, h.1), omega (arith, h.2))
  machine_stays w (Evicts c ∷ es) h = machine_stays (after_event S w (Evicts c)) es (h.0, omega (arith, h.1), omega (arith, h.2))
  machine_stays w (Raises c ∷ es) h = machine_stays (after_event S w (Raises c)) es (h.0, omega (arith, h.1), omega (arith, h.2))
  machine_stays w (Revives j made ∷ es) h =
      let t = not_turn j (revival_count n es) h.2 in
      machine_stays (after_event S w (Revives j made)) es (h.0, omega (arith, h.1), t.1) ∙ get_or-set_other w.machines j n (revived_machine S (remains_of S w.words j) j made) no_machine (apart j t.0)

-- so a newcomer is what they leave of its number
pub new_runs : (S : Setup) (B : TableStart) → FirstMachinesAreIdle S → (es : List Event) (n since : ℕ) → n < S.callers → HasDoneNothing es n → IsRunBy S B es (new_known_caller S B n since)
new_runs S B first es n since below h = record {
  told = record { begun = sym h.0; ended = sym (no_outcomes S n (first_of S B) es h.1 h.2); turned = sym h.1; lost = sym h.2; busy = λ q. no_idle_turn S n (first_of S B) es h.1 h.2 };
  machine_is = machine_stays S n (first_of S B) es h ∙ (first B (words_before_members S + 1)).1 n no_machine below;
}

-- ---- the events of evictions

-- an event of an eviction tells of nobody's calls
abbrev pub OfEviction : Event → Type 0
OfEviction (Begins i op) = ⊥
OfEviction (Turns i) = ⊥
OfEviction (Loads c) = Unit {0}
OfEviction (Evicts k) = Unit {0}
OfEviction (Raises c) = Unit {0}
OfEviction (Revives i made) = ⊥

module _ (S : Setup) (B : TableStart) (es : List Event) (e : Event) (is : OfEviction e) where
  abbrev after : List Event
  after = es ++ e ∷ []

  same_batches : (w : Moment) (e : Event) → OfEviction e → (after_event S w e).batches ≡ w.batches
  same_batches w (Loads c) o = refl
  same_batches w (Evicts k) o = refl
  same_batches w (Raises c) o = refl
  same_batches w (Begins i op) o = absurd o
  same_batches w (Turns i) o = absurd o
  same_batches w (Revives i made) o = absurd o

  same_machines : (w : Moment) (e : Event) → OfEviction e → (after_event S w e).machines ≡ w.machines
  same_machines w (Loads c) o = refl
  same_machines w (Evicts k) o = refl
  same_machines w (Raises c) o = refl
  same_machines w (Begins i op) o = absurd o
  same_machines w (Turns i) o = absurd o
  same_machines w (Revives i made) o = absurd o

  pub eviction_batches : (moment S B after).batches ≡ (moment S B es).batches
  eviction_batches = ap (λ (w : Moment). w.batches) (run_append S (first_of S B) es (e ∷ [])) ∙ same_batches (moment S B es) e is

  begins : (e : Event) (j : ℕ) → OfEviction e → operations_begun (e ∷ []) j ≡ []
  begins (Loads c) j o = refl
  begins (Evicts k) j o = refl
  begins (Raises c) j o = refl
  begins (Begins i op) j o = absurd o
  begins (Turns i) j o = absurd o
  begins (Revives i made) j o = absurd o

  ends : (w : Moment) (e : Event) (j : ℕ) → OfEviction e → outcomes S w (e ∷ []) j ≡ []
  ends w (Loads c) j o = refl
  ends w (Evicts k) j o = refl
  ends w (Raises c) j o = refl
  ends w (Begins i op) j o = absurd o
  ends w (Turns i) j o = absurd o
  ends w (Revives i made) j o = absurd o

  turned : (e : Event) (j : ℕ) → OfEviction e → turn_count j (e ∷ []) ≡ 0
  turned (Loads c) j o = refl
  turned (Evicts k) j o = refl
  turned (Raises c) j o = refl
  turned (Begins i op) j o = absurd o
  turned (Turns i) j o = absurd o
  turned (Revives i made) j o = absurd o

  revived : (e : Event) (j : ℕ) → OfEviction e → revival_count j (e ∷ []) ≡ 0
  revived (Loads c) j o = refl
  revived (Evicts k) j o = refl
  revived (Raises c) j o = refl
  revived (Begins i op) j o = absurd o
  revived (Turns i) j o = absurd o
  revived (Revives i made) j o = absurd o

  busy : (w : Moment) (e : Event) (j : ℕ) → OfEviction e → TurnsFindOpenCalls S w (e ∷ []) j
  busy w (Loads c) j o = (tt, tt)
  busy w (Evicts k) j o = (tt, tt)
  busy w (Raises c) j o = (tt, tt)
  busy w (Begins i op) j o = absurd o
  busy w (Turns i) j o = absurd o
  busy w (Revives i made) j o = absurd o

  begun_still : (j : ℕ) → operations_begun after j ≡ operations_begun es j
  begun_still j = operations_append es (e ∷ []) j ∙ (ap (λ (l : List (List ℕ)). operations_begun es j ++ l) (begins e j is) ∙ append-nil (operations_begun es j))

  turned_still : (j : ℕ) → turn_count j after ≡ turn_count j es
  turned_still j = omega (arith, turns_append j es (e ∷ []), turned e j is)

  revived_still : (j : ℕ) → revival_count j after ≡ revival_count j es
  revived_still j = omega (arith, revivals_append j es (e ∷ []), revived e j is)

  -- each caller has run as before
  pub eviction_runs : (x : KnownCaller) → IsRunBy S B es x → IsRunBy S B after x
  eviction_runs x r =
      let i : ℕ = x.machine.caller in
      record {
        told = record {
          begun = r.told.begun ∙ sym (begun_still i);
          ended = r.told.ended ∙ sym (outcomes_append S (first_of S B) es (e ∷ []) i ∙ (ap (λ (l : List Outcome). outcomes S (first_of S B) es i ++ l) (ends (moment S B es) e i is) ∙ append-nil (outcomes S (first_of S B) es i)));
          turned = r.told.turned ∙ sym (turned_still i);
          lost = r.told.lost ∙ sym (revived_still i);
          busy = λ q. busy_append S (first_of S B) es (e ∷ []) i (r.told.busy q) (busy (moment S B es) e i is);
        };
        machine_is = ap (λ (w : Moment). machine_in w i) (run_append S (first_of S B) es (e ∷ [])) ∙ (ap (λ (ms : List CallState). get_or ms i no_machine) (same_machines (moment S B es) e is) ∙ r.machine_is);
      }

  pub eviction_free : (n : ℕ) → HasDoneNothing es n → HasDoneNothing after n
  eviction_free n h = (begun_still n ∙ h.0, turned_still n ∙ h.1, revived_still n ∙ h.2)
