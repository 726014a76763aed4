-- A step of a machine is a turn of its caller: the events that it adds, and what they tell.
use Rattle.std.proofs.Common.{◌≡◌, ◌==◌, ℕ, ◌+◌, ◌<◌, inl, inr, Bool, true, false, Some, List, [], ◌∷◌, ◌++◌, length, set, map, refl, sym, ◌∙◌, ap, subst, arith, length-set}
use Rattle.std.proofs.lemmas.List.{append-nil, get_or-set_same, get_or-set_other}
use Rattle.std.proofs.lemmas.Bool.{eq-eqb, ne_eqb}
use lib.Seq.{set-get_or}
use Rattle.of_core.specs.declared.place.Outcome.{Outcome}
use Rattle.of_core.specs.Table.{Setup}
use Rattle.of_core.specs.Machine.{CallState, IsOpen, MayReplace, is_idle, no_machine, begin_call}
use Rattle.of_core.specs.Steps.{want, take_word, IsFoundBy}
use Rattle.of_core.specs.TableMoment.{Moment, TableStart, after_step}
use Rattle.of_core.specs.Events.{Event, Begins, Turns, machine_in, after_event, after_events, IsSchedule, turn_count, one_if}
use Rattle.of_core.specs.Calls.{if_so, operations_begun, outcomes, outcome_of_step, TurnsFindOpenCalls}
use Rattle.of_core.specs.Laws.{TurnsAreSteps}
use Rattle.of_core.specs.Turn.{IsIdle}
use Rattle.of_core.proofs.Parts.{run_append, operations_append, outcomes_append}
use Rattle.of_row.specs.Views.{EndedCall, KnownCaller, View}
use Rattle.of_row.specs.Turned.{StandsForMachine, known_after_step}
use Rattle.of_row.specs.Told.{operations_known}
use Rattle.of_row.specs.Trail.{first_of, moment, AreSteps, revival_count, IsToldBy, IsRunBy, HasDoneNothing, HasPast}
use Rattle.of_row.proofs.Pasts.{prefix_more}
use Rattle.of_row.proofs.Events.{schedule_append, turns_append, revivals_append, busy_append, steps_append}
use Rattle.of_row.proofs.Members.{place_made}
use Rattle.of_row.proofs.Tellings.{begun_idle, begun_open, begun_after, outcomes_after}

-- a call of either machine begins anew
opened_anew : (S : Setup) (m d : CallState) (op : List ℕ) → MayReplace S m d → begin_call S d op ≡ begin_call S m op
opened_anew S m d op (inl e) = ap (λ (z : CallState). begin_call S z op) e
opened_anew S m d op (inr q) = ap (λ (z : CallState). begin_call S z op) q.1

none_only : {A : Type 0} (b : Bool) → if_so {A = A} b [] ≡ []
none_only true = refl
none_only false = refl

-- The caller x has run by the events es, which leave W.
module _ (S : Setup) (B : TableStart) (es : List Event) (schedule : IsSchedule S (first_of S B) es) (x : KnownCaller) (below : x.machine.caller < S.callers) (members : length (moment S B es).machines ≡ S.callers) (run_by : IsRunBy S B es x) where
  abbrev pub i : ℕ
  i = x.machine.caller

  abbrev pub W : Moment
  W = moment S B es

  -- the same with the machine d for the caller
  abbrev pub with_machine : CallState → Moment
  with_machine d = record W { machines = set W.machines i d }

  abbrev pub ops : List (List ℕ)
  ops = map (λ (e : EndedCall). e.op) x.ended

  -- its call is open, or begins by an event
  pub record Opened (d : CallState) : Type 0 where
    pub before : List Event
    pub may : IsSchedule S W before
    pub leads : after_events S W before ≡ with_machine d
    pub new : List (List ℕ)
    pub begun : operations_known x ++ new ≡ ops ++ d.op ∷ []
    pub operations : (j : ℕ) → operations_begun before j ≡ if_so (j == i) new
    pub outcomes : (j : ℕ) → outcomes S W before j ≡ []
    pub turns : (j : ℕ) → turn_count j before ≡ 0
    pub revivals : (j : ℕ) → revival_count j before ≡ 0
    pub busy : (j : ℕ) → TurnsFindOpenCalls S W before j
    pub steps : AreSteps (before ++ Turns i ∷ [])

  pub opens : (d : CallState) → StandsForMachine S x d → IsOpen d.place → Opened d
  opens d (inl (inr q)) o = let z : true ≡ false = subst (λ (z : CallState). is_idle z.place ≡ false) q.1 o in cc
  opens d (inl (inl e)) o =
      let again : set W.machines i d ≡ W.machines = ap (set W.machines i) (e ∙ sym run_by.machine_is) ∙ set-get_or W.machines i no_machine in
      record {
        before = [];
        may = tt;
        leads = λ k. record W { machines = sym again k };
        new = [];
        begun = append-nil (operations_known x) ∙ (begun_open x (subst (λ (m : CallState). IsOpen m.place) e o) ∙ ap (λ (m : CallState). ops ++ m.op ∷ []) (sym e));
        operations = λ j. sym (none_only (j == i));
        outcomes = λ j. refl;
        turns = λ j. refl;
        revivals = λ j. refl;
        busy = λ j. tt;
        steps = tt;
      }
  opens d (inr q) o =
      let is : d ≡ begin_call S (machine_in W i) q.op = q.is ∙ (opened_anew S x.machine q.begins q.op q.takes ∙ ap (λ (m : CallState). begin_call S m q.op) (sym run_by.machine_is)) in
      record {
        before = Begins i q.op ∷ [];
        may = ((below, ap (λ (m : CallState). m.place) run_by.machine_is ∙ q.at_rest, q.some, q.few, omega (arith, q.ticket, place_made S x.machine q.begins q.takes, ap (λ (m : CallState). m.made) run_by.machine_is)), tt);
        leads = λ k. with_machine (sym is k);
        new = q.op ∷ [];
        begun = λ k. (begun_idle x q.at_rest) k ++ (ap (λ (m : CallState). m.op) (sym q.is)) k ∷ [];
        operations = λ j. append-nil (if_so (j == i) (q.op ∷ []));
        outcomes = λ j. refl;
        turns = λ j. refl;
        revivals = λ j. refl;
        busy = λ j. (tt, tt);
        steps = (refl, tt);
      }

  -- The machine d stands for it, and its step finds n.
  module _ (turn_is : TurnsAreSteps) (v : View) (d : CallState) (stands : StandsForMachine S x d) (o : IsOpen d.place) (n : ℕ) (found : IsFoundBy (want S d) (moment S B es).words n) (caller : (take_word S d n).caller ≡ x.machine.caller) (op : (take_word S d n).op ≡ d.op) (answers : IsIdle (take_word S d n) → (q : Outcome) × ((take_word S d n).answer ≡ Some q)) where
    pub p : Opened d
    p = opens d stands o

    abbrev pub V : Moment
    V = with_machine d

    abbrev pub more : List Event
    more = p.before ++ Turns i ∷ []

    -- the events with the turn
    abbrev pub after : List Event
    after = es ++ more

    abbrev e : CallState
    e = take_word S d n

    abbrev y : KnownCaller
    y = known_after_step B v x e

    pub here : machine_in V i ≡ d
    here = get_or-set_same W.machines i d no_machine (omega (arith, below, members))

    -- they leave what the step does
    pub to : moment S B after ≡ after_step S i d n V
    to =
        run_append S (first_of S B) es more
        ∙ (run_append S W p.before (Turns i ∷ [])
        ∙ (ap (λ (w : Moment). after_event S w (Turns i)) p.leads
        ∙ (turn_is S V i n (subst (λ (m : CallState). IsFoundBy (want S m) V.words n) (sym here) found) ∙ ap (λ (m : CallState). after_step S i m n V) here)))

    pub step_schedule : IsSchedule S (first_of S B) after
    step_schedule = schedule_append S (first_of S B) es more schedule (schedule_append S W p.before (Turns i ∷ []) p.may (below, tt))

    -- begins and turns are where they come by themselves
    pub step_steps : AreSteps es → AreSteps after
    step_steps all = steps_append es more all p.steps

    -- each past is still how they begin
    pub step_past : (u : View) → HasPast es u → HasPast after u
    step_past u past = prefix_more u.past es more past

    now : machine_in (after_step S i d n V) i ≡ e
    now = get_or-set_same (set W.machines i d) i e no_machine (omega (arith, below, members, length-set W.machines i d))

    -- what the turn adds for caller j
    operations_now : (j : ℕ) → operations_begun after j ≡ operations_begun es j ++ if_so (j == i) p.new
    operations_now j = operations_append es more j ∙ ap (λ (z : List (List ℕ)). operations_begun es j ++ z) (operations_append p.before (Turns i ∷ []) j ∙ (append-nil (operations_begun p.before j) ∙ p.operations j))

    ended_now : (j : ℕ) → outcomes S (after_events S W p.before) (Turns i ∷ []) j ≡ if_so (j == i) (outcome_of_step d e)
    ended_now j =
        let V0 : Moment = after_events S W p.before in
        append-nil (if_so (j == i) (outcome_of_step (machine_in V0 i) (machine_in (after_event S V0 (Turns i)) i)))
        ∙ λ k. if_so (j == i) (outcome_of_step ((ap (λ (w : Moment). machine_in w i) p.leads ∙ here) k)
        ((ap (λ (w : Moment). machine_in (after_event S w (Turns i)) i) p.leads
        ∙ (ap (λ (w : Moment). machine_in w i) (turn_is S V i n (subst (λ (m : CallState). IsFoundBy (want S m) V.words n) (sym here) found) ∙ ap (λ (m : CallState). after_step S i m n V) here) ∙ now)) k))

    outcomes_now : (j : ℕ) → outcomes S (first_of S B) after j ≡ outcomes S (first_of S B) es j ++ if_so (j == i) (outcome_of_step d e)
    outcomes_now j =
        outcomes_append S (first_of S B) es more j
        ∙ ap (λ (z : List Outcome). outcomes S (first_of S B) es j ++ z) (outcomes_append S W p.before (Turns i ∷ []) j ∙ (λ k. p.outcomes j k ++ ended_now j k))

    turns_now : (j : ℕ) → turn_count j after ≡ turn_count j es + one_if (j == i)
    turns_now j =
        let a : turn_count j after ≡ turn_count j es + turn_count j more = turns_append j es more in
        let b : turn_count j more ≡ turn_count j p.before + (one_if (j == i) + 0) = turns_append j p.before (Turns i ∷ []) in
        let z : turn_count j p.before ≡ 0 = p.turns j in
        omega (arith, a, b, z)

    revivals_now : (j : ℕ) → revival_count j after ≡ revival_count j es
    revivals_now j =
        let a : revival_count j after ≡ revival_count j es + revival_count j more = revivals_append j es more in
        let b : revival_count j more ≡ revival_count j p.before + 0 = revivals_append j p.before (Turns i ∷ []) in
        let z : revival_count j p.before ≡ 0 = p.revivals j in
        omega (arith, a, b, z)

    busy_now : (j : ℕ) → TurnsFindOpenCalls S (first_of S B) es j → TurnsFindOpenCalls S (first_of S B) after j
    busy_now j b = busy_append S (first_of S B) es more j b (busy_append S W p.before (Turns i ∷ []) j (p.busy j) (λ (q : j ≡ i). subst (λ (k : ℕ). IsOpen (machine_in (after_events S W p.before) k).place) (sym q) (subst (λ (m : CallState). IsOpen m.place) (sym (ap (λ (w : Moment). machine_in w i) p.leads ∙ here)) o), tt))

    -- the caller has made the turn
    pub own_run : IsRunBy S B after y
    own_run = record {
      told = subst (λ (k : ℕ). IsToldBy S B after k y) (sym caller) record {
        begun = begun_after B v x d e o answers ∙ (ap (λ (z : List ℕ). ops ++ z ∷ []) op ∙ (sym p.begun ∙ ((λ k. run_by.told.begun k ++ if_so (sym (eq-eqb i i refl) k) p.new) ∙ sym (operations_now i))));
        ended = outcomes_after B v x d e o answers ∙ ((λ k. run_by.told.ended k ++ if_so (sym (eq-eqb i i refl) k) (outcome_of_step d e)) ∙ sym (outcomes_now i));
        turned = let c : one_if (i == i) ≡ 1 = ap one_if (eq-eqb i i refl) in omega (arith, run_by.told.turned, turns_now i, c);
        lost = run_by.told.lost ∙ sym (revivals_now i);
        busy = λ q. busy_now i (run_by.told.busy q);
      };
      machine_is = ap (machine_in (moment S B after)) caller ∙ (ap (λ (w : Moment). machine_in w i) to ∙ now);
    }

    module _ (j : ℕ) (away : i ≡ j → ⊥) where
      not_same : (j == i) ≡ false
      not_same = ne_eqb j i (λ e. away (sym e))

      begun_else : operations_begun after j ≡ operations_begun es j
      begun_else = operations_now j ∙ ((λ k. operations_begun es j ++ if_so (not_same k) p.new) ∙ append-nil (operations_begun es j))

      turned_else : turn_count j after ≡ turn_count j es
      turned_else = let c : one_if (j == i) ≡ 0 = ap one_if not_same in omega (arith, turns_now j, c)

      -- another caller has had none
      pub other_machine : machine_in (moment S B after) j ≡ machine_in W j
      other_machine = ap (λ (w : Moment). machine_in w j) to ∙ (get_or-set_other (set W.machines i d) i j e no_machine (λ q. away (sym q)) ∙ get_or-set_other W.machines i j d no_machine (λ q. away (sym q)))

      pub other_told : (z : KnownCaller) → IsToldBy S B es j z → IsToldBy S B after j z
      other_told z t = record {
        begun = t.begun ∙ sym begun_else;
        ended = t.ended ∙ sym (outcomes_now j ∙ ((λ k. outcomes S (first_of S B) es j ++ if_so (not_same k) (outcome_of_step d e)) ∙ append-nil (outcomes S (first_of S B) es j)));
        turned = t.turned ∙ sym turned_else;
        lost = t.lost ∙ sym (revivals_now j);
        busy = λ q. busy_now j (t.busy q);
      }

      pub other_free : HasDoneNothing es j → HasDoneNothing after j
      other_free h = (begun_else ∙ h.0, turned_else ∙ h.1, revivals_now j ∙ h.2)

    pub other_run : (z : KnownCaller) → (i ≡ z.machine.caller → ⊥) → IsRunBy S B es z → IsRunBy S B after z
    other_run z away r = record { told = other_told z.machine.caller away z r.told; machine_is = other_machine z.machine.caller away ∙ r.machine_is }
