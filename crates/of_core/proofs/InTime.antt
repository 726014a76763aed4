-- A call that stays open has made fewer steps than the bound.
use Rattle.std.proofs.Common.{◌≡◌, ℕ, ◌+◌, ◌<◌, ◌≤◌, ◌⊎◌, ◌==◌, inl, inr, List, [], ◌∷◌, get_or, refl, sym, ◌∙◌, ap, subst, arith, true, false}
use Rattle.std.proofs.lemmas.Bool.{cases_eq, eq-eqb, ne_eqb}
use Rattle.std.proofs.lemmas.List.{get_or-set_same, get_or-set_other, get_or_default}
use Rattle.of_mem.specs.Meaning.{IsSoundMeaning}
use Rattle.of_core.specs.declared.place.Place.{Place}
use Rattle.of_core.specs.declared.place.Place.TheVariants.{Idle, TryCurrent, TryRequest, TryCell, StoreScript, StoreAnnouncement, LoadCurrent, LoadRequest, CopyLog, LookAgain, LoadOwnTicket, LoadShape, LoadReply, LoadAnnouncement, LoadTicket, LoadScript, LoadCell, RaiseOld, StoreLog, RaiseLog, StoreRequest, RaiseRequest, ExchangeCurrent, RaiseCurrent, LoadTarget, ExchangeTarget, ReloadTarget, RaiseTarget, CloseRequest, RaiseClosed}
use Rattle.of_core.specs.Table.{Setup, first_operation_cell}
use Rattle.of_core.specs.Machine.{CallState, IsOpen, is_idle, no_machine}
use Rattle.of_core.specs.Steps.{word_found, take_word}
use Rattle.of_core.specs.TableMoment.{Moment, TableStart}
use Rattle.of_core.specs.Invariant.{HoldsAtPlace, MeetsInvariant}
use Rattle.of_core.specs.Bound.{bound, steps_left_at}
use Rattle.of_core.specs.Events.{one_if, Event, Begins, Turns, Loads, Evicts, Raises, Revives, after_event, MayHappen, machine_in, after_events, turn_count, turns_in_event, IsSchedule, KeepsMachine, StaysOpen}
use Rattle.of_core.proofs.Happenings.{event_good}
use Rattle.of_core.proofs.StepTaken.{step_taken}
use Rattle.of_core.proofs.Found.{found_now}
use Rattle.of_core.proofs.StepBound.{n_cells}

module _ (S : Setup) (Lawful : List ℕ → Type 0) (sound : IsSoundMeaning S.meaning Lawful (first_operation_cell S) S.cells) (B : TableStart) where
  module _ (i : ℕ) (h : i < S.callers) where
    pub of_machine : (w : Moment) → MeetsInvariant S Lawful B w → get_or w.machines i (machine_in w i) ≡ machine_in w i
    of_machine w g = get_or_default w.machines i (machine_in w i) no_machine (omega (arith, g.core.members))

    own_turn : (w : Moment) → MeetsInvariant S Lawful B w → IsOpen (machine_in w i).place → IsOpen (machine_in (after_event S w (Turns i)) i).place → (machine_in (after_event S w (Turns i)) i).steps ≡ (machine_in w i).steps + one_if (i == i)
    own_turn w g o q =
        let x : machine_in (after_event S w (Turns i)) i ≡ take_word S (machine_in w i) (word_found S w.words (machine_in w i)) = get_or-set_same w.machines i _ no_machine (omega (arith, g.core.members)) in
        let now : IsOpen (take_word S (machine_in w i) (word_found S w.words (machine_in w i))).place = subst (λ (d : CallState). IsOpen d.place) x q in
        let t = step_taken S Lawful B w g i (machine_in w i) h (of_machine w g) o (word_found S w.words (machine_in w i)) (found_now S w.words (machine_in w i)) in
        ap (λ (d : CallState). d.steps) x ∙ (t.goes_on now).0 ∙ ap (λ (k : ℕ). (machine_in w i).steps + k) (sym (ap one_if (eq-eqb i i refl)))

    -- each turn of the caller is a step of its open call, and no other event changes its machine
    pub steps_rise : (w : Moment) (g : MeetsInvariant S Lawful B w) (e : Event) → MayHappen S w e → KeepsMachine e i → IsOpen (machine_in w i).place → IsOpen (machine_in (after_event S w e) i).place → (machine_in (after_event S w e) i).steps ≡ (machine_in w i).steps + turns_in_event i e
    steps_rise w g (Loads c) m k o q = omega arith
    steps_rise w g (Evicts x) m k o q = omega arith
    steps_rise w g (Raises c) m k o q = omega arith
    steps_rise w g (Revives j made) m k o q = ap (λ (d : CallState). d.steps) (get_or-set_other w.machines j i _ no_machine (λ e. k (sym e))) ∙ plus_zero (machine_in w i).steps
      where
        plus_zero : (x : ℕ) → x ≡ x + 0
        plus_zero x = omega arith
    steps_rise w g (Begins j op) m k o q = go (cases_eq j i)
      where
        go : (j ≡ i) ⊎ (j ≡ i → ⊥) → (machine_in (after_event S w (Begins j op)) i).steps ≡ (machine_in w i).steps + 0
        go (inl e) = let z : true ≡ false = sym (ap is_idle m.1) ∙ ap (λ (k : ℕ). is_idle (machine_in w k).place) e ∙ o in cc
        go (inr n) = ap (λ (d : CallState). d.steps) (get_or-set_other w.machines j i _ no_machine (λ e. n (sym e))) ∙ plus_zero (machine_in w i).steps
          where
            plus_zero : (x : ℕ) → x ≡ x + 0
            plus_zero x = omega arith
    steps_rise w g (Turns j) m k o q = go (cases_eq j i)
      where
        go : (j ≡ i) ⊎ (j ≡ i → ⊥) → (machine_in (after_event S w (Turns j)) i).steps ≡ (machine_in w i).steps + one_if (i == j)
        go (inr n) = ap (λ (d : CallState). d.steps) (get_or-set_other w.machines j i _ no_machine (λ e. n (sym e))) ∙ plus_none (machine_in w i).steps (one_if (i == j)) (ap one_if (ne_eqb i j (λ e. n (sym e))))
          where
            plus_none : (x y : ℕ) → y ≡ 0 → x ≡ x + y
            plus_none x y e = omega arith
        go (inl e) = subst (λ (k : ℕ). (machine_in (after_event S w (Turns k)) i).steps ≡ (machine_in w i).steps + one_if (i == k)) (sym e) (own_turn w g o (subst (λ (k : ℕ). IsOpen (machine_in (after_event S w (Turns k)) i).place) e q))

    -- an open call has a step left
    module _ (w : Moment) (g : MeetsInvariant S Lawful B w) (m : CallState) where
      some_left : (p : Place) → IsOpen p → HoldsAtPlace S B w.words w.batches i m p → (x : ℕ) → steps_left_at S m p ≡ x → 1 ≤ x
      some_left Idle o a x e = cc
      some_left TryCurrent o a x e = omega arith
      some_left TryRequest o a x e = omega arith
      some_left (TryCell c) o a x e = omega arith
      some_left (StoreScript j) o a x e = omega arith
      some_left StoreAnnouncement o a x e = omega arith
      some_left LoadCurrent o a x e = omega arith
      some_left LoadRequest o a x e = omega arith
      some_left (CopyLog k) o a x e = omega arith
      some_left LookAgain o a x e = omega arith
      some_left LoadOwnTicket o a x e = omega arith
      some_left LoadShape o a x e = omega arith
      some_left (LoadReply j) o a x e = omega (arith, a.in_reply)
      some_left LoadAnnouncement o a x e = omega arith
      some_left LoadTicket o a x e = omega arith
      some_left (LoadScript j) o a x e = omega arith
      some_left (LoadCell c) o a x e = omega arith
      some_left RaiseOld o a x e = omega arith
      some_left (StoreLog k) o a x e = omega arith
      some_left (RaiseLog k) o a x e = omega arith
      some_left StoreRequest o a x e = omega arith
      some_left RaiseRequest o a x e = omega arith
      some_left ExchangeCurrent o a x e = omega arith
      some_left RaiseCurrent o a x e = omega arith
      some_left (LoadTarget j) o a x e = omega arith
      some_left (ExchangeTarget j f) o a x e = omega arith
      some_left (ReloadTarget j) o a x e = omega (arith, a.entry.more, n_cells S Lawful B w g.core i m h j a.entry.applies)
      some_left (RaiseTarget j f) o a x e = omega (arith, a.entry.more, n_cells S Lawful B w g.core i m h j a.entry.applies)
      some_left CloseRequest o a x e = omega arith
      some_left RaiseClosed o a x e = omega arith

    fewer : (s x y : ℕ) → s + x ≤ y → 1 ≤ x → s < y
    fewer s x y l u = omega arith

    under : (w : Moment) → MeetsInvariant S Lawful B w → IsOpen (machine_in w i).place → (machine_in w i).steps < bound S
    under w g o =
        let l = some_left w g (machine_in w i) (machine_in w i).place o (g.core.each i (machine_in w i) h (of_machine w g)) (steps_left_at S (machine_in w i) (machine_in w i).place) refl in
        fewer (machine_in w i).steps (steps_left_at S (machine_in w i) (machine_in w i).place) (bound S) (g.within i (machine_in w i) h (of_machine w g)).steps l

    pub now_open : (w : Moment) (es : List Event) → StaysOpen S w es i → IsOpen (machine_in w i).place
    now_open w [] q = q
    now_open w (e ∷ es) q = q.0

    pub fewer_steps : (es : List Event) (w : Moment) → MeetsInvariant S Lawful B w → IsSchedule S w es → StaysOpen S w es i → (machine_in w i).steps + turn_count i es < bound S
    fewer_steps [] w g s q = omega (arith, under w g q)
    fewer_steps (e ∷ es) w g s q =
        let g1 : MeetsInvariant S Lawful B (after_event S w e) = event_good S Lawful B w g sound e s.0 in
        omega (arith, fewer_steps es (after_event S w e) g1 s.1 q.1, steps_rise w g e s.0 q.2 q.0 (now_open (after_event S w e) es q.1))

    pub run_good : (es : List Event) (w : Moment) → MeetsInvariant S Lawful B w → IsSchedule S w es → MeetsInvariant S Lawful B (after_events S w es)
    run_good [] w g s = g
    run_good (e ∷ es) w g s = run_good es (after_event S w e) (event_good S Lawful B w g sound e s.0) s.1

    pub no_fourth : (w : Moment) → MeetsInvariant S Lawful B w → (machine_in w i).place ≡ LoadCurrent → (machine_in w i).rounds ≤ 2
    no_fourth w g e = (subst (λ (p : Place). HoldsAtPlace S B w.words w.batches i (machine_in w i) p) e (g.core.each i (machine_in w i) h (of_machine w g))).between.few

  pub ends_in_time : (w : Moment) → MeetsInvariant S Lawful B w → (es : List Event) → IsSchedule S w es → (i : ℕ) → i < S.callers → StaysOpen S w es i
      → ((machine_in w i).steps + turn_count i es < bound S) × ((machine_in (after_events S w es) i).place ≡ LoadCurrent → (machine_in (after_events S w es) i).rounds ≤ 2)
  ends_in_time w g es s i h q = (fewer_steps i h es w g s q, λ e. no_fourth i h (after_events S w es) (run_good i h es w g s) e)
