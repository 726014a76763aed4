-- An idle machine that was never replaced holds its caller's last outcome: the step that ended the
-- caller's call left it there, and nothing else changes it.
use Rattle.std.proofs.Common.{◌≡◌, ◌==◌, ℕ, ◌<◌, inl, inr, Bool, true, false, Option, Some, None, List, [], ◌∷◌, ◌++◌, length, refl, sym, ap, ◌∙◌, subst, arith, append_assoc}
use Rattle.std.proofs.lemmas.Bool.{cases_eq, eq-eqb, ne_eqb}
use Rattle.std.proofs.lemmas.List.{append-nil, length-append, get_or-set_same, get_or-set_other}
use Rattle.of_core.specs.declared.place.Outcome.{Outcome}
use Rattle.of_core.specs.declared.place.Place.{Place}
use Rattle.of_core.specs.declared.place.Place.TheVariants.{Idle}
use Rattle.of_core.specs.Table.{Setup, committed_seq}
use Rattle.of_core.specs.Machine.{CallState, IsOpen, is_idle, no_machine, begin_call}
use Rattle.of_core.specs.MachineValue.{ended_outcome, ended_outcome_at}
use Rattle.of_core.specs.Steps.{take_word, take_word_at, with_step_counted, word_found}
use Rattle.of_core.specs.TableMoment.{Moment, TableStart}
use Rattle.of_core.specs.Remains.{remains_of, revived_machine}
use Rattle.of_core.specs.Invariant.{MeetsInvariant}
use Rattle.of_core.specs.Turn.{turn_at, turn_of_outcome, IsIdle}
use Rattle.of_core.specs.Events.{Event, Begins, Turns, Loads, Evicts, Raises, Revives, machine_in, after_event, after_events, opening_moment, start_ticket, MayHappen, IsSchedule, ReplacesNone, KeepsMachine, AllReplaceNone}
use Rattle.of_core.specs.Calls.{if_so, HasCalls, last_outcome, operation_begun, outcome_of_event, outcome_of_turn, outcome_of_step, outcome_of_loss, outcomes}
use Rattle.of_core.specs.Laws.{InvariantIsSound, StartsMeetInvariant, EventsKeepInvariant, EveryCallStands, EventsLeadCalls}
use Rattle.of_caller.specs.LastOutcomes.{HoldsLast, EventsLeadLast, MachinesHoldLast}
use Rattle.of_caller.proofs.KeptCallers.{last_push}
use Rattle.of_caller.proofs.RecordsOwn.{idle_or_open}

-- what a turn of an open call says
turn_open : (p : Place) (d : CallState) → IsOpen p → turn_at p d ≡ turn_of_outcome (ended_outcome d)
turn_open Idle d o = absurd (let z : true ≡ false = o in cc)
turn_open p d o = refl

-- a turn of an idle machine does nothing
same_machine : (S : Setup) (m : CallState) (n : ℕ) → IsIdle m → (take_word S m n).answer ≡ m.answer
unfolding take_word
same_machine S m n idle = ap (λ (p : Place). (take_word_at S (with_step_counted p m) n p).answer) idle

-- one outcome more is the last
adds_last : (outs : List Outcome) (a : Option Outcome) → length (outcome_of_turn (turn_of_outcome a)) ≡ 1 → a ≡ last_outcome (outs ++ outcome_of_turn (turn_of_outcome a))
adds_last outs None one = absurd (omega (arith, one))
adds_last outs (Some o) one = sym (last_push outs None o)

keeps_machine : (e : Event) (i : ℕ) → ReplacesNone e → KeepsMachine e i
keeps_machine (Begins j op) i kept = tt
keeps_machine (Turns j) i kept = tt
keeps_machine (Loads c) i kept = tt
keeps_machine (Evicts k) i kept = tt
keeps_machine (Raises c) i kept = tt
keeps_machine (Revives j made) i kept = absurd kept

module _ (S : Setup) (L : List ℕ → Type 0) (sound : InvariantIsSound S L) (more_calls : EventsLeadCalls S L) where
  module _ (B : TableStart) (w : Moment) (good : MeetsInvariant S L B w) (i before : ℕ) (member : i < S.callers) (ops : List (List ℕ)) (outs : List Outcome) (calls : HasCalls S B before w i ops outs) (holds : HoldsLast w i outs) where
    -- the machine stays
    stays : (v : Moment) (new : List Outcome) → machine_in v i ≡ machine_in w i → new ≡ [] → HoldsLast v i (outs ++ new)
    stays v new same none idle =
        ap (λ (m : CallState). m.answer) same ∙ (holds (ap (λ (m : CallState). m.place) (sym same) ∙ idle)
        ∙ ap last_outcome (sym (append-nil outs) ∙ ap (λ (os : List Outcome). outs ++ os) (sym none)))

    -- it begins a call, or another's does
    begins : (j : ℕ) (op : List ℕ) → MayHappen S w (Begins j op) → HoldsLast (after_event S w (Begins j op)) i (outs ++ [])
    begins j op may idle = elim (cases_eq i j) [
      | inl same ↦
          let now = more_calls B w good i before member ops outs calls (Begins j op) may in
          let one : length (if_so (i == j) (op ∷ [])) ≡ 1 = ap (λ (b : Bool). length (if_so b (op ∷ []))) (eq-eqb i j same) in
          absurd (omega (arith, now.idle idle, calls.idle (ap (λ (k : ℕ). (machine_in w k).place) same ∙ may.1), one, length-append ops (if_so (i == j) (op ∷ [])), ap length (append-nil outs)))
      | inr other ↦ stays (after_event S w (Begins j op)) [] (get_or-set_other w.machines j i (begin_call S (machine_in w j) op) no_machine other) refl idle
    ]

    -- it makes a step: the last one of a call leaves the outcome
    steps : MayHappen S w (Turns i) → HoldsLast (after_event S w (Turns i)) i (outs ++ outcome_of_step (machine_in w i) (machine_in (after_event S w (Turns i)) i))
    steps may idle = elim (idle_or_open m.place) [
      | inl rests ↦ ap (λ (a : CallState). a.answer) is ∙ (same_machine S m n rests ∙ (holds rests ∙ ap last_outcome (sym (append-nil outs) ∙ ap (λ (p : Place). outs ++ outcome_of_turn (turn_at p d)) (sym rests))))
      | inr opened ↦
          let says : outcome_of_step m d ≡ outcome_of_turn (turn_of_outcome d.answer) = ap outcome_of_turn (turn_open m.place d opened ∙ ap (λ (p : Place). turn_of_outcome (ended_outcome_at p d)) idle) in
          let now = more_calls B w good i before member ops outs calls (Turns i) may in
          let all : length (outs ++ outcome_of_event S w (Turns i) i) ≡ length (ops ++ []) = now.idle idle in
          let own : outcome_of_event S w (Turns i) i ≡ outcome_of_step m d = ap (λ (b : Bool). if_so b (outcome_of_step m d)) (eq-eqb i i refl) in
          let one : length (outcome_of_turn (turn_of_outcome d.answer)) ≡ 1 = omega (arith, all, ap length own, ap length says, length-append outs (outcome_of_event S w (Turns i) i), ap length (append-nil ops), (calls.open_call opened).0) in
          adds_last outs d.answer one ∙ ap (λ (os : List Outcome). last_outcome (outs ++ os)) (sym says)
    ]
      where
        m : CallState
        m = machine_in w i

        n : ℕ
        n = word_found S w.words (machine_in w i)

        d : CallState
        d = machine_in (after_event S w (Turns i)) i

        is : machine_in (after_event S w (Turns i)) i ≡ take_word S (machine_in w i) (word_found S w.words (machine_in w i))
        is = get_or-set_same w.machines i (take_word S (machine_in w i) (word_found S w.words (machine_in w i))) no_machine (omega (arith, member, (sound B w good).members))

    turns : (j : ℕ) → MayHappen S w (Turns j) → HoldsLast (after_event S w (Turns j)) i (outs ++ outcome_of_event S w (Turns j) i)
    turns j may = elim (cases_eq i j) [
      | inl same ↦ subst (λ (k : ℕ). HoldsLast (after_event S w (Turns k)) i (outs ++ outcome_of_event S w (Turns k) i)) same
          (subst (λ (b : Bool). HoldsLast (after_event S w (Turns i)) i (outs ++ if_so b (outcome_of_step (machine_in w i) (machine_in (after_event S w (Turns i)) i)))) (sym (eq-eqb i i refl)) (steps member))
      | inr other ↦ stays (after_event S w (Turns j)) (outcome_of_event S w (Turns j) i) (get_or-set_other w.machines j i (take_word S (machine_in w j) (word_found S w.words (machine_in w j))) no_machine other)
          (ap (λ (b : Bool). if_so b (outcome_of_step (machine_in w j) (machine_in (after_event S w (Turns j)) j))) (ne_eqb i j other))
    ]

    leads : (e : Event) → MayHappen S w e → KeepsMachine e i → HoldsLast (after_event S w e) i (outs ++ outcome_of_event S w e i)
    leads (Begins j op) may kept = begins j op may
    leads (Turns j) may kept = turns j may
    leads (Loads c) may kept = stays (after_event S w (Loads c)) [] refl refl
    leads (Evicts k) may kept = stays (after_event S w (Evicts k)) [] refl refl
    leads (Raises c) may kept = stays (after_event S w (Raises c)) [] refl refl
    leads (Revives j made) may kept = revives j made (λ same. kept (sym same))
      where
        revives : (j made : ℕ) → (i ≡ j → ⊥) → HoldsLast (after_event S w (Revives j made)) i (outs ++ outcome_of_event S w (Revives j made) i)
        revives j made other = stays (after_event S w (Revives j made)) (outcome_of_event S w (Revives j made) i) (get_or-set_other w.machines j i (revived_machine S (remains_of S w.words j) j made) no_machine other)
            (ap (λ (b : Bool). if_so b (outcome_of_loss (committed_seq w.words) (is_idle (machine_in w j).place) (is_idle (machine_in (after_event S w (Revives j made)) j).place))) (ne_eqb i j other))

  pub events_lead_last : EventsLeadLast S L
  events_lead_last B w good i before member ops outs calls holds e may kept = leads B w good i before member ops outs calls holds e may kept

  module _ (B : TableStart) (events : EventsKeepInvariant S L) (i before : ℕ) (member : i < S.callers) where
    run_holds : (es : List Event) (w : Moment) → MeetsInvariant S L B w → IsSchedule S w es → AllReplaceNone es → (ops : List (List ℕ)) (outs : List Outcome) → HasCalls S B before w i ops outs → HoldsLast w i outs → HoldsLast (after_events S w es) i (outs ++ outcomes S w es i)
    run_holds [] w good s kept ops outs calls holds = subst (HoldsLast w i) (sym (append-nil outs)) holds
    run_holds (e ∷ es) w good s kept ops outs calls holds =
        let now = leads B w good i before member ops outs calls holds e s.0 (keeps_machine e i kept.0) in
        let more = more_calls B w good i before member ops outs calls e s.0 in
        let rest = run_holds es (after_event S w e) (events B w good e s.0) s.1 kept.1 (ops ++ operation_begun e i) (outs ++ outcome_of_event S w e i) more now in
        subst (HoldsLast (after_events S (after_event S w e) es) i) (append_assoc outs (outcome_of_event S w e i) (outcomes S (after_event S w e) es i)) rest

  pub machines_hold_last : StartsMeetInvariant S L → EventsKeepInvariant S L → EveryCallStands S L → MachinesHoldLast S L
  machines_hold_last starts events every B may n room es s kept i member =
      let first = every B may n room [] tt i member in
      run_holds B events i (start_ticket S B i) member es (opening_moment S B n) (starts B may n room).0 s kept [] [] first
      (λ idle. elim (first.last idle) [ inl none ↦ none | inr last ↦ last ])
