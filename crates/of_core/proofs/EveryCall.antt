-- The calls of one caller at every moment of every schedule.
use Rattle.std.proofs.Common.{◌≡◌, ℕ, ◌+◌, ◌*◌, ◌<◌, ◌≤◌, List, [], ◌∷◌, ◌++◌, refl, sym, ◌∙◌, ap, subst, arith, true, false, inl}
use Rattle.std.proofs.lemmas.List.{append_assoc, append-nil}
use Rattle.of_mem.specs.declared.work.TheConstants.{MOST_INSTRS}
use Rattle.of_cell.specs.declared.word.TheConstants.{PAYLOADS}
use Rattle.of_mem.specs.Meaning.{IsSoundMeaning}
use Rattle.of_core.specs.declared.place.Outcome.{Outcome}
use Rattle.of_core.specs.Table.{Setup, first_operation_cell, cell_count}
use Rattle.of_core.specs.Machine.{CallState, is_idle, idle_machine, no_machine}
use Rattle.of_core.specs.TableMoment.{Moment, TableStart}
use Rattle.of_core.specs.WordsMatch.{MayStart}
use Rattle.of_core.specs.Invariant.{MeetsInvariant}
use Rattle.of_core.specs.Events.{Event, machine_in, after_event, after_events, IsSchedule, start_ticket, opening_moment, turn_count}
use Rattle.of_core.specs.Calls.{operation_begun, operations_begun, outcome_of_event, outcomes, HasCalls, TurnsFindOpenCalls, NoneSpent, total_steps, TurnsAreTold}
use Rattle.of_core.proofs.Happenings.{event_good}
use Rattle.of_core.proofs.Openings.{start_good, idle_at}
use Rattle.of_core.proofs.Moments.{run_good}
use Rattle.of_core.proofs.InTime.{ends_in_time}
use Rattle.of_core.proofs.CallEvents.{calls_kept, steps_counted}

told_append : (xs ys : List Outcome) → total_steps (xs ++ ys) ≡ total_steps xs + total_steps ys
told_append [] ys = omega arith
told_append (x ∷ xs) ys = omega (arith, told_append xs ys)

none_left : (xs ys : List Outcome) → NoneSpent (xs ++ ys) → NoneSpent xs
none_left [] ys h = tt
none_left (x ∷ xs) ys h = (h.0, none_left xs ys h.1)

none_right : (xs ys : List Outcome) → NoneSpent (xs ++ ys) → NoneSpent ys
none_right [] ys h = h
none_right (x ∷ xs) ys h = none_right xs ys h.1

module _ (S : Setup) (Lawful : List ℕ → Type 0) (sound : IsSoundMeaning S.meaning Lawful (first_operation_cell S) S.cells) (B : TableStart) (i : ℕ) (member : i < S.callers) where
  pub run_calls : (es : List Event) (w : Moment) → MeetsInvariant S Lawful B w → IsSchedule S w es → (before : ℕ) (ops : List (List ℕ)) (outs : List Outcome) → HasCalls S B before w i ops outs → HasCalls S B before (after_events S w es) i (ops ++ operations_begun es i) (outs ++ outcomes S w es i)
  run_calls [] w g s before ops outs c = rw (append-nil ops, append-nil outs) c
  run_calls (e ∷ es) w g s before ops outs c =
      let g1 : MeetsInvariant S Lawful B (after_event S w e) = event_good S Lawful B w g sound e s.0 in
      let p = run_calls es (after_event S w e) g1 s.1 before (ops ++ operation_begun e i) (outs ++ outcome_of_event S w e i) (calls_kept S Lawful sound B w g before i member ops outs c e s.0) in
      subst (λ (xs : List (List ℕ)). HasCalls S B before (after_events S w (e ∷ es)) i xs (outs ++ outcomes S w (e ∷ es) i)) (append_assoc ops (operation_begun e i) (operations_begun es i))
      (subst (λ (os : List Outcome). HasCalls S B before (after_events S w (e ∷ es)) i (ops ++ operation_begun e i ++ operations_begun es i) os) (append_assoc outs (outcome_of_event S w e i) (outcomes S (after_event S w e) es i)) p)

  -- the turns among the events are the steps told and made
  run_counts : (es : List Event) (w : Moment) → MeetsInvariant S Lawful B w → IsSchedule S w es
      → (total_steps (outcomes S w es i) + (machine_in (after_events S w es) i).steps ≤ (machine_in w i).steps + turn_count i es)
      × (TurnsFindOpenCalls S w es i → NoneSpent (outcomes S w es i) → total_steps (outcomes S w es i) + (machine_in (after_events S w es) i).steps ≡ (machine_in w i).steps + turn_count i es)
  run_counts [] w g s = (omega arith, λ q u. omega arith)
  run_counts (e ∷ es) w g s =
      let g1 : MeetsInvariant S Lawful B (after_event S w e) = event_good S Lawful B w g sound e s.0 in
      let one = steps_counted S Lawful sound B w g e s.0 i member in
      let more = run_counts es (after_event S w e) g1 s.1 in
      let sum = told_append (outcome_of_event S w e i) (outcomes S (after_event S w e) es i) in (
        omega (arith, one.0, more.0, sum),
        λ q u. omega (arith, one.1 q.0 (none_left (outcome_of_event S w e i) (outcomes S (after_event S w e) es i) u), more.1 q.1 (none_right (outcome_of_event S w e i) (outcomes S (after_event S w e) es i) u), sum),
      )

  -- from a start
  module _ (may_start : MayStart S Lawful B) (some : 0 < S.callers) (few : S.callers < PAYLOADS) (own_in : first_operation_cell S ≤ S.cells) (total : ℕ) (room : cell_count S + cell_count S + S.callers * (S.instrs + 1) ≤ total) (narrow : S.instrs ≤ MOST_INSTRS) (little : S.cells < PAYLOADS) where
    good : MeetsInvariant S Lawful B (opening_moment S B total)
    good = start_good S Lawful sound B may_start some few own_in total room narrow little

    here : machine_in (opening_moment S B total) i ≡ idle_machine S i (start_ticket S B i)
    here = idle_at S (start_ticket S B) i no_machine member

    pub no_calls : HasCalls S B (start_ticket S B i) (opening_moment S B total) i [] []
    no_calls = record {
      made = ap (λ (d : CallState). d.made) here ∙ omega arith;
      idle = λ q. refl;
      open_call = λ q. let z : true ≡ false = sym (ap (λ (d : CallState). is_idle d.place) here) ∙ q in cc;
      unanswered = λ q. ap (λ (d : CallState). d.answer) here;
      last = λ q. inl (ap (λ (d : CallState). d.answer) here);
      each = λ x l. absurd (omega arith);
      reads = λ k r l. absurd (omega arith);
      calls = λ k l u. absurd (omega (arith, l, u));
      rising = λ x y l u. absurd (omega (arith, u));
      reads_from = λ x l. absurd (omega (arith, l));
    }

    pub every_call : (es : List Event) → IsSchedule S (opening_moment S B total) es → HasCalls S B (start_ticket S B i) (after_events S (opening_moment S B total) es) i (operations_begun es i) (outcomes S (opening_moment S B total) es i)
    every_call es s = run_calls es (opening_moment S B total) good s (start_ticket S B i) [] [] no_calls

    pub every_turn : (es : List Event) → IsSchedule S (opening_moment S B total) es → TurnsAreTold S (opening_moment S B total) es i
    every_turn es s =
        let p = run_counts es (opening_moment S B total) good s in
        let z : (machine_in (opening_moment S B total) i).steps ≡ 0 = ap (λ (d : CallState). d.steps) here in
        record {
          few = omega (arith, p.0, z);
          exact = λ q u. omega (arith, p.1 q u, z);
          within = λ q. omega (arith, (ends_in_time S Lawful sound B (after_events S (opening_moment S B total) es) (end_good es s) [] tt i member q).0);
        }
      where
        end_good : (es : List Event) → IsSchedule S (opening_moment S B total) es → MeetsInvariant S Lawful B (after_events S (opening_moment S B total) es)
        end_good es s = run_good S Lawful sound B es (opening_moment S B total) good s
