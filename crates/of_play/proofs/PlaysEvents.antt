-- Events that come after other events, and answers that come after other answers.
use Rattle.std.proofs.Common.{◌≡◌, ℕ, ◌+◌, List, [], ◌∷◌, ◌++◌, refl, sym, ◌∙◌, ap, arith}
use Rattle.std.specs.List.{flat_map}
use Rattle.std.proofs.lemmas.List.{append_assoc}
use Rattle.of_core.specs.declared.place.Outcome.{Outcome}
use Rattle.of_core.specs.declared.place.Outcome.TheVariants.{Answered, Spent, Lost}
use Rattle.of_core.specs.Table.{Setup}
use Rattle.of_core.specs.TableMoment.{Moment}
use Rattle.of_core.specs.Events.{Event, after_event, after_events, IsSchedule, turn_count}
use Rattle.of_core.specs.Calls.{operations_begun, operation_begun, outcomes, outcome_of_event, TurnsFindOpenCalls}
use Rattle.of_plan.specs.declared.answer.Answer.{Answer}
use Rattle.of_plan.specs.declared.plan.Item.{Item}
use Rattle.of_plan.specs.Plan.{Plan}
use Rattle.of_caller.specs.Tables.{plan_setup, opening_for}
use Rattle.of_caller.specs.Ends.{TellsAnswer, AreAnswers}
use Rattle.of_play.specs.Play.{item_events, with_begin, events_from}

-- the events of the plan's callers with these items for a schedule
abbrev pub events_of : Plan → List Item → List Event
events_of p xs = events_from p (opening_for p) (flat_map item_events xs)

module _ (S : Setup) where
  pub run_append : (w : Moment) (es fs : List Event) → after_events S w (es ++ fs) ≡ after_events S (after_events S w es) fs
  run_append w [] fs = refl
  run_append w (e ∷ es) fs = run_append (after_event S w e) es fs

  pub schedule_append : (w : Moment) (es fs : List Event) → IsSchedule S w es → IsSchedule S (after_events S w es) fs → IsSchedule S w (es ++ fs)
  schedule_append w [] fs s t = t
  schedule_append w (e ∷ es) fs s t = (s.0, schedule_append (after_event S w e) es fs s.1 t)

  pub outcomes_append : (w : Moment) (es fs : List Event) (i : ℕ) → outcomes S w (es ++ fs) i ≡ outcomes S w es i ++ outcomes S (after_events S w es) fs i
  outcomes_append w [] fs i = refl
  outcomes_append w (e ∷ es) fs i = ap (λ (os : List Outcome). outcome_of_event S w e i ++ os) (outcomes_append (after_event S w e) es fs i) ∙ sym (append_assoc (outcome_of_event S w e i) _ _)

  pub never_idle_append : (w : Moment) (es fs : List Event) (i : ℕ) → TurnsFindOpenCalls S w es i → TurnsFindOpenCalls S (after_events S w es) fs i → TurnsFindOpenCalls S w (es ++ fs) i
  never_idle_append w [] fs i s t = t
  never_idle_append w (e ∷ es) fs i s t = (s.0, never_idle_append (after_event S w e) es fs i s.1 t)

pub operations_append : (es fs : List Event) (i : ℕ) → operations_begun (es ++ fs) i ≡ operations_begun es i ++ operations_begun fs i
operations_append [] fs i = refl
operations_append (e ∷ es) fs i = ap (λ (os : List (List ℕ)). operation_begun e i ++ os) (operations_append es fs i) ∙ sym (append_assoc (operation_begun e i) _ _)

pub turns_append : (i : ℕ) (es fs : List Event) → turn_count i (es ++ fs) ≡ turn_count i es + turn_count i fs
turns_append i [] fs = omega arith
turns_append i (e ∷ es) fs = omega (arith, turns_append i es fs)

-- the events of moves that come after other moves
pub events_append : (p : Plan) (w : Moment) (ms ns : List Event) → events_from p w (ms ++ ns) ≡ events_from p w ms ++ events_from p (after_events (plan_setup p) w (events_from p w ms)) ns
events_append p w [] ns = refl
events_append p w (m ∷ ms) ns =
    let v = after_events (plan_setup p) w (with_begin p w m) in
    ap (λ (es : List Event). with_begin p w m ++ es) (events_append p v ms ns) ∙ sym (append_assoc (with_begin p w m) _ _)
    ∙ ap (λ (u : Moment). (with_begin p w m ++ events_from p v ms) ++ events_from p u ns) (sym (run_append (plan_setup p) w (with_begin p w m) (events_from p v ms)))

-- a spent call has no answer
pub answers_spent : (os : List Outcome) (said : List Answer) (s : ℕ) → AreAnswers os said → AreAnswers (os ++ Spent s ∷ []) said
answers_spent [] [] s h = h
answers_spent [] (a ∷ others) s h = absurd h
answers_spent (Answered q announced raw steps ∷ os) [] s h = absurd h
answers_spent (Answered q announced raw steps ∷ os) (a ∷ others) s h = (h.0, answers_spent os others s h.1)
answers_spent (Spent q ∷ os) said s h = answers_spent os said s h
answers_spent (Lost q ∷ os) said s h = absurd h

-- one more answer
pub answers_more : (os : List Outcome) (said : List Answer) (o : Outcome) (a : Answer) → AreAnswers os said → TellsAnswer o a → AreAnswers (os ++ o ∷ []) (said ++ a ∷ [])
answers_more [] [] (Answered s announced raw steps) a h t = (t, tt)
answers_more [] [] (Spent s) a h t = absurd t
answers_more [] [] (Lost s) a h t = absurd t
answers_more [] (b ∷ others) o a h t = absurd h
answers_more (Answered q announced raw steps ∷ os) [] o a h t = absurd h
answers_more (Answered q announced raw steps ∷ os) (b ∷ others) o a h t = (h.0, answers_more os others o a h.1 t)
answers_more (Spent q ∷ os) said o a h t = answers_more os said o a h t
answers_more (Lost q ∷ os) said o a h t = absurd h
