-- A caller that is stopped at the end had a call open at each of its turns.
use Rattle.std.proofs.Common.{◌≡◌, ℕ, suc, ◌<◌, ◌≤◌, ◌⊎◌, ◌==◌, inl, inr, List, [], ◌∷◌, ◌++◌, length, take, refl, sym, ◌∙◌, ap, subst, arith, Some, None, Option, Bool, true, false, nat_lt, not, ◌&&◌, if◌then◌else◌, get_or, length-take}
use Rattle.std.specs.List.{AllByRecursion as Each}
use Rattle.std.proofs.lemmas.Bool.{cases_eq}
use Rattle.std.proofs.lemmas.Bool.Decides.{nat_tests}
use Rattle.std.proofs.lemmas.List.{get_or-set_same, get_or-set_other, length-map}
use Rattle.of_eval.specs.Record.{end_state_of}
use Rattle.of_plan.specs.declared.answer.Answer.{Answer}
use Rattle.of_plan.specs.declared.answer.Ending.TheVariants.{Done}
use Rattle.of_plan.specs.declared.plan.Item.{Item}
use Rattle.of_plan.specs.Plan.{Plan, IsScheduleItem, scripts_of}
use Rattle.of_plan.specs.Report.{done, stopped, spent}
use Rattle.of_plan.specs.Ended.{Ended, answers_of, ending_of}
use Rattle.of_core.specs.declared.place.Place.TheVariants.{Idle}
use Rattle.of_core.specs.declared.place.Outcome.{Outcome}
use Rattle.of_core.specs.declared.place.Outcome.TheVariants.{Answered, Spent, Lost}
use Rattle.of_core.specs.Machine.{CallState, IsOpen, is_idle, no_machine, begin_call, first_place}
use Rattle.of_core.specs.TableMoment.{Moment}
use Rattle.of_core.specs.Events.{Event, Begins, Turns, Loads, Evicts, Raises, Revives, machine_in, after_event, after_events, zero_start}
use Rattle.of_core.specs.Calls.{TurnsFindOpenCalls, operations_begun, outcomes, no_outcome, last_outcome, HasCalls}
use Rattle.of_caller.specs.Tables.{plan_setup, opening_for, operation_of}
use Rattle.of_caller.specs.Ends.{is_spent, ending_if_left, ending_at, AreAnswers}
use Rattle.of_caller.specs.LastOutcomes.{HoldsLast}
use Rattle.of_caller.specs.Left.{moment_after, IsLeftBy}
use Rattle.of_play.specs.Play.{begins_call, next_begin, with_begin}
use Rattle.of_play.specs.ScheduleRun.{EventsMayFollow}
use Rattle.of_play.proofs.PlaysMoments.{IsPlayable, idle_is, calls_here, last_here}
use Rattle.of_play.proofs.PlaysUnspent.{last_at}
use Rattle.of_play.proofs.PlaysSpent.{items_spent_last, items_stay}
use Rattle.of_play.proofs.PlaysEvents.{run_append, never_idle_append, events_of}
use Rattle.of_play.proofs.PlaysGood.{good_at, here, rests, turned}
use Rattle.of_play.proofs.PlaysFollow.{IsMove}
use Rattle.of_play.proofs.PlaysStand.{next_none, next_one}
use Rattle.of_play.proofs.PlaysSchedule.{by_items, items_are_schedule, items_of_plan}

-- where no call was spent there are as many answers as outcomes
as_many : (outs : List Outcome) (answers : List Answer) → AreAnswers outs answers → ((x s : ℕ) → x < length outs → get_or outs x no_outcome ≡ Spent s → ⊥) → length answers ≡ length outs
as_many [] [] told none = refl
as_many [] (a ∷ others) told none = absurd told
as_many (Answered s announced raw steps ∷ outs) [] told none = absurd told
as_many (Answered s announced raw steps ∷ outs) (a ∷ others) told none = ap suc (as_many outs others told.1 (λ x q lt is. none (suc x) q (omega (arith, lt)) is))
as_many (Spent s ∷ outs) answers told none = absurd (none 0 s (omega arith) refl)
as_many (Lost s ∷ outs) answers told none = absurd told

opens : (b : Bool) → IsOpen (first_place b)
opens true = refl
opens false = refl

module _ (p : Plan) (plan : IsPlayable p) (c : ℕ) (h : c < p.callers) where
  -- the caller has no call open and begins none
  abbrev Rests : Moment → Type 0
  Rests w = ((machine_in w c).place ≡ Idle) × (begins_call (machine_in w c) (length (scripts_of p c)) ≡ false)

  -- each of its turns came while a call was open, or it now rests
  abbrev Busy : List Event → Type 0
  Busy es = TurnsFindOpenCalls (plan_setup p) (opening_for p) es c ⊎ Rests (moment_after p es)

  rests_as : (gs es : List Event) → machine_in (moment_after p gs) c ≡ machine_in (moment_after p es) c → Rests (moment_after p es) → Rests (moment_after p gs)
  rests_as gs es e r = subst (λ (m : CallState). (m.place ≡ Idle) × (begins_call m (length (scripts_of p c)) ≡ false)) (sym e) r

  -- ---- the events of other callers

  other_next : (w : Moment) (d : ℕ) → (c ≡ d → ⊥) → (machine_in (after_events (plan_setup p) w (next_begin p d (machine_in w d))) c ≡ machine_in w c) × TurnsFindOpenCalls (plan_setup p) w (next_begin p d (machine_in w d)) c
  other_next w d n = go (begins_call (machine_in w d) (length (scripts_of p d))) refl
    where
      op : List ℕ
      op = operation_of (get_or (scripts_of p d) (machine_in w d).made [])

      go : (b : Bool) → begins_call (machine_in w d) (length (scripts_of p d)) ≡ b → (machine_in (after_events (plan_setup p) w (next_begin p d (machine_in w d))) c ≡ machine_in w c) × TurnsFindOpenCalls (plan_setup p) w (next_begin p d (machine_in w d)) c
      go true e = subst (λ (fs : List Event). (machine_in (after_events (plan_setup p) w fs) c ≡ machine_in w c) × TurnsFindOpenCalls (plan_setup p) w fs c) (sym (next_one p d (machine_in w d) e)) (get_or-set_other w.machines d c _ no_machine n, (tt, tt))
      go false e = subst (λ (fs : List Event). (machine_in (after_events (plan_setup p) w fs) c ≡ machine_in w c) × TurnsFindOpenCalls (plan_setup p) w fs c) (sym (next_none p d (machine_in w d) e)) (refl, tt)

  other_turn : (es : List Event) (d : ℕ) → (c ≡ d → ⊥) → Busy es → Busy (es ++ (next_begin p d (machine_in (moment_after p es) d) ++ Turns d ∷ []))
  other_turn es d n (inl k) =
      let w = moment_after p es in
      let fs = next_begin p d (machine_in w d) in
      inl (never_idle_append (plan_setup p) (opening_for p) es (fs ++ Turns d ∷ []) c k (never_idle_append (plan_setup p) w fs (Turns d ∷ []) c (other_next w d n).1 ((λ e. absurd (n e)), tt)))
  other_turn es d n (inr r) =
      let w = moment_after p es in
      let fs = next_begin p d (machine_in w d) in
      let v = after_events (plan_setup p) w fs in
      let same : machine_in (after_event (plan_setup p) v (Turns d)) c ≡ machine_in w c = get_or-set_other v.machines d c _ no_machine n ∙ (other_next w d n).0 in
      inr (rests_as (es ++ (fs ++ Turns d ∷ [])) es (ap (λ (u : Moment). machine_in u c) (run_append (plan_setup p) (opening_for p) es (fs ++ Turns d ∷ []) ∙ run_append (plan_setup p) w fs (Turns d ∷ [])) ∙ same) r)

  -- ---- its own

  rest_turn : (es : List Event) → EventsMayFollow p es → Rests (moment_after p es) → Busy (es ++ (next_begin p c (machine_in (moment_after p es) c) ++ Turns c ∷ []))
  rest_turn es f r =
      let w = moment_after p es in
      let g = good_at p plan es f.schedule in
      let same : machine_in (after_event (plan_setup p) w (Turns c)) c ≡ machine_in w c = turned p plan w g c h ∙ rests p plan w g c h r.0 in
      inr (rests_as (es ++ (next_begin p c (machine_in w c) ++ Turns c ∷ [])) es (ap (λ (fs : List Event). machine_in (moment_after p (es ++ (fs ++ Turns c ∷ []))) c) (next_none p c (machine_in w c) r.1) ∙ ap (λ (u : Moment). machine_in u c) (run_append (plan_setup p) (opening_for p) es (Turns c ∷ [])) ∙ same) r)

  own_turn : (es : List Event) → EventsMayFollow p es → Busy es → Busy (es ++ (next_begin p c (machine_in (moment_after p es) c) ++ Turns c ∷ []))
  own_turn es f (inr r) = rest_turn es f r
  own_turn es f (inl k) = go (begins_call (machine_in w c) (length (scripts_of p c))) refl
    where
      w : Moment
      w = moment_after p es

      fs : List Event
      fs = next_begin p c (machine_in (moment_after p es) c)

      at_place : (b : Bool) → is_idle (machine_in (moment_after p es) c).place ≡ b → begins_call (machine_in (moment_after p es) c) (length (scripts_of p c)) ≡ false → Busy (es ++ (next_begin p c (machine_in (moment_after p es) c) ++ Turns c ∷ []))
      at_place true i e = rest_turn es f (idle_is _ i, e)
      at_place false i e = inl (never_idle_append (plan_setup p) (opening_for p) es _ c k
          (subst (λ (gs : List Event). TurnsFindOpenCalls (plan_setup p) (moment_after p es) (gs ++ Turns c ∷ []) c) (sym (next_none p c (machine_in (moment_after p es) c) e)) ((λ q. i), tt)))

      go : (b : Bool) → begins_call (machine_in (moment_after p es) c) (length (scripts_of p c)) ≡ b → Busy (es ++ (next_begin p c (machine_in (moment_after p es) c) ++ Turns c ∷ []))
      go false e = at_place (is_idle (machine_in (moment_after p es) c).place) refl e
      go true e =
          let op = operation_of (get_or (scripts_of p c) (machine_in (moment_after p es) c).made []) in
          let now : machine_in (after_event (plan_setup p) (moment_after p es) (Begins c op)) c ≡ begin_call (plan_setup p) (machine_in (moment_after p es) c) op = get_or-set_same (moment_after p es).machines c _ no_machine (here p plan (moment_after p es) (good_at p plan es f.schedule) c h) in
          inl (never_idle_append (plan_setup p) (opening_for p) es _ c k
          (subst (λ (gs : List Event). TurnsFindOpenCalls (plan_setup p) (moment_after p es) (gs ++ Turns c ∷ []) c) (sym (next_one p c (machine_in (moment_after p es) c) e))
          (tt, ((λ q. subst (λ (m : CallState). IsOpen m.place) (sym now) (opens ((plan_setup p).meaning.reads_only op))), tt))))

  busy_step : (es : List Event) → EventsMayFollow p es → Busy es → (m : Event) → IsMove p m → Busy (es ++ with_begin p (moment_after p es) m)
  busy_step es f b (Begins d op) is = absurd is
  busy_step es f b (Loads a) is = absurd is
  busy_step es f b (Evicts k) is = absurd is
  busy_step es f b (Revives i made) is = absurd is
  busy_step es f (inl k) (Raises a) is = inl (never_idle_append (plan_setup p) (opening_for p) es (Raises a ∷ []) c k (tt, tt))
  busy_step es f (inr r) (Raises a) is = inr (rests_as (es ++ Raises a ∷ []) es (ap (λ (u : Moment). machine_in u c) (run_append (plan_setup p) (opening_for p) es (Raises a ∷ []))) r)
  busy_step es f b (Turns d) is = go (cases_eq c d)
    where
      go : (c ≡ d) ⊎ (c ≡ d → ⊥) → Busy (es ++ (next_begin p d (machine_in (moment_after p es) d) ++ Turns d ∷ []))
      go (inl e) = subst (λ (k : ℕ). Busy (es ++ (next_begin p k (machine_in (moment_after p es) k) ++ Turns k ∷ []))) e (own_turn es f b)
      go (inr n) = other_turn es d n b

  items_busy : (xs : List Item) → Each (IsScheduleItem p) xs → Busy (events_of p xs)
  items_busy xs items = by_items p plan Busy busy_step xs items (inl tt)

  -- ---- a caller that rests at the end is not stopped

  left_none : (m : CallState) (n : ℕ) → m.place ≡ Idle → is_spent m.answer ≡ false → begins_call m n ≡ false → n ≤ m.made
  left_none m n idle unspent none = go (nat_lt m.made n) refl (sym (λ i. is_idle (idle i) && (not (unspent i) && nat_lt m.made n)) ∙ none)
    where
      go : (b : Bool) → nat_lt m.made n ≡ b → nat_lt m.made n ≡ false → n ≤ m.made
      go true e q = let z : true ≡ false = sym e ∙ q in cc
      go false e q = grind (arith, nat_tests)

  done_state : (m : CallState) (n a : ℕ) → a ≡ n → end_state_of (ending_at m n a) ≡ done
  done_state m n a e = go (a == n) refl
    where
      go : (b : Bool) → (a == n) ≡ b → end_state_of (if b then Done else ending_if_left m.answer m.steps) ≡ done
      go true q = refl
      go false q = let z : a ≡ n → ⊥ = grind (arith, nat_tests) in absurd (z e)

  spent_state : (m : CallState) (n a q : ℕ) → m.answer ≡ Some (Spent q) → end_state_of (ending_at m n a) ≡ stopped → ⊥
  spent_state m n a q e = go (a == n)
    where
      go : (b : Bool) → end_state_of (if b then Done else ending_if_left m.answer m.steps) ≡ stopped → ⊥
      go true z = cc
      go false z = let y : spent ≡ stopped = sym (ap (λ (o : Option Outcome). end_state_of (ending_if_left o m.steps)) e) ∙ z in cc

  rest_ends : (xs : List Item) → Each (IsScheduleItem p) xs → Rests (moment_after p (events_of p xs)) → (answers : List Answer) → AreAnswers (outcomes (plan_setup p) (opening_for p) (events_of p xs) c) answers
      → end_state_of (ending_at (machine_in (moment_after p (events_of p xs)) c) (length (scripts_of p c)) (length answers)) ≡ stopped → ⊥
  rest_ends xs items r answers told = by_last (last_outcome outs) refl
    where
      m : CallState
      m = machine_in (moment_after p (events_of p xs)) c

      outs : List Outcome
      outs = outcomes (plan_setup p) (opening_for p) (events_of p xs) c

      calls : HasCalls (plan_setup p) (zero_start (plan_setup p)) 0 (moment_after p (events_of p xs)) c (operations_begun (events_of p xs) c) (outcomes (plan_setup p) (opening_for p) (events_of p xs) c)
      calls = calls_here p plan (events_of p xs) (items_are_schedule p plan xs items) c h

      holds : HoldsLast (moment_after p (events_of p xs)) c (outcomes (plan_setup p) (opening_for p) (events_of p xs) c)
      holds = last_here p plan (events_of p xs) (items_are_schedule p plan xs items) (items_stay p xs) c h

      -- a spent call is the last
      spent_last : (x s : ℕ) → x < length outs → get_or outs x no_outcome ≡ Spent s → last_outcome outs ≡ Some (Spent s)
      spent_last x s lt is =
          last_at outs None x (items_spent_last p plan xs (items_are_schedule p plan xs items) c h x s lt is ∙ sym (calls.idle r.0)) ∙ ap (λ (o : Outcome). Some o) is

      none_spent : is_spent (last_outcome outs) ≡ false → end_state_of (ending_at m (length (scripts_of p c)) (length answers)) ≡ stopped → ⊥
      none_spent unspent z =
          let same : length answers ≡ length outs = as_many outs answers told (λ x s lt is. let z : false ≡ true = sym unspent ∙ ap is_spent (spent_last x s lt is) in cc) in
          let most = left_none m (length (scripts_of p c)) r.0 (ap is_spent (holds r.0) ∙ unspent) r.1 in
          let begun = items_of_plan p plan xs items c h in
          let ops : length (operations_begun (events_of p xs) c) ≡ length (take begun.0 (scripts_of p c)) = ap length begun.2 ∙ length-map (take begun.0 (scripts_of p c)) operation_of in
          let few : length (take begun.0 (scripts_of p c)) ≤ length (scripts_of p c) = omega (arith, length-take begun.0 (scripts_of p c)) in
          let y : done ≡ stopped = sym (done_state m (length (scripts_of p c)) (length answers) (omega (arith, same, calls.idle r.0, calls.made, most, ops, few))) ∙ z in
          cc

      by_last : (o : Option Outcome) → last_outcome outs ≡ o → end_state_of (ending_at m (length (scripts_of p c)) (length answers)) ≡ stopped → ⊥
      by_last None is = none_spent (ap is_spent is)
      by_last (Some (Answered s announced raw steps)) is = none_spent (ap is_spent is)
      by_last (Some (Lost s)) is = none_spent (ap is_spent is)
      by_last (Some (Spent s)) is = spent_state m (length (scripts_of p c)) (length answers) s (holds r.0 ∙ is)

-- a caller that a schedule leaves stopped had a call open at each of its turns
pub stopped_never_idle : (p : Plan) → IsPlayable p → (xs : List Item) → Each (IsScheduleItem p) xs → (e : Ended) → IsLeftBy p (events_of p xs) e → (c : ℕ) → c < p.callers → end_state_of (ending_of e c) ≡ stopped → TurnsFindOpenCalls (plan_setup p) (opening_for p) (events_of p xs) c
stopped_never_idle p plan xs items e played c h state = elim (items_busy p plan c h xs items) [
  | inl k ↦ k
  | inr r ↦ absurd (rest_ends p plan c h xs items r (answers_of e c) (played.told c h) (ap end_state_of (sym (played.ended c h)) ∙ state))
]
