-- A team's run is a schedule.
use Rattle.std.proofs.Common.{◌≡◌, ◌==◌, ◌&&◌, not, nat_lt, ℕ, zero, suc, ◌+◌, ◌<◌, ◌≤◌, ◌⊎◌, inl, inr, Bool, true, false, if◌then◌else◌, List, [], ◌∷◌, ◌++◌, length, map, take, drop, get_or, set, Option, None, refl, sym, ap, ◌∙◌, subst, arith}
use Rattle.std.specs.List.{filter_map, flat_map, slice_index_or, AllByRecursion as Each}
use Rattle.std.proofs.lemmas.Bool.{eq-eqb}
use Rattle.std.proofs.lemmas.Bool.Decides.{nat_tests}
use Rattle.std.proofs.lemmas.List.{append_assoc, append-nil, length-append, length-map, map-append, get_or-take, get_or-drop}
use Rattle.of_script.specs.declared.instr.Instr.{Instr}
use Rattle.of_plan.specs.declared.answer.Answer.{Answer}
use Rattle.of_plan.specs.declared.answer.Ending.{Ending}
use Rattle.of_plan.specs.declared.answer.Ending.TheVariants.{Done, Stopped, Spent as RanOut}
use Rattle.of_plan.specs.declared.plan.Item.{Item}
use Rattle.of_plan.specs.declared.plan.Item.TheVariants.{Turns as Turns_of, Evict}
use Rattle.of_plan.specs.Plan.{Plan, IsScheduleItem, scripts_of}
use Rattle.of_plan.specs.Report.{Start, finished_of}
use Rattle.of_plan.specs.Legal.{scripts_left}
use Rattle.of_plan.specs.Ended.{Ended, answers_of, ending_of}
use Rattle.of_core.specs.declared.place.Outcome.{Outcome}
use Rattle.of_core.specs.declared.place.Outcome.TheVariants.{Answered, Spent, Lost}
use Rattle.of_core.specs.declared.place.Place.TheVariants.{Idle}
use Rattle.of_core.specs.Table.{Setup, words_before_members}
use Rattle.of_core.specs.Machine.{CallState, IsOpen, is_idle}
use Rattle.of_core.specs.TableMoment.{Moment, TableStart}
use Rattle.of_core.specs.Turn.{IsIdle}
use Rattle.of_core.specs.Events.{Event, Begins, Turns, Loads, Evicts, Raises, Revives, after_event, machine_in, after_events, IsSchedule, MayHappen, start_ticket}
use Rattle.of_core.specs.Calls.{HasCalls, TurnsFindOpenCalls, NoneSpent, if_so, last_outcome, operations_begun, outcomes}
use Rattle.of_core.proofs.Parts.{run_append, operations_append, outcomes_append, first_part, second_part}
use Rattle.of_row.specs.Views.{EndedCall, KnownCaller, View}
use Rattle.of_row.specs.Told.{operations_known, outcomes_of}
use Rattle.of_row.specs.Runs.{HasRun, RunsAreSchedules}
use Rattle.of_row.specs.Trail.{IsPrompt, IsToldBy, evictions}
use Rattle.of_row.proofs.Events.{prompt_replace_none}
use Rattle.of_caller.specs.Tables.{plan_setup, IsLawfulFor, opening_at, operation_of}
use Rattle.of_caller.specs.Ends.{AreAnswers, is_spent, ending_if_left, ending_at}
use Rattle.of_caller.proofs.RecordsOwn.{stopped_at, idle_or_open}
use Rattle.of_caller.specs.PlanLaws.{KeepsLaws}
use Rattle.of_caller.specs.Runs.{AreNextScripts}
use Rattle.of_caller.specs.Teams.{KeepsCaller, KeepsLastCall, IsTeamOf, TeamsAreScheduled}
use Rattle.of_caller.proofs.Schedules.{ticket_is}
use Rattle.of_caller.proofs.KeptCallers.{begun_idle, unspent}
use Rattle.of_caller.proofs.Teams.{ran, keeps, tells, told_by, calls_of, machine_is}
use Rattle.of_caller.specs.Scheduled.{item_events, begins_call, next_begin, with_begin, events_from, events_of_items, evicted_by, IsScheduled}

-- ---- the moves and the items of events

abbrev moves_of : List Event → List Event
moves_of [] = []
moves_of (Begins i op ∷ es) = moves_of es
moves_of (Turns i ∷ es) = Turns i ∷ moves_of es
moves_of (Loads c ∷ es) = moves_of es
moves_of (Evicts k ∷ es) = moves_of es
moves_of (Raises c ∷ es) = Raises c ∷ moves_of es
moves_of (Revives i made ∷ es) = moves_of es

abbrev items_of : List Event → List Item
items_of [] = []
items_of (Begins i op ∷ es) = items_of es
items_of (Turns i ∷ es) = Turns_of i 1 ∷ items_of es
items_of (Loads c ∷ es) = items_of es
items_of (Evicts k ∷ es) = items_of es
items_of (Raises c ∷ es) = Evict c ∷ items_of es
items_of (Revives i made ∷ es) = items_of es

items_move : (es : List Event) → flat_map item_events (items_of es) ≡ moves_of es
items_move [] = refl
items_move (Begins i op ∷ es) = items_move es
items_move (Turns i ∷ es) = ap (λ (fs : List Event). Turns i ∷ fs) (items_move es)
items_move (Loads c ∷ es) = items_move es
items_move (Evicts k ∷ es) = items_move es
items_move (Raises c ∷ es) = ap (λ (fs : List Event). Raises c ∷ fs) (items_move es)
items_move (Revives i made ∷ es) = items_move es

items_evict : (es : List Event) → filter_map evicted_by (items_of es) ≡ evictions es
items_evict [] = refl
items_evict (Begins i op ∷ es) = items_evict es
items_evict (Turns i ∷ es) = items_evict es
items_evict (Loads c ∷ es) = items_evict es
items_evict (Evicts k ∷ es) = items_evict es
items_evict (Raises c ∷ es) = ap (λ (cs : List ℕ). c ∷ cs) (items_evict es)
items_evict (Revives i made ∷ es) = items_evict es

module _ (p : Plan) where
  abbrev S : Setup
  S = plan_setup p

  items_range : (w : Moment) (es : List Event) → IsSchedule S w es → Each (IsScheduleItem p) (items_of es)
  items_range w [] s = tt
  items_range w (Begins i op ∷ es) s = items_range (after_event S w (Begins i op)) es s.1
  items_range w (Turns i ∷ es) s = ((s.0, omega arith), items_range (after_event S w (Turns i)) es s.1)
  items_range w (Loads c ∷ es) s = items_range (after_event S w (Loads c)) es s.1
  items_range w (Evicts k ∷ es) s = items_range (after_event S w (Evicts k)) es s.1
  items_range w (Raises c ∷ es) s = (s.0, items_range (after_event S w (Raises c)) es s.1)
  items_range w (Revives i made ∷ es) s = items_range (after_event S w (Revives i made)) es s.1

  -- each begin is that of its caller's next call
  abbrev IsNextCall : Moment → ℕ → List ℕ → Type 0
  IsNextCall w i op = (begins_call (machine_in w i) (length (scripts_of p i)) ≡ true) × (operation_of (slice_index_or (scripts_of p i) (machine_in w i).made []) ≡ op)

  abbrev BeginsNext : Moment → List Event → Type 0
  BeginsNext w [] = Unit {0}
  BeginsNext w (Begins i op ∷ es) = IsNextCall w i op × BeginsNext (after_event S w (Begins i op)) es
  BeginsNext w (Turns i ∷ es) = BeginsNext (after_event S w (Turns i)) es
  BeginsNext w (Loads c ∷ es) = BeginsNext (after_event S w (Loads c)) es
  BeginsNext w (Evicts k ∷ es) = BeginsNext (after_event S w (Evicts k)) es
  BeginsNext w (Raises c ∷ es) = BeginsNext (after_event S w (Raises c)) es
  BeginsNext w (Revives i made ∷ es) = BeginsNext (after_event S w (Revives i made)) es

  next_is : (w : Moment) (i : ℕ) (op : List ℕ) → IsNextCall w i op → next_begin p i (machine_in w i) ≡ Begins i op ∷ []
  next_is w i op n = ap (λ (b : Bool). if b then Begins i (operation_of (slice_index_or (scripts_of p i) (machine_in w i).made [])) ∷ [] else []) n.0 ∙ ap (λ (z : List ℕ). Begins i z ∷ []) n.1

  none_next : (m : CallState) (i : ℕ) → IsOpen m.place → next_begin p i m ≡ []
  none_next m i o = ap (λ (b : Bool). if b && (not (is_spent m.answer) && nat_lt m.made (length (scripts_of p i))) then Begins i (operation_of (slice_index_or (scripts_of p i) m.made [])) ∷ [] else []) o

  -- so the events are those of their moves
  same_events : (w : Moment) (es : List Event) → IsSchedule S w es → IsPrompt es → ((i : ℕ) → i < p.callers → TurnsFindOpenCalls S w es i) → BeginsNext w es → es ≡ events_from p w (moves_of es)
  same_events w [] s pr busy next = refl
  same_events w (Begins i op ∷ []) s pr busy next = absurd pr.0
  same_events w (Begins i op ∷ Begins j o ∷ es) s pr busy next = absurd pr.0
  same_events w (Begins i op ∷ Loads c ∷ es) s pr busy next = absurd pr.0
  same_events w (Begins i op ∷ Evicts k ∷ es) s pr busy next = absurd pr.0
  same_events w (Begins i op ∷ Raises c ∷ es) s pr busy next = absurd pr.0
  same_events w (Begins i op ∷ Revives j made ∷ es) s pr busy next = absurd pr.0
  same_events w (Begins i op ∷ Turns j ∷ es) s pr busy next =
      let e : i ≡ j = sym pr.0 in
      let one : next_begin p j (machine_in w j) ≡ Begins i op ∷ [] = subst (λ (k : ℕ). next_begin p k (machine_in w k) ≡ Begins i op ∷ []) e (next_is w i op next.0) in
      let with : with_begin p w (Turns j) ≡ Begins i op ∷ Turns j ∷ [] = ap (λ (fs : List Event). fs ++ Turns j ∷ []) one in
      let more = same_events (after_event S (after_event S w (Begins i op)) (Turns j)) es s.1.1 pr.1 (λ k l. (busy k l).1.1) next.1 in
      ap (λ (fs : List Event). Begins i op ∷ Turns j ∷ fs) more ∙ sym (ap (λ (fs : List Event). fs ++ events_from p (after_events S w fs) (moves_of es)) with)
  same_events w (Turns i ∷ es) s pr busy next =
      let with : with_begin p w (Turns i) ≡ Turns i ∷ [] = ap (λ (fs : List Event). fs ++ Turns i ∷ []) (none_next (machine_in w i) i ((busy i s.0).0 refl)) in
      let more = same_events (after_event S w (Turns i)) es s.1 pr (λ k l. (busy k l).1) next in
      ap (λ (fs : List Event). Turns i ∷ fs) more ∙ sym (ap (λ (fs : List Event). fs ++ events_from p (after_events S w fs) (moves_of es)) with)
  same_events w (Loads c ∷ es) s pr busy next = absurd pr
  same_events w (Evicts k ∷ es) s pr busy next = absurd pr
  same_events w (Revives i made ∷ es) s pr busy next = absurd pr
  same_events w (Raises c ∷ es) s pr busy next = ap (λ (fs : List Event). Raises c ∷ fs) (same_events (after_event S w (Raises c)) es s.1 pr (λ k l. (busy k l).1) next)

-- ---- lists of outcomes and operations

none_front : (xs ys zs us : List Outcome) → xs ++ ys ≡ zs ++ us → length xs ≤ length zs → NoneSpent zs → NoneSpent xs
none_front [] ys zs us e l n = tt
none_front (x ∷ xs) ys [] us e l n = absurd (omega (arith, l))
none_front (Answered t q r k ∷ xs) ys (a ∷ zs) us e l n = (tt, none_front xs ys zs us (tail_is e) (omega (arith, l)) n.1)
  where
    tail_is : Answered t q r k ∷ (xs ++ ys) ≡ a ∷ (zs ++ us) → xs ++ ys ≡ zs ++ us
    tail_is e = cc
none_front (Spent t ∷ xs) ys (a ∷ zs) us e l n = let same : Spent t ≡ a = cc in absurd (subst (λ (o : Outcome). NoneSpent (o ∷ zs)) (sym same) n).0
none_front (Lost t ∷ xs) ys (a ∷ zs) us e l n = let same : Lost t ≡ a = cc in absurd (subst (λ (o : Outcome). NoneSpent (o ∷ zs)) (sym same) n).0

at_map : (scripts : List (List Instr)) (k : ℕ) → k < length scripts → get_or (map operation_of scripts) k [] ≡ operation_of (get_or scripts k [])
at_map [] k l = absurd (omega (arith, l))
at_map (x ∷ xs) zero l = refl
at_map (x ∷ xs) (suc k) l = at_map xs k (omega (arith, l))

length_take : {A : Type 0} (n : ℕ) (xs : List A) → length (take n xs) ≤ n
length_take zero [] = omega arith
length_take zero (x ∷ xs) = omega arith
length_take (suc n) [] = omega arith
length_take (suc n) (x ∷ xs) = omega (arith, length_take n xs)

front_at : (xs ys : List (List ℕ)) (z : List ℕ) (zs : List (List ℕ)) → xs ++ z ∷ zs ≡ ys → (length xs < length ys) × (get_or ys (length xs) [] ≡ z)
front_at [] ys z zs e = subst (λ (l : List (List ℕ)). (0 < length l) × (get_or l 0 [] ≡ z)) e (omega arith, refl)
front_at (x ∷ xs) ys z zs e = subst (λ (l : List (List ℕ)). (length (x ∷ xs) < length l) × (get_or l (length (x ∷ xs)) [] ≡ z)) e (let q = front_at xs (xs ++ z ∷ zs) z zs refl in (omega (arith, q.0), q.1))

-- ---- a caller that is kept as its answers and its ending tell

module _ (p : Plan) (behind c : ℕ) (answers : List Answer) (ending : Ending) (x : KnownCaller) (k : KeepsCaller p behind c answers ending x) where
  abbrev calls_outs : List Outcome
  calls_outs = map (λ (e : EndedCall). e.outcome) k.calls

  abbrev beyond_outs : List Outcome
  beyond_outs = map (λ (e : EndedCall). e.outcome) k.beyond

  -- a call behind so many outcomes was begun: then they are answered
  few_then : (n : ℕ) → n < length (operations_known x) → n ≤ length (outcomes_of x) → n ≤ length calls_outs
  few_then n l u = by_ending ending k.last
    where
      many : length (outcomes_of x) ≡ length k.calls + length k.beyond
      many = length-map x.ended (λ (e : EndedCall). e.outcome) ∙ (ap length k.ended ∙ length-append k.calls k.beyond)

      these : length calls_outs ≡ length k.calls
      these = length-map k.calls (λ (e : EndedCall). e.outcome)

      no_beyond : k.beyond ≡ [] → n ≤ length calls_outs
      no_beyond none = omega (arith, many, these, ap length none, u)

      by_ending : (e : Ending) → KeepsLastCall p c (behind + length answers) (length (scripts_of p c)) x.machine k.beyond e → n ≤ length calls_outs
      by_ending Done q = no_beyond q.2
      by_ending (Stopped asked) q = no_beyond q.2
      by_ending (RanOut s) q =
          let begun : length (operations_known x) ≡ length k.calls + length k.beyond = ap length (begun_idle x q.1) ∙ (length-map x.ended (λ (e : EndedCall). e.op) ∙ (ap length k.ended ∙ length-append k.calls k.beyond)) in
          omega (arith, begun, these, ap length q.2, l)

  none_spent_before : (xs ys : List Outcome) → xs ++ ys ≡ outcomes_of x → length xs < length (operations_known x) → NoneSpent xs
  none_spent_before xs ys e l =
      let all : xs ++ ys ≡ calls_outs ++ beyond_outs = e ∙ (ap (map (λ (e : EndedCall). e.outcome)) k.ended ∙ map-append (λ (e : EndedCall). e.outcome) k.calls k.beyond) in
      none_front xs ys calls_outs beyond_outs all (few_then (length xs) l (omega (arith, ap length e, length-append xs ys))) k.answered.none_spent

  -- an open call stands behind no spent one
  pub open_unspent : IsOpen x.machine.place → NoneSpent (outcomes_of x)
  open_unspent o = by_ending ending k.last
    where
      closed : IsIdle x.machine → ⊥
      closed idle = let z : true ≡ false = sym (ap is_idle idle) ∙ o in cc

      by_ending : (e : Ending) → KeepsLastCall p c (behind + length answers) (length (scripts_of p c)) x.machine k.beyond e → NoneSpent (outcomes_of x)
      by_ending Done q = absurd (closed q.1)
      by_ending (Stopped asked) q = subst NoneSpent (ap (map (λ (e : EndedCall). e.outcome)) (sym (k.ended ∙ (ap (λ (l : List EndedCall). k.calls ++ l) q.2 ∙ append-nil k.calls)))) k.answered.none_spent
      by_ending (RanOut n) q = absurd (closed q.1)

-- ---- a team

module _ (p : Plan) (laws : KeepsLaws p) (runs : RunsAreSchedules (IsLawfulFor p) (plan_setup p)) (s : Start) (B : TableStart) (e : Ended) (v : View) (t : IsTeamOf p s B e v) where
  abbrev T : Setup
  T = plan_setup p

  abbrev O : Moment
  O = opening_at p B

  abbrev es : List Event
  es = (ran p laws runs s B e v t).0

  h : HasRun T (IsLawfulFor p) B e.words v es
  h = (ran p laws runs s B e v t).1

  -- what is kept of a caller
  abbrev kept : (c : ℕ) → c < p.callers → KnownCaller
  kept c lt = (keeps p laws runs s B e v t c lt).0

  told : (c : ℕ) (lt : c < p.callers) → IsToldBy T B es c (kept c lt)
  told c lt = told_by p laws runs s B e v t c lt

  -- the begin of a call, after the events before it
  begins_so : (done : List Event) (i : ℕ) (op : List ℕ) (rest : List Event) → es ≡ done ++ Begins i op ∷ rest → MayHappen T (after_events T O done) (Begins i op) → IsNextCall p (after_events T O done) i op
  begins_so done i op rest is may = (
    ap (λ (b : Bool). b && (not (is_spent m.answer) && nat_lt m.made (length (scripts_of p i)))) (ap is_idle may.1)
        ∙ (ap (λ (b : Bool). not b && nat_lt m.made (length (scripts_of p i))) not_spent ∙ left_over),
    script,
  )
    where
      w : Moment
      w = after_events T O done

      m : CallState
      m = machine_in w i

      behind : ℕ
      behind = finished_of s i

      first : IsSchedule T O done
      first = first_part T O done (Begins i op ∷ rest) (subst (IsSchedule T O) is h.schedule)

      calls : HasCalls T B (start_ticket T B i) w i (operations_begun done i) (outcomes T O done i)
      calls = laws.calls B h.from (words_before_members T + 1) (omega arith) done first i may.0

      ops : operations_begun done i ++ op ∷ operations_begun rest i ≡ operations_known (kept i may.0)
      ops = ap (λ (z : List (List ℕ)). operations_begun done i ++ z) (ap (λ (b : Bool). if_so b (op ∷ []) ++ operations_begun rest i) (sym (eq-eqb i i refl))) ∙ (sym (operations_append done (Begins i op ∷ rest) i) ∙ (ap (λ (fs : List Event). operations_begun fs i) (sym is) ∙ sym (told i may.0).begun))

      outs : outcomes T O done i ++ outcomes T w (Begins i op ∷ rest) i ≡ outcomes_of (kept i may.0)
      outs = sym (outcomes_append T O done (Begins i op ∷ rest) i) ∙ (ap (λ (fs : List Event). outcomes T O fs i) (sym is) ∙ sym (told i may.0).ended)

      at : (length (operations_begun done i) < length (operations_known (kept i may.0))) × (get_or (operations_known (kept i may.0)) (length (operations_begun done i)) [] ≡ op)
      at = front_at (operations_begun done i) (operations_known (kept i may.0)) op (operations_begun rest i) ops

      all_ended : length (outcomes T O done i) ≡ length (operations_begun done i)
      all_ended = calls.idle may.1

      unspent_so : NoneSpent (outcomes T O done i)
      unspent_so = none_spent_before p behind i (answers_of e i) (ending_of e i) (kept i may.0) (keeps p laws runs s B e v t i may.0).2 (outcomes T O done i) (outcomes T w (Begins i op ∷ rest) i) outs (omega (arith, at.0, all_ended))

      not_spent : is_spent m.answer ≡ false
      not_spent = elim (calls.last may.1) [
        | inl none ↦ ap is_spent none
        | inr last ↦ ap is_spent last ∙ unspent (outcomes T O done i) None refl unspent_so
      ]

      next : AreNextScripts p behind i (operations_known (kept i may.0))
      next = (tells p laws runs s B e v t i may.0).scripts

      few : length (operations_begun done i) < length (take next.count (drop behind (scripts_of p i)))
      few = omega (arith, at.0, ap length next.are, length-map (take next.count (drop behind (scripts_of p i))) operation_of)

      made : m.made ≡ behind + length (operations_begun done i)
      made = calls.made ∙ ap (λ (z : ℕ). z + length (operations_begun done i)) (ticket_is p s B t.starts i may.0)

      left_over : nat_lt m.made (length (scripts_of p i)) ≡ true
      left_over = let l : m.made < length (scripts_of p i) = omega (arith, made, few, length_take next.count (drop behind (scripts_of p i)), next.few) in grind (arith, nat_tests)

      script : operation_of (slice_index_or (scripts_of p i) m.made []) ≡ op
      script =
          let n : ℕ = length (operations_begun done i) in
          let below : n < next.count = omega (arith, few, length_take next.count (drop behind (scripts_of p i))) in
          let one : get_or (take next.count (drop behind (scripts_of p i))) n [] ≡ get_or (scripts_of p i) (behind + n) [] = get_or-take next.count (drop behind (scripts_of p i)) n [] below ∙ get_or-drop behind (scripts_of p i) n [] in
          ap (λ (k : ℕ). operation_of (get_or (scripts_of p i) k [])) made
          ∙ (ap operation_of (sym one) ∙ (sym (at_map (take next.count (drop behind (scripts_of p i))) n few) ∙ (ap (λ (l : List (List ℕ)). get_or l n []) (sym next.are) ∙ at.1)))

  next_so : (done rest : List Event) → es ≡ done ++ rest → BeginsNext p (after_events T O done) rest
  next_so done [] is = tt
  next_so done (f ∷ rest) is = go f refl (next_so (done ++ f ∷ []) rest (is ∙ sym (append_assoc done (f ∷ []) rest)))
    where
      w : Moment
      w = after_events T O done

      may : MayHappen T w f
      may = (second_part T O done (f ∷ rest) (subst (IsSchedule T O) is h.schedule)).0

      further : BeginsNext p (after_events T O (done ++ f ∷ [])) rest → BeginsNext p (after_event T w f) rest
      further = subst (λ (z : Moment). BeginsNext p z rest) (run_append T O done (f ∷ []))

      go : (g : Event) → f ≡ g → BeginsNext p (after_events T O (done ++ f ∷ [])) rest → BeginsNext p w (f ∷ rest)
      go (Begins i op) q m = subst (λ (z : Event). BeginsNext p w (z ∷ rest)) (sym q) (begins_so done i op rest (is ∙ ap (λ (z : Event). done ++ z ∷ rest) q) (subst (MayHappen T w) q may), subst (λ (z : Event). BeginsNext p (after_event T w z) rest) q (further m))
      go (Turns i) q m = subst (λ (z : Event). BeginsNext p w (z ∷ rest)) (sym q) (subst (λ (z : Event). BeginsNext p (after_event T w z) rest) q (further m))
      go (Loads a) q m = subst (λ (z : Event). BeginsNext p w (z ∷ rest)) (sym q) (subst (λ (z : Event). BeginsNext p (after_event T w z) rest) q (further m))
      go (Evicts k) q m = subst (λ (z : Event). BeginsNext p w (z ∷ rest)) (sym q) (subst (λ (z : Event). BeginsNext p (after_event T w z) rest) q (further m))
      go (Raises a) q m = subst (λ (z : Event). BeginsNext p w (z ∷ rest)) (sym q) (subst (λ (z : Event). BeginsNext p (after_event T w z) rest) q (further m))
      go (Revives i made) q m = subst (λ (z : Event). BeginsNext p w (z ∷ rest)) (sym q) (subst (λ (z : Event). BeginsNext p (after_event T w z) rest) q (further m))

  abbrev items : List Item
  items = items_of es

  -- the events are those of the plan's callers with these items
  same : es ≡ events_of_items p B items
  same = same_events p O es h.schedule h.prompt (λ i l. (told i l).busy (keeps p laws runs s B e v t i l).2.unlost) (next_so [] es refl) ∙ ap (events_from p O) (sym (items_move es))

  -- what the team has left, and the events that have led there
  pub team_scheduled : (xs : List Item) × IsScheduled p s B xs e × ((ran p laws runs s B e v t).0 ≡ events_of_items p B xs)
  team_scheduled = (
    items,
    record {
      items_in = items_range p O es h.schedule;
      evicted = items_evict es ∙ (sym h.evicted ∙ t.evicted);
      words = subst (λ (fs : List Event). set e.words (words_before_members T) 0 ≡ (after_events T O fs).words) same h.words;
      answers = t.answers;
      endings = t.endings;
      told = λ c l. subst (λ (fs : List Event). AreAnswers (outcomes T O fs c) (answers_of e c)) same (subst (λ (os : List Outcome). AreAnswers os (answers_of e c)) (told c l).ended (tells p laws runs s B e v t c l).told);
      ended = λ c l. subst (λ (fs : List Event). ending_of e c ≡ ending_at (machine_in (after_events T O fs) c) (scripts_left p s c) (length (answers_of e c))) same
          ((tells p laws runs s B e v t c l).ended
          ∙ (ap (λ (o : Ending). if length (answers_of e c) == scripts_left p s c then Done else o) (halted_so c l (idle_or_open (kept c l).machine.place)) ∙ ap (λ (m : CallState). ending_at m (scripts_left p s c) (length (answers_of e c))) (sym (machine_is p laws runs s B e v t c l))));
    },
    same,
  )
    where
      -- a machine holds the last outcome, or its open call stands behind no spent one
      halted_so : (c : ℕ) (l : c < p.callers) → ((kept c l).machine.place ≡ Idle) ⊎ IsOpen (kept c l).machine.place → ending_if_left (last_outcome (outcomes_of (kept c l))) (kept c l).machine.steps ≡ ending_if_left (kept c l).machine.answer (kept c l).machine.steps
      halted_so c l (inl idle) =
          let m = machine_is p laws runs s B e v t c l in
          let last = laws.last B h.from (words_before_members T + 1) (omega arith) es h.schedule (prompt_replace_none es h.prompt) c l in
          ap (λ (o : Option Outcome). ending_if_left o (kept c l).machine.steps) (ap last_outcome (told c l).ended ∙ (sym (last (ap (λ (d : CallState). d.place) m ∙ idle)) ∙ ap (λ (d : CallState). d.answer) m))
      halted_so c l (inr o) =
          let m = machine_is p laws runs s B e v t c l in
          let q = calls_of p laws runs s B e v t c l in
          let none : (kept c l).machine.answer ≡ None = ap (λ (d : CallState). d.answer) (sym m) ∙ q.unanswered (subst (λ (d : CallState). IsOpen d.place) (sym m) o) in
          stopped_at (last_outcome (outcomes_of (kept c l))) (kept c l).machine.steps (unspent (outcomes_of (kept c l)) None refl (open_unspent p (finished_of s c) c (answers_of e c) (ending_of e c) (kept c l) (keeps p laws runs s B e v t c l).2 o))
          ∙ ap (λ (a : Option Outcome). ending_if_left a (kept c l).machine.steps) (sym none)

pub teams_are_scheduled : (p : Plan) → KeepsLaws p → RunsAreSchedules (IsLawfulFor p) (plan_setup p) → TeamsAreScheduled p
teams_are_scheduled p laws runs s B e v t = let q = team_scheduled p laws runs s B e v t in (q.0, q.1)
