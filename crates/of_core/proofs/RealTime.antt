-- What two moments of a schedule say of the calls between them: one that has ended at the first is
-- in no batch that is committed later, and one that hasn't begun is in none that stands.
use Rattle.std.proofs.Common.{◌≡◌, ℕ, suc, ◌+◌, ◌-◌, ◌<◌, ◌≤◌, ◌⊎◌, ◌==◌, inl, inr, List, [], ◌∷◌, ◌++◌, length, take, get_or, refl, sym, ◌∙◌, ap, subst, arith, Bool, true, false}
use Rattle.std.proofs.lemmas.Bool.{cases_lt, cases_eq, ne_eqb}
use Rattle.std.proofs.lemmas.List.{append_assoc, append-nil, length-append, get_or_append_left, get_or-append_right}
use Rattle.of_mem.specs.Meaning.{IsSoundMeaning}
use Rattle.of_core.specs.declared.place.Outcome.{Outcome}
use Rattle.of_core.specs.declared.place.Outcome.TheVariants.{Answered, Spent, Lost}
use Rattle.of_core.specs.Table.{Setup, first_operation_cell, durable_seq}
use Rattle.of_core.specs.Machine.{Call, no_call}
use Rattle.of_core.specs.TableMoment.{Moment, TableStart, Batch, Read}
use Rattle.of_core.specs.History.{batch_at}
use Rattle.of_core.specs.Order.{no_read}
use Rattle.of_core.specs.Invariant.{MeetsInvariant}
use Rattle.of_core.specs.Events.{Event, Begins, Turns, Loads, Evicts, Raises, Revives, after_event, after_events, machine_in, MayHappen, IsSchedule, start_ticket}
use Rattle.of_core.specs.Turn.{IsIdle}
use Rattle.of_core.proofs.Happenings.{event_good}
use Rattle.of_core.proofs.CallEvents.{calls_kept}
use Rattle.of_core.specs.Calls.{if_so, operation_begun, outcome_of_event, operations_begun, outcomes, no_outcome, outcome_seq, IsNotBefore, OutcomeStands, HasCalls}
use Rattle.of_core.proofs.Tickets.{tickets_rise}
use Rattle.of_core.proofs.Moments.{run_good}
use Rattle.of_core.proofs.Calls.{stood_low, fewer_outs}
use Rattle.of_core.proofs.CallSteps.{reached, few}
use Rattle.of_core.proofs.EveryCall.{run_calls}
use Rattle.of_core.proofs.Parts.{run_append, operations_append, outcomes_append, first_part, second_part, GoesOn, goes_on, batch_stands, read_stands}
use Rattle.of_core.proofs.Lost.{EndsLate, ends_late_run}
use Rattle.of_core.specs.Commits.{IsSince}

beyond_lower : (a b : ℕ) → a ≤ b → (o : Outcome) → IsNotBefore b o → IsNotBefore a o
beyond_lower a b l (Answered s true raw steps) h = omega (arith, h, l)
beyond_lower a b l (Answered s false raw steps) h = omega (arith, h, l)
beyond_lower a b l (Spent s) h = omega (arith, h, l)
beyond_lower a b l (Lost s) h = omega (arith, h, l)

is_since : (S : Setup) (from : ℕ) (op : List ℕ) (o : Outcome) → IsNotBefore from o → EndsLate S from op o → IsSince S from op o
is_since S from op (Answered s true raw steps) b l = (b, l)
is_since S from op (Answered s false raw steps) b l = b
is_since S from op (Spent s) b l = (b, l)
is_since S from op (Lost s) b l = b

module _ (S : Setup) (Lawful : List ℕ → Type 0) (sound : IsSoundMeaning S.meaning Lawful (first_operation_cell S) S.cells) (B : TableStart) (first : Moment) (good_first : MeetsInvariant S Lawful B first)
    (none : (i : ℕ) → i < S.callers → HasCalls S B (start_ticket S B i) first i [] []) (es : List Event) (schedule : IsSchedule S first es) where
  -- the last moment
  abbrev pub last_world : Moment
  last_world = after_events S first es

  pub good_last : MeetsInvariant S Lawful B last_world
  good_last = run_good S Lawful sound B es first good_first schedule

  pub last_calls : (i : ℕ) → i < S.callers → HasCalls S B (start_ticket S B i) last_world i (operations_begun es i) (outcomes S first es i)
  last_calls i member = run_calls S Lawful sound B i member es first good_first schedule (start_ticket S B i) [] [] (none i member)

  -- and one between
  module _ (us vs : List Event) (is : us ++ vs ≡ es) where
    abbrev between : Moment
    between = after_events S first us

    whole : IsSchedule S first (us ++ vs)
    whole = subst (IsSchedule S first) (sym is) schedule

    good_between : MeetsInvariant S Lawful B between
    good_between = run_good S Lawful sound B us first good_first (first_part S first us vs whole)

    rest : IsSchedule S between vs
    rest = second_part S first us vs whole

    further : GoesOn between last_world
    further = subst (GoesOn between) (sym (run_append S first us vs) ∙ ap (after_events S first) is) (goes_on S between vs)

    calls_between : (i : ℕ) → i < S.callers → HasCalls S B (start_ticket S B i) between i (operations_begun us i) (outcomes S first us i)
    calls_between i member = run_calls S Lawful sound B i member us first good_first (first_part S first us vs whole) (start_ticket S B i) [] [] (none i member)

    abbrev ended : ℕ → ℕ → Outcome
    ended i x = get_or (outcomes S first us i) x no_outcome

    outcomes_are : (i : ℕ) → outcomes S first es i ≡ outcomes S first us i ++ outcomes S between vs i
    outcomes_are i = ap (λ (xs : List Event). outcomes S first xs i) (sym is) ∙ outcomes_append S first us vs i

    -- how a call has ended stays
    pub still : (i x : ℕ) → x < length (outcomes S first us i) → get_or (outcomes S first es i) x no_outcome ≡ ended i x
    still i x l = ap (λ (os : List Outcome). get_or os x no_outcome) (outcomes_are i) ∙ get_or_append_left (outcomes S first us i) (outcomes S between vs i) no_outcome x l

    -- an outcome after it is one of the rest
    outcome_is : (j y : ℕ) → length (outcomes S first us j) ≤ y → get_or (outcomes S between vs j) (y - length (outcomes S first us j)) no_outcome ≡ get_or (outcomes S first es j) y no_outcome
    outcome_is j y l = sym (get_or-append_right (outcomes S first us j) (outcomes S between vs j) (length (outcomes S first us j)) y no_outcome refl l) ∙ ap (λ (os : List Outcome). get_or os y no_outcome) (sym (outcomes_are j))

    inside : (j y : ℕ) → length (outcomes S first us j) ≤ y → y < length (outcomes S first es j) → y - length (outcomes S first us j) < length (outcomes S between vs j)
    inside j y l u = omega (arith, l, u, ap length (outcomes_are j), length-append (outcomes S first us j) (outcomes S between vs j))

    abbrev Was : ℕ → ℕ → Outcome → Type 0
    Was i x o = OutcomeStands S B between i (start_ticket S B i + x + 1) (get_or (operations_begun us i) x []) o

    stood : (i x : ℕ) → i < S.callers → x < length (outcomes S first us i) → Was i x (ended i x)
    stood i x member l = (calls_between i member).each x l

    -- at no sequence above the last one
    pub ended_low : (i x : ℕ) → i < S.callers → x < length (outcomes S first us i) → outcome_seq (ended i x) ≤ B.seq + length between.batches
    ended_low i x member l = stood_low S B between i (start_ticket S B i + x + 1) (get_or (operations_begun us i) x []) (ended i x) (reached S Lawful B between good_between) (stood i x member l)

    pub durable_between : durable_seq S between.words ≤ B.seq + length between.batches
    durable_between = reached S Lawful B between good_between

    pub limit_between : durable_seq S between.words ≤ S.limit
    limit_between = omega (arith, durable_between, few S Lawful B between good_between)

    -- the call y of batch k
    abbrev call : ℕ → ℕ → Call → Call
    call k y d = get_or (batch_at B last_world.batches k).calls y d

    in_range : (k y : ℕ) (d : Call) → B.seq < k → k ≤ B.seq + length last_world.batches → y < length (batch_at B last_world.batches k).calls → (call k y d).caller < S.callers
    in_range k y d l u v = (good_last.core.shared.stands.now k l u y d v).0

    -- one that hasn't begun is in a later batch
    pub late_call : (k y : ℕ) (d : Call) → B.seq < k → k ≤ B.seq + length last_world.batches → y < length (batch_at B last_world.batches k).calls
        → start_ticket S B (call k y d).caller + length (operations_begun us (call k y d).caller) < (call k y d).ticket → B.seq + length between.batches < k
    late_call k y d l u v not_begun = go (cases_lt (B.seq + length between.batches) k)
      where
        i : ℕ
        i = (call k y d).caller

        go : (B.seq + length between.batches < k) ⊎ (k ≤ B.seq + length between.batches) → B.seq + length between.batches < k
        go (inl a) = a
        go (inr a) =
            let same : batch_at B last_world.batches k ≡ batch_at B between.batches k = batch_stands B between last_world further k l a in
            let all = (calls_between i (in_range k y d l u v)).calls k l a in
            let here = (subst (λ (b : Batch). (z : ℕ) (c : Call) → z < length b.calls → (get_or b.calls z c).caller ≡ i → (start_ticket S B i < (get_or b.calls z c).ticket) × ((get_or b.calls z c).ticket ≤ start_ticket S B i + length (operations_begun us i)) × ((get_or b.calls z c).op ≡ get_or (operations_begun us i) ((get_or b.calls z c).ticket - start_ticket S B i - 1) [])) (sym same) all) y d v refl in
            absurd (omega (arith, here.1, not_begun))

    -- one that has ended is in none after the last one
    pub ended_call : (k y : ℕ) (d : Call) → B.seq < k → k ≤ B.seq + length last_world.batches → y < length (batch_at B last_world.batches k).calls
        → (call k y d).ticket ≤ start_ticket S B (call k y d).caller + length (outcomes S first us (call k y d).caller) → k ≤ B.seq + length between.batches
    ended_call k y d l u v has_ended = go (ended i x) (subst (OutcomeStands S B last_world i t (get_or (operations_begun es i) x [])) (still i x x_in) ((last_calls i member).each x (omega (arith, x_in, ap length (outcomes_are i), length-append (outcomes S first us i) (outcomes S between vs i))))) (ended_low i x member x_in)
      where
        i : ℕ
        i = (call k y d).caller

        member : i < S.callers
        member = in_range k y d l u v

        from : start_ticket S B i < (call k y d).ticket
        from = ((last_calls i member).calls k l u y d v refl).0

        x : ℕ
        x = (call k y d).ticket - start_ticket S B i - 1

        t : ℕ
        t = start_ticket S B i + x + 1

        t_is : t ≡ (call k y d).ticket
        t_is = omega (arith, from)

        x_in : x < length (outcomes S first us i)
        x_in = omega (arith, from, has_ended)

        go : (o : Outcome) → OutcomeStands S B last_world i t (get_or (operations_begun es i) x []) o → outcome_seq o ≤ B.seq + length between.batches → k ≤ B.seq + length between.batches
        go (Answered s true raw steps) h low = at (cases_lt s k)
          where
            at : (s < k) ⊎ (k ≤ s) → k ≤ B.seq + length between.batches
            at (inl a) = absurd (omega (arith, tickets_rise S Lawful B last_world.batches good_last.core.shared.stands s k h.0 a u h.2.place no_call h.2.among y d v (sym h.2.caller), h.2.ticket, t_is))
            at (inr a) = omega (arith, a, low)
        go (Answered s false raw steps) h low = at (good_last.order.ordered.apart k l u y d v h.1.0 no_read h.1.1 (sym (ap (λ (r : Read). r.caller) h.1.2)))
          where
            same : (get_or last_world.reads h.1.0 no_read).ticket ≡ t
            same = ap (λ (r : Read). r.ticket) h.1.2

            at : (((call k y d).ticket < (get_or last_world.reads h.1.0 no_read).ticket) × (k ≤ (get_or last_world.reads h.1.0 no_read).seq)) ⊎ (((get_or last_world.reads h.1.0 no_read).ticket < (call k y d).ticket) × ((get_or last_world.reads h.1.0 no_read).seq < k)) → k ≤ B.seq + length between.batches
            at (inl a) = absurd (omega (arith, a.0, same, t_is))
            at (inr a) = absurd (omega (arith, a.0, same, t_is))
        go (Spent s) h low = absurd (omega (arith, h.2 k l u y d v refl, t_is))
        go (Lost s) h low = omega (arith, (h.1 k l u y d v refl).0 (omega (arith, t_is)), low)

    -- the read a
    abbrev read : ℕ → Read
    read a = get_or last_world.reads a no_read

    reader : (a : ℕ) → a < length last_world.reads → (read a).caller < S.callers
    reader a l = (good_last.order.ordered.reads a no_read l).caller

    -- one whose call hasn't begun is of no older state
    pub late_read : (a : ℕ) → a < length last_world.reads → start_ticket S B (read a).caller + length (operations_begun us (read a).caller) < (read a).ticket → B.seq + length between.batches ≤ (read a).seq
    late_read a l not_begun = subst (EndsLate S (B.seq + length between.batches) (get_or (operations_begun us i ++ operations_begun vs i) (length (outcomes S first us i) + y) [])) is_it (ends_late_run S Lawful sound B i member (B.seq + length between.batches) (omega arith) vs between good_between rest (omega arith) (start_ticket S B i) (operations_begun us i) (outcomes S first us i) (calls_between i member)
        (length (operations_begun us i)) (λ q. absurd (omega (arith, q))) y (omega (arith, begun, below)) inside)
      where
        i : ℕ
        i = (read a).caller

        member : i < S.callers
        member = reader a l

        x : ℕ
        x = ((last_calls i member).reads a no_read l refl).0

        begun : length (operations_begun us i) ≤ x
        begun = let p = (last_calls i member).reads a no_read l refl in omega (arith, p.3, not_begun)

        below : length (outcomes S first us i) ≤ length (operations_begun us i)
        below = fewer_outs S B (start_ticket S B i) between i (operations_begun us i) (outcomes S first us i) (calls_between i member)

        y : ℕ
        y = x - length (outcomes S first us i)

        inside : y < length (outcomes S between vs i)
        inside = let p = (last_calls i member).reads a no_read l refl in omega (arith, p.2, begun, below, ap length (outcomes_are i), length-append (outcomes S first us i) (outcomes S between vs i))

        is_it : get_or (outcomes S between vs i) y no_outcome ≡ Answered (read a).seq false (read a).raw ((last_calls i member).reads a no_read l refl).1
        is_it =
            sym (get_or-append_right (outcomes S first us i) (outcomes S between vs i) (length (outcomes S first us i)) x no_outcome refl (omega (arith, begun, below)))
            ∙ ap (λ (os : List Outcome). get_or os x no_outcome) (sym (outcomes_are i)) ∙ ((last_calls i member).reads a no_read l refl).5

    -- one whose call has ended is of a durable state, and stands already
    pub ended_read : (a : ℕ) → a < length last_world.reads → (read a).ticket ≤ start_ticket S B (read a).caller + length (outcomes S first us (read a).caller)
        → ((read a).seq ≤ durable_seq S between.words) × (a < length between.reads)
    ended_read a l has_ended = (it.0, omega (arith, it.1.1, at_most (cases_lt it.1.0 a)))
      where
        i : ℕ
        i = (read a).caller

        member : i < S.callers
        member = reader a l

        x : ℕ
        x = ((last_calls i member).reads a no_read l refl).0

        x_in : x < length (outcomes S first us i)
        x_in = let p = (last_calls i member).reads a no_read l refl in omega (arith, p.3, has_ended)

        is_it : ended i x ≡ Answered (read a).seq false (read a).raw ((last_calls i member).reads a no_read l refl).1
        is_it = sym (still i x x_in) ∙ ((last_calls i member).reads a no_read l refl).5

        it : Was i x (Answered (read a).seq false (read a).raw ((last_calls i member).reads a no_read l refl).1)
        it = subst (Was i x) is_it (stood i x member x_in)

        there : get_or last_world.reads it.1.0 no_read ≡ get_or between.reads it.1.0 no_read
        there = read_stands between last_world further it.1.0 it.1.1

        same_ticket : (read it.1.0).ticket ≡ (read a).ticket
        same_ticket = ap (λ (r : Read). r.ticket) (there ∙ it.1.2) ∙ sym ((last_calls i member).reads a no_read l refl).3

        same_caller : (read it.1.0).caller ≡ (read a).caller
        same_caller = ap (λ (r : Read). r.caller) (there ∙ it.1.2)

        at_most : (it.1.0 < a) ⊎ (a ≤ it.1.0) → a ≤ it.1.0
        at_most (inl b) = absurd (omega (arith, (good_last.order.ordered.successive it.1.0 a b l same_caller).0, same_ticket))
        at_most (inr b) = b

    -- a read that stands already is of a call that has begun
    pub stands_begun : (a : ℕ) → a < length between.reads → (read a).ticket ≤ start_ticket S B (read a).caller + length (operations_begun us (read a).caller)
    stands_begun a l = go (read a) (read_stands between last_world further a l)
      where
        go : (r : Read) → r ≡ get_or between.reads a no_read → r.ticket ≤ start_ticket S B r.caller + length (operations_begun us r.caller)
        go r e = subst (λ (q : Read). q.ticket ≤ start_ticket S B q.caller + length (operations_begun us q.caller)) (sym e) (
            let i : ℕ = (get_or between.reads a no_read).caller in
            let member : i < S.callers = (good_between.order.ordered.reads a no_read l).caller in
            let p = (calls_between i member).reads a no_read l refl in
            let below = fewer_outs S B (start_ticket S B i) between i (operations_begun us i) (outcomes S first us i) (calls_between i member) in
            omega (arith, p.2, p.3, below))

    -- one in a batch that hasn't begun is after one that has ended
    pub later_batch : (i x : ℕ) → i < S.callers → x < length (outcomes S first us i) → (k y : ℕ) (d : Call) → B.seq < k → k ≤ B.seq + length last_world.batches → y < length (batch_at B last_world.batches k).calls
        → start_ticket S B (call k y d).caller + length (operations_begun us (call k y d).caller) < (call k y d).ticket → outcome_seq (get_or (outcomes S first es i) x no_outcome) < k
    later_batch i x i_in x_in k y d l u v not_begun = omega (arith, late_call k y d l u v not_begun, ended_low i x i_in x_in, ap outcome_seq (still i x x_in), durable_between)

    -- a call that hasn't begun ends late
    ends_late : (j y : ℕ) → j < S.callers → length (operations_begun us j) ≤ y → y < length (outcomes S first es j) → EndsLate S (B.seq + length between.batches) (get_or (operations_begun es j) y []) (get_or (outcomes S first es j) y no_outcome)
    ends_late j y j_in not_begun y_in =
        subst (EndsLate S (B.seq + length between.batches) (get_or (operations_begun es j) y [])) (outcome_is j y below)
        (subst (λ (op : List ℕ). EndsLate S (B.seq + length between.batches) op (get_or (outcomes S between vs j) (y - length (outcomes S first us j)) no_outcome)) op_is
        (ends_late_run S Lawful sound B j j_in (B.seq + length between.batches) (omega arith) vs between good_between rest (omega arith) (start_ticket S B j) (operations_begun us j) (outcomes S first us j) (calls_between j j_in)
        (length (operations_begun us j)) (λ q. absurd (omega (arith, q))) (y - length (outcomes S first us j)) (omega (arith, here, not_begun)) (inside j y below y_in)))
      where
        below : length (outcomes S first us j) ≤ y
        below = omega (arith, not_begun, fewer_outs S B (start_ticket S B j) between j (operations_begun us j) (outcomes S first us j) (calls_between j j_in))

        here : length (outcomes S first us j) + (y - length (outcomes S first us j)) ≡ y
        here = omega (arith, below)

        op_is : get_or (operations_begun us j ++ operations_begun vs j) (length (outcomes S first us j) + (y - length (outcomes S first us j))) [] ≡ get_or (operations_begun es j) y []
        op_is =
            ap (λ (k : ℕ). get_or (operations_begun us j ++ operations_begun vs j) k []) here
            ∙ ap (λ (xs : List (List ℕ)). get_or xs y []) (sym (operations_append us vs j) ∙ ap (λ (xs : List Event). operations_begun xs j) is)

    -- and has a later outcome than the last batch
    later_outcome : (j y : ℕ) → j < S.callers → length (operations_begun us j) ≤ y → y < length (outcomes S first es j) → IsNotBefore (B.seq + length between.batches) (get_or (outcomes S first es j) y no_outcome)
    later_outcome j y j_in not_begun y_in = go (get_or (outcomes S first es j) y no_outcome) (ends_late j y j_in not_begun y_in) ((last_calls j j_in).each y y_in)
      where
        go : (o : Outcome) → EndsLate S (B.seq + length between.batches) (get_or (operations_begun es j) y []) o → OutcomeStands S B last_world j (start_ticket S B j + y + 1) (get_or (operations_begun es j) y []) o → IsNotBefore (B.seq + length between.batches) o
        go (Answered s true raw steps) e h = late_call s h.2.place no_call h.0 (omega (arith, h.1, reached S Lawful B last_world good_last)) h.2.among (rw (h.2.caller, h.2.ticket) (omega (arith, not_begun)))
        go (Answered s false raw steps) e h = e
        go (Spent s) e h = omega (arith, h.0, few S Lawful B between good_between)
        go (Lost s) e h = e

    -- so a call comes after one that had ended before it began
    pub beyond : (i x j y : ℕ) → i < S.callers → j < S.callers → x < length (outcomes S first us i) → length (operations_begun us j) ≤ y → y < length (outcomes S first es j)
        → IsNotBefore (outcome_seq (get_or (outcomes S first es i) x no_outcome)) (get_or (outcomes S first es j) y no_outcome)
    beyond i x j y i_in j_in x_in not_begun y_in =
        subst (λ (o : Outcome). IsNotBefore (outcome_seq o) (get_or (outcomes S first es j) y no_outcome)) (sym (still i x x_in))
        (beyond_lower (outcome_seq (ended i x)) (B.seq + length between.batches) (omega (arith, ended_low i x i_in x_in, durable_between)) (get_or (outcomes S first es j) y no_outcome) (later_outcome j y j_in not_begun y_in))

    -- and no outcome is older than its call
    pub since : (j y : ℕ) → j < S.callers → length (operations_begun us j) ≤ y → y < length (outcomes S first es j)
        → IsSince S (B.seq + length between.batches) (get_or (operations_begun es j) y []) (get_or (outcomes S first es j) y no_outcome)
    since j y j_in not_begun y_in =
        is_since S (B.seq + length between.batches) (get_or (operations_begun es j) y []) (get_or (outcomes S first es j) y no_outcome) (later_outcome j y j_in not_begun y_in) (ends_late j y j_in not_begun y_in)

-- A caller's own calls: each had ended when the next one began. So real time includes each caller's
-- own order.
module _ (S : Setup) (Lawful : List ℕ → Type 0) (sound : IsSoundMeaning S.meaning Lawful (first_operation_cell S) S.cells) (B : TableStart) (i : ℕ) (member : i < S.callers) where
  abbrev Between : Moment → List Event → List (List ℕ) → List Outcome → ℕ → Type 0
  Between w es ops outs x = (k : ℕ) × (x < length (outs ++ outcomes S w (take k es) i)) × (length (ops ++ operations_begun (take k es) i) ≤ x + 1)

  pub own_calls : (es : List Event) (w : Moment) → MeetsInvariant S Lawful B w → IsSchedule S w es → (before : ℕ) (ops : List (List ℕ)) (outs : List Outcome) → HasCalls S B before w i ops outs
      → (x : ℕ) → length ops ≤ x + 1 → x + 1 < length (ops ++ operations_begun es i) → Between w es ops outs x
  own_calls [] w g s before ops outs c x u l = absurd (omega (arith, l, u, ap length (append-nil ops)))
  own_calls (e ∷ es) w g s before ops outs c x u l = go (cases_lt x (length outs))
      (λ m. own_calls es (after_event S w e) (event_good S Lawful B w g sound e s.0) s.1 before (ops ++ operation_begun e i) (outs ++ outcome_of_event S w e i) (calls_kept S Lawful sound B w g before i member ops outs c e s.0) x m (rw (append_assoc ops (operation_begun e i) (operations_begun es i)) l))
    where
      now : x < length outs → Between w (e ∷ es) ops outs x
      now a = (0, omega (arith, a, ap length (append-nil outs)), omega (arith, u, ap length (append-nil ops)))

      -- an event begins a call of the caller only if none is open
      begins_idle : (d : Event) → MayHappen S w d → 0 < length (operation_begun d i) → IsIdle (machine_in w i)
      begins_idle (Begins j op) may a = at (cases_eq j i)
        where
          at : (j ≡ i) ⊎ (j ≡ i → ⊥) → IsIdle (machine_in w i)
          at (inl q) = subst (λ (y : ℕ). IsIdle (machine_in w y)) q may.1
          at (inr q) = absurd (omega (arith, a, ap (λ (b : Bool). length (if_so b (op ∷ []))) (ne_eqb i j (λ e. q (sym e)))))
      begins_idle (Turns j) may a = absurd (omega arith)
      begins_idle (Loads j) may a = absurd (omega arith)
      begins_idle (Evicts j) may a = absurd (omega arith)
      begins_idle (Raises j) may a = absurd (omega arith)
      begins_idle (Revives j made) may a = absurd (omega arith)

      few : (d : Event) → length (operation_begun d i) ≤ 1
      few (Begins j op) = at (i == j)
        where
          at : (b : Bool) → length (if_so b (op ∷ [])) ≤ 1
          at true = omega arith
          at false = omega arith
      few (Turns j) = omega arith
      few (Loads j) = omega arith
      few (Evicts j) = omega arith
      few (Raises j) = omega arith
      few (Revives j made) = omega arith

      later : Between (after_event S w e) es (ops ++ operation_begun e i) (outs ++ outcome_of_event S w e i) x → Between w (e ∷ es) ops outs x
      later h = (
        suc h.0,
        omega (arith, h.1, ap length (append_assoc outs (outcome_of_event S w e i) (outcomes S (after_event S w e) (take h.0 es) i))),
        omega (arith, h.2, ap length (append_assoc ops (operation_begun e i) (operations_begun (take h.0 es) i))),
      )

      go : (x < length outs) ⊎ (length outs ≤ x) → (length (ops ++ operation_begun e i) ≤ x + 1 → Between (after_event S w e) es (ops ++ operation_begun e i) (outs ++ outcome_of_event S w e i) x) → Between w (e ∷ es) ops outs x
      go (inl a) f = now a
      go (inr a) f = at (cases_lt (length ops) (x + 1))
        where
          at : (length ops < x + 1) ⊎ (x + 1 ≤ length ops) → Between w (e ∷ es) ops outs x
          at (inl b) = later (f (omega (arith, b, few e, length-append ops (operation_begun e i))))
          at (inr b) = begins (cases_lt 0 (length (operation_begun e i)))
            where
              begins : (0 < length (operation_begun e i)) ⊎ (length (operation_begun e i) ≤ 0) → Between w (e ∷ es) ops outs x
              begins (inl d) = absurd (omega (arith, a, u, b, c.idle (begins_idle e s.0 d)))
              begins (inr d) = later (f (omega (arith, b, u, d, length-append ops (operation_begun e i))))
