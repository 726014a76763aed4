-- What a step of any machine leaves of the calls of each caller.
use Rattle.std.proofs.Common.{◌≡◌, ℕ, ◌+◌, ◌<◌, ◌≤◌, ◌⊎◌, inl, inr, List, [], ◌∷◌, ◌++◌, length, get_or, refl, sym, ◌∙◌, ap, subst, arith, Option, Some, None, Bool, true, false, ◌-◌}
use Rattle.std.specs.List.{All}
use Rattle.std.proofs.lemmas.List.{append-nil, length-append, get_or_push, get_or_append_left, get_or-set_same, get_or-set_other, get_or_default}
use Rattle.of_cell.proofs.Order.{seq_mono}
use Rattle.of_mem.specs.Meaning.{IsSoundMeaning}
use Rattle.of_core.specs.declared.place.Place.{Place}
use Rattle.of_core.specs.declared.place.Place.TheVariants.{Idle}
use Rattle.of_core.specs.declared.place.Outcome.{Outcome}
use Rattle.of_core.specs.declared.place.Outcome.TheVariants.{Answered, Spent, Lost}
use Rattle.of_core.specs.Table.{Setup, first_operation_cell, durable_word, committed_seq, durable_seq}
use Rattle.of_core.specs.Machine.{Call, CallState, IsOpen, is_idle, no_machine}
use Rattle.of_core.specs.Steps.{want, take_word, IsFoundBy}
use Rattle.of_core.specs.TableMoment.{Moment, TableStart, Read, step_batches, step_reads, after_step}
use Rattle.of_core.specs.History.{batch_at, last_ticket_by}
use Rattle.of_core.specs.WordsMatch.{IsLastOpen}
use Rattle.of_core.specs.Places.{LastOutcomeStands}
use Rattle.of_core.specs.Invariant.{HoldsAtPlace, MeetsInvariant}
use Rattle.of_core.specs.Guarantees.{Guarantees}
use Rattle.of_core.specs.Bound.{TellsWithinBound}
use Rattle.of_core.specs.Least.{TellsLeastSteps}
use Rattle.of_core.specs.Order.{no_read}
use Rattle.of_core.specs.Facts.{IsStep, TellsOutcome}
use Rattle.of_core.specs.MachineValue.{ended_outcome, ended_outcome_at}
use Rattle.of_core.specs.Turn.{turn_of_outcome, turn_at}
use Rattle.of_core.specs.Events.{machine_in}
use Rattle.of_core.specs.Calls.{outcome_of_turn, outcome_of_step, no_outcome, outcome_seq, IsNotBefore, OutcomeStands, IsOutcome, HasCalls, NoneSpent, total_steps}
use Rattle.of_core.specs.Laws.{IsOpenCall}
use Rattle.of_core.proofs.Tickets.{ticket_upto}
use Rattle.of_core.proofs.Idle.{idle_stays}
use Rattle.of_core.proofs.Ordering.{idle_is}
use Rattle.of_core.proofs.StepKept.{step_kept, step_moves}
use Rattle.of_core.proofs.StepTaken.{step_taken}
use Rattle.of_core.proofs.NewCalls.{new_calls}
use Rattle.of_core.proofs.Benches.{turn_is}
use Rattle.of_core.proofs.OpenCalls.{caller_at}
use Rattle.of_core.proofs.CallOrder.{announced_beyond}
use Rattle.of_core.proofs.Calls.{all_one, none_ended, Grows, HasNewCalls, later_calls, stood_grows, stood_low, stays, ends_one}

module _ (S : Setup) (Lawful : List ℕ → Type 0) (B : TableStart) (w : Moment) (g : MeetsInvariant S Lawful B w) where
  pub own : (i : ℕ) → i < S.callers → get_or w.machines i (machine_in w i) ≡ machine_in w i
  own i h = get_or_default w.machines i (machine_in w i) no_machine (omega (arith, g.core.members))

  pub last_is : committed_seq w.words ≡ B.seq + length w.batches
  last_is = omega (arith, g.core.shared.counted.count)

  -- the durable sequence is of a batch that stands, and at most the limit
  pub reached : durable_seq S w.words ≤ B.seq + length w.batches
  reached = go g.core.shared.durable.step
    where
      go : (committed_seq w.words ≡ durable_seq S w.words) ⊎ ((committed_seq w.words ≡ durable_seq S w.words + 1) × IsLastOpen B w.words) → durable_seq S w.words ≤ B.seq + length w.batches
      go (inl q) = omega (arith, last_is)
      go (inr q) = omega (arith, last_is, q.0)

  pub few : B.seq + length w.batches ≤ S.limit
  few = omega (arith, last_is, g.core.shared.counted.limit)

module _ (S : Setup) (Lawful : List ℕ → Type 0) (sound : IsSoundMeaning S.meaning Lawful (first_operation_cell S) S.cells) (B : TableStart) (w : Moment) (g : MeetsInvariant S Lawful B w) where
  -- The step of caller j's machine, which finds n.
  module _ (j : ℕ) (h : j < S.callers) (n : ℕ) (found : IsFoundBy (want S (machine_in w j)) w.words n) where
    abbrev m : CallState
    m = machine_in w j

    abbrev d : CallState
    d = take_word S m n

    abbrev v : Moment
    v = after_step S j m n w

    good : MeetsInvariant S Lawful B v
    good = step_kept S Lawful sound B w g j m h (own S Lawful B w g j h) n found

    moves : Guarantees S B j w.words w.batches v.words v.batches
    moves = step_moves S Lawful sound B w g j m h (own S Lawful B w g j h) n found

    step_grows : Grows S B w v
    step_grows = record {
      reach = reached S Lawful B w g;
      rise = seq_mono (durable_word S w.words 0) (durable_word S v.words 0) (moves.durs 0 (omega arith));
      limit = omega (arith, reached S Lawful B v good, few S Lawful B v good);
      few = few S Lawful B v good;
      longer = omega (arith, length-append w.batches (step_batches S w.words m n));
      batches = λ k l u. moves.batches k l (omega (arith, last_is S Lawful B w g));
      reads = (omega (arith, length-append w.reads (step_reads m d)), λ x e l. get_or_append_left w.reads (step_reads m d) e x l);
    }

    pub now : machine_in v j ≡ d
    now = get_or-set_same w.machines j d no_machine (omega (arith, g.core.members))

    pub not_now : (i : ℕ) → (j ≡ i → ⊥) → machine_in v i ≡ machine_in w i
    not_now i away = get_or-set_other w.machines j i d no_machine (λ e. away (sym e))

    -- the step of an open call
    pub taken : IsOpen m.place → IsStep S B w m n d (step_batches S w.words m n)
    taken o = step_taken S Lawful B w g j m h (own S Lawful B w g j h) o n found

    -- an idle machine stays as it is
    pub same_idle : m.place ≡ Idle → d ≡ m
    same_idle q = (idle_stays S m n q).0

    none_idle : m.place ≡ Idle → step_reads m d ≡ []
    none_idle q = ap (step_reads m) (same_idle q) ∙ (idle_stays S m n q).1

    -- a call of caller i in a new batch is one that it has begun
    new_words : (i : ℕ) → i < S.callers → (before : ℕ) (ops : List (List ℕ)) (outs : List Outcome) (c : HasCalls S B before w i ops outs) → HasNewCalls S B before w i ops outs c v
    new_words i member before ops outs c k l u y e z = (λ q. (is q).0, λ q. (is q).1)
      where
        is : (get_or (batch_at B v.batches k).calls y e).caller ≡ i → ((before < (get_or (batch_at B v.batches k).calls y e).ticket) × ((get_or (batch_at B v.batches k).calls y e).ticket ≤ before + length ops) × ((get_or (batch_at B v.batches k).calls y e).op ≡ get_or ops ((get_or (batch_at B v.batches k).calls y e).ticket - before - 1) [])) × (before + length outs < (get_or (batch_at B v.batches k).calls y e).ticket)
        is q =
            let x : Call = get_or (batch_at B v.batches k).calls y e in
            let p : IsOpenCall w x = new_calls S Lawful sound B w g j m h (own S Lawful B w g j h) n found k l u y e z in
            let o = c.open_call (subst (λ (a : ℕ). IsOpen (machine_in w a).place) q p.0) in
            let made : x.ticket ≡ (machine_in w i).made = p.1 ∙ ap (λ (a : ℕ). (machine_in w a).made) q in
            let number : x.ticket ≡ before + length outs + 1 = let t = made ∙ c.made in omega (arith, t, o.0) in
            ((omega (arith, number), omega (arith, number, o.0), p.2 ∙ ap (λ (a : ℕ). (machine_in w a).op) q ∙ o.1 ∙ ap (λ (a : ℕ). get_or ops a []) (omega (arith, number))), omega (arith, number))

    -- what the step has read is the caller's
    own_reads : All (λ (r : Read). r.caller ≡ j) (step_reads m d)
    own_reads = go (is_idle m.place) refl
      where
        mine : m.caller ≡ j
        mine = caller_at S Lawful B w g.core j m h m.place (g.core.each j m h (own S Lawful B w g j h))

        none : step_reads m d ≡ [] → All (λ (r : Read). r.caller ≡ j) (step_reads m d)
        none e = subst (λ (rs : List Read). All (λ (r : Read). r.caller ≡ j) rs) (sym e) (λ k r l. absurd (omega arith))

        told_by : (o : Outcome) → TellsOutcome S m d o → All (λ (r : Read). r.caller ≡ j) (step_reads m d)
        told_by (Answered s true raw steps) t = none t.2
        told_by (Answered s false raw steps) t = subst (λ (rs : List Read). All (λ (r : Read). r.caller ≡ j) rs) (sym t.2) (all_one (λ (r : Read). r.caller ≡ j) _ mine)
        told_by (Spent s) t = none t.2
        told_by (Lost s) t = absurd t

        ends : (b : Bool) → IsOpen m.place → is_idle d.place ≡ b → All (λ (r : Read). r.caller ≡ j) (step_reads m d)
        ends true o e = let t = (taken o).ends (idle_is d.place e) in told_by t.0 t.2
        ends false o e = none ((taken o).goes_on e).2

        go : (b : Bool) → is_idle m.place ≡ b → All (λ (r : Read). r.caller ≡ j) (step_reads m d)
        go true e = none (none_idle (idle_is m.place e))
        go false e = ends (is_idle d.place) e refl

    -- the calls of another stay
    pub other_step : (i : ℕ) → i < S.callers → (j ≡ i → ⊥) → (before : ℕ) (ops : List (List ℕ)) (outs : List Outcome) → HasCalls S B before w i ops outs → HasCalls S B before v i ops outs
    other_step i member away before ops outs c =
        stays S B before w i ops outs c v step_grows (step_reads m d) refl (λ k r l q. absurd (away (sym (own_reads k r l) ∙ q))) (new_words i member before ops outs c) (machine_in w i) (not_now i away) refl (λ q. (q, refl)) (λ o. (o, refl, refl)) (λ low l r. r)

    -- how the step has ended the call
    pub says_ended : IsOpen m.place → (o : Option Outcome) → ended_outcome d ≡ o → outcome_of_step m d ≡ outcome_of_turn (turn_of_outcome o)
    says_ended live o e = sym (ap outcome_of_turn (turn_is m.place d (ended_outcome d) (turn_of_outcome (ended_outcome d)) (λ q. let z : true ≡ false = sym (ap is_idle q) ∙ live in cc) refl refl)) ∙ ap (λ (x : Option Outcome). outcome_of_turn (turn_of_outcome x)) e

    pub says_idle : m.place ≡ Idle → outcome_of_step m d ≡ []
    says_idle q = ap (λ (p : Place). outcome_of_turn (turn_at p d)) q

    module _ (before : ℕ) (ops : List (List ℕ)) (outs : List Outcome) (c : HasCalls S B before w j ops outs) where
      -- the outcome that the step answers stands in the history
      stood_now : (o : Outcome) → d.place ≡ Idle → d.answer ≡ Some o → IsOpen m.place → TellsOutcome S m d o → OutcomeStands S B v j d.made d.op o
      stood_now o rest e live t = go o told_at bounded least t
        where
          here : get_or v.machines j d ≡ d
          here = get_or-set_same w.machines j d d (omega (arith, g.core.members))

          told_at : LastOutcomeStands S B v.words v.batches j d (Some o)
          told_at = subst (λ (x : Option Outcome). LastOutcomeStands S B v.words v.batches j d x) e (subst (λ (p : Place). HoldsAtPlace S B v.words v.batches j d p) rest (good.core.each j d h here)).told

          bounded : TellsWithinBound S (Some o)
          bounded = subst (λ (x : Option Outcome). TellsWithinBound S x) e ((good.within j d h here).told rest)

          least : TellsLeastSteps S d.op (Some o)
          least = subst (λ (x : Option Outcome). TellsLeastSteps S d.op x) e ((good.late j d h here).told rest)

          mine : m.caller ≡ j
          mine = caller_at S Lawful B w g.core j m h m.place (g.core.each j m h (own S Lawful B w g j h))

          go : (o : Outcome) → LastOutcomeStands S B v.words v.batches j d (Some o) → TellsWithinBound S (Some o) → TellsLeastSteps S d.op (Some o) → TellsOutcome S m d o → OutcomeStands S B v j d.made d.op o
          go (Answered s true raw steps) a b l u = (a.from, a.durable, a.call, l, b)
          go (Answered s false raw steps) a b l u = (a.durable, (length w.reads, omega (arith, length-append w.reads (step_reads m d), ap length u.2), placed), a.reads, l, b)
            where
              r : Read
              r = record { caller = m.caller; ticket = m.made; op = m.op; raw = raw; seq = s }

              same : r ≡ record { caller = j; ticket = d.made; op = d.op; raw = raw; seq = s }
              same = rw (mine, (taken live).made, (taken live).op) refl

              placed : get_or (w.reads ++ step_reads m d) (length w.reads) no_read ≡ record { caller = j; ticket = d.made; op = d.op; raw = raw; seq = s }
              placed = ap (λ (rs : List Read). get_or (w.reads ++ rs) (length w.reads) no_read) u.2 ∙ get_or_push w.reads r no_read (length w.reads) refl ∙ same
          go (Lost s) a b l u = absurd a
          go (Spent s) a b l u = (a.limit, omega (arith, a.limit, a.durable, step_grows.limit), not_run)
            where
              not_run : (k : ℕ) → B.seq < k → k ≤ B.seq + length v.batches → (y : ℕ) (e : Call) → y < length (batch_at B v.batches k).calls → (get_or (batch_at B v.batches k).calls y e).caller ≡ j → (get_or (batch_at B v.batches k).calls y e).ticket < d.made
              not_run k l u y e z q =
                  let p : (get_or (batch_at B v.batches k).calls y e).ticket ≤ last_ticket_by S B v.batches (committed_seq v.words) (get_or (batch_at B v.batches k).calls y e).caller =
                  ticket_upto S Lawful B v.batches good.core.shared.stands k (committed_seq v.words) l (omega (arith, u, last_is S Lawful B v good)) (omega (arith, last_is S Lawful B v good)) y e z in
                  omega (arith, p, a.left, ap (last_ticket_by S B v.batches (committed_seq v.words)) q)

      -- it comes behind the outcomes from before
      beyond_now : IsOpen m.place → (o : Outcome) → TellsOutcome S m d o → OutcomeStands S B v j d.made d.op o → (x : ℕ) → x < length outs → IsNotBefore (outcome_seq (get_or outs x no_outcome)) o
      beyond_now live (Answered s false raw steps) t stood x l = t.3 (outcome_seq (get_or outs x no_outcome)) (c.reads_from x l)
      beyond_now live (Spent s) t stood x l =
          let low = stood_low S B w j (before + x + 1) (get_or ops x []) (get_or outs x no_outcome) (reached S Lawful B w g) (c.each x l) in
          omega (arith, t.1, low, few S Lawful B w g)
      beyond_now live (Lost s) t stood x l = absurd t
      beyond_now live (Answered s true raw steps) t stood x l =
          announced_beyond S Lawful B v good (reached S Lawful B v good) j (before + x + 1) d.made s steps (get_or ops x []) d.op raw (get_or outs x no_outcome) (let made = (taken live).made ∙ c.made in omega (arith, made, l, (c.open_call live).0))
          (stood_grows S B w v step_grows j (before + x + 1) (get_or ops x []) (get_or outs x no_outcome) (later_calls S B before w j ops outs c v (new_words j h before ops outs c) x l) (c.each x l)) stood

      -- one's own step
      pub own_step : HasCalls S B before v j ops (outs ++ outcome_of_step m d)
      own_step = go (is_idle m.place) refl
        where
          same : outcome_of_step m d ≡ [] → HasCalls S B before v j ops outs → HasCalls S B before v j ops (outs ++ outcome_of_step m d)
          same e k = subst (λ (os : List Outcome). HasCalls S B before v j ops (outs ++ os)) (sym e) (subst (λ (os : List Outcome). HasCalls S B before v j ops os) (sym (append-nil outs)) k)

          none : step_reads m d ≡ [] → All (IsOutcome before j ops outs) (step_reads m d)
          none e = subst (λ (rs : List Read). All (IsOutcome before j ops outs) rs) (sym e) (λ k r l. absurd (omega arith))

          of_reads : (o : Outcome) → IsOpen m.place → TellsOutcome S m d o → All (λ (r : Read). (r.ticket ≡ d.made) × (r.op ≡ d.op) × ((steps : ℕ) × (o ≡ Answered r.seq false r.raw steps))) (step_reads m d)
          of_reads (Answered s true raw steps) live t = rw t.2 (λ k r l. absurd (omega arith))
          of_reads (Spent s) live t = rw t.2 (λ k r l. absurd (omega arith))
          of_reads (Lost s) live t = absurd t
          of_reads (Answered s false raw steps) live t = rw t.2 (all_one (λ (r : Read). (r.ticket ≡ d.made) × (r.op ≡ d.op) × ((steps' : ℕ) × (Answered s false raw steps ≡ Answered r.seq false r.raw steps'))) _ (sym (taken live).made, sym (taken live).op, (steps, refl)))

          ended_now : (b : Bool) → IsOpen m.place → is_idle d.place ≡ b → HasCalls S B before v j ops (outs ++ outcome_of_step m d)
          ended_now false live e = same (says_ended live None (none_ended d d.place e))
              (stays S B before w j ops outs c v step_grows (step_reads m d) refl (none ((taken live).goes_on e).2) (new_words j h before ops outs c) d now (taken live).made (λ q. let z : true ≡ false = sym (ap is_idle q) ∙ e in cc) (λ o. (live, (taken live).op, ((taken live).goes_on e).1)) (taken live).reads_from)
          ended_now true live e =
              let rest = idle_is d.place e in
              let t = (taken live).ends rest in
              let stood = stood_now t.0 rest t.1 live t.2 in
              subst (λ (os : List Outcome). HasCalls S B before v j ops (outs ++ os)) (sym (says_ended live (Some t.0) (ap (λ (p : Place). ended_outcome_at p d) rest ∙ t.1)))
              (ends_one S B before w j ops outs c v step_grows (step_reads m d) refl (new_words j h before ops outs c) live d now (taken live).made d.op (taken live).op rest t.0 (inr t.1) stood (beyond_now live t.0 t.2 stood) (of_reads t.0 live t.2))

          go : (b : Bool) → is_idle m.place ≡ b → HasCalls S B before v j ops (outs ++ outcome_of_step m d)
          go false e = ended_now (is_idle d.place) e refl
          go true e =
              let q = idle_is m.place e in
              same (says_idle q) (stays S B before w j ops outs c v step_grows (step_reads m d) refl (none (none_idle q)) (new_words j h before ops outs c) m (now ∙ same_idle q) refl (λ r. (r, refl)) (λ o. (o, refl, refl)) (λ low l r. r))

    abbrev Counts : List Outcome → ℕ → Type 0
    Counts os x = (total_steps os + x ≤ m.steps + 1) × (IsOpen m.place → NoneSpent os → total_steps os + x ≡ m.steps + 1)

    -- the steps that it tells and leaves to tell are one more, but where the call is spent
    pub own_counts : Counts (outcome_of_step m d) d.steps
    own_counts = go (is_idle m.place) refl
      where
        of_end : (o : Outcome) → d.steps ≡ 0 → TellsOutcome S m d o → Counts (o ∷ []) d.steps
        of_end (Answered s true raw steps) z t = (omega (arith, t.1), λ q u. omega (arith, t.1))
        of_end (Answered s false raw steps) z t = (omega (arith, t.1), λ q u. omega (arith, t.1))
        of_end (Spent s) z t = (omega arith, λ q u. absurd u.0)
        of_end (Lost s) z t = absurd t

        ended_now : (b : Bool) → IsOpen m.place → is_idle d.place ≡ b → Counts (outcome_of_step m d) d.steps
        ended_now false live e = subst (λ (os : List Outcome). Counts os d.steps) (sym (says_ended live None (none_ended d d.place e))) (omega (arith, ((taken live).goes_on e).0), λ q u. omega (arith, ((taken live).goes_on e).0))
        ended_now true live e =
            let rest = idle_is d.place e in
            let t = (taken live).ends rest in
            let z : d.steps ≡ 0 = (good.late j d h (get_or-set_same w.machines j d d (omega (arith, g.core.members)))).rests rest in
            subst (λ (os : List Outcome). Counts os d.steps) (sym (says_ended live (Some t.0) (ap (λ (p : Place). ended_outcome_at p d) rest ∙ t.1))) (of_end t.0 z t.2)

        go : (b : Bool) → is_idle m.place ≡ b → Counts (outcome_of_step m d) d.steps
        go false e = ended_now (is_idle d.place) e refl
        go true e =
            let q = idle_is m.place e in
            subst (λ (os : List Outcome). Counts os d.steps) (sym (says_idle q)) (omega (arith, ap (λ (x : CallState). x.steps) (same_idle q)), λ o u. let z : true ≡ false = sym e ∙ o in cc)
