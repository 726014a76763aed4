-- What an open call has lost beside the commits since it began, and so how new its outcome is.
use Rattle.std.proofs.Common.{◌≡◌, ℕ, ◌+◌, ◌-◌, ◌<◌, ◌≤◌, ◌⊎◌, ◌==◌, inl, inr, List, [], ◌∷◌, ◌++◌, length, get_or, refl, sym, ◌∙◌, ap, subst, arith, Some, None, Bool, true, false}
use Rattle.std.specs.List.{All}
use Rattle.std.proofs.lemmas.Bool.{cases_eq, cases_lt, eq-eqb, ne_eqb}
use Rattle.std.proofs.lemmas.Bool.Decides.{nat_tests}
use Rattle.std.proofs.lemmas.List.{append_assoc, append-nil, length-append, get_or_append_left, get_or-append_right, get_or-set_same, get_or-set_other}
use Rattle.of_cell.specs.Words.{seq_of, payload_of}
use Rattle.of_mem.specs.Meaning.{IsSoundMeaning}
use Rattle.of_core.specs.declared.machine.trying.TheConstants.{MOST_TRIES}
use Rattle.of_core.specs.declared.place.Place.{Place}
use Rattle.of_core.specs.declared.place.Place.TheVariants.{Idle, TryCurrent, TryRequest, LoadCurrent, LoadRequest}
use Rattle.of_core.specs.declared.place.Outcome.{Outcome}
use Rattle.of_core.specs.declared.place.Outcome.TheVariants.{Answered, Spent, Lost as LostCall}
use Rattle.of_core.specs.Table.{Setup, first_operation_cell, ticket_cell, announcement_of, committed_seq}
use Rattle.of_core.specs.Machine.{CallState, no_call, IsOpen, is_idle, no_machine, begin_call, first_place}
use Rattle.of_core.specs.Steps.{want, take_word, word_found, first_round_seq, IsFoundBy}
use Rattle.of_core.specs.TableMoment.{Moment, TableStart, Batch, step_batches, after_step}
use Rattle.of_core.specs.History.{last_ticket_by}
use Rattle.of_core.specs.Order.{HasBegunTry}
use Rattle.of_core.specs.Facts.{IsStep, TellsOutcome, ReadsFrom, loads_current, loads_current_at}
use Rattle.of_core.specs.WordsMatch.{StatesFollowBatches}
use Rattle.of_core.specs.Rounds.{IsInTry}
use Rattle.of_core.specs.Places.{IsAtRest, LastOutcomeStands}
use Rattle.of_core.specs.Invariant.{HoldsAtPlace, MeetsInvariant}
use Rattle.of_core.specs.MachineValue.{ended_outcome_at}
use Rattle.of_core.specs.Remains.{remains_of, announces_open_call, revived_machine}
use Rattle.of_core.specs.Events.{Event, Begins, Turns, Loads, Evicts, Raises, Revives, after_event, machine_in, after_events, MayHappen, IsSchedule}
use Rattle.of_core.specs.Turn.{IsIdle}
use Rattle.of_core.specs.Calls.{if_so, operation_begun, outcome_of_event, outcome_of_step, outcome_of_loss, operations_begun, outcomes, no_outcome, HasCalls}
use Rattle.of_core.specs.Commits.{begins_at, announces_at, HasLost}
use Rattle.of_core.proofs.States.{state_same}
use Rattle.of_core.proofs.Tickets.{tickets_grow}
use Rattle.of_core.proofs.Idle.{idle_or_open}
use Rattle.of_core.proofs.Ordering.{idle_is, tries_at}
use Rattle.of_core.proofs.StepKept.{step_kept}
use Rattle.of_core.proofs.StepTaken.{opened_reads}
use Rattle.of_core.proofs.Found.{found_now}
use Rattle.of_core.proofs.Happenings.{event_good}
use Rattle.of_core.proofs.Revived.{op_if, says_if, reads_if, none_lost}
use Rattle.of_core.proofs.Moments.{run_good}
use Rattle.of_core.proofs.Calls.{all_one, none_ended}
use Rattle.of_core.proofs.CallSteps.{own, last_is, few, now, not_now, taken, same_idle, says_ended, says_idle}
use Rattle.of_core.proofs.CallEvents.{calls_kept}
use Rattle.of_core.proofs.Parts.{goes_on, no_fewer}
use Rattle.of_core.proofs.GivenUp.{given_up}
use Rattle.of_core.proofs.Losing.{IsReadAnswer, Tries, Leaves, losing}

module _ (S : Setup) (B : TableStart) (low i : ℕ) where
  -- the call has lost the most tries, and no batch up to then has run it
  abbrev pub HasTried : List Batch → CallState → Type 0
  HasTried bs m = (low + MOST_TRIES ≤ B.seq + length bs) × (last_ticket_by S B bs (low + MOST_TRIES) i < m.made)

  -- a read begins a try, or is in a try, or has tried
  abbrev pub Stage : List Batch → CallState → Type 0
  Stage bs m = ((m.place ≡ TryCurrent) × (low + m.tries ≤ B.seq + length bs)) ⊎ ((HasBegunTry m m.place × (low + m.tries ≤ m.seq + 1)) ⊎ HasTried bs m)

  -- what a call that has begun since batch low has lost
  pub record Lost (bs : List Batch) (m : CallState) : Type 0 where
    pub from : low ≤ B.seq + length bs
    pub tries : low + m.tries ≤ B.seq + length bs + 1
    pub rounds : low + m.rounds ≤ B.seq + length bs + 1
    pub first : 1 ≤ m.rounds → low ≤ m.first
    pub stage : S.meaning.reads_only m.op ≡ true → Stage bs m
    -- and a try of it reads no older state
    pub reads_from : ReadsFrom low m

  same_ticket : (bs cs : List Batch) (k : ℕ) → k ≤ B.seq + length bs → last_ticket_by S B (bs ++ cs) k i ≡ last_ticket_by S B bs k i
  same_ticket bs cs k u = ap (λ (st : List ℕ). payload_of (get_or st (ticket_cell S i) 0)) (state_same B bs cs k u)

  -- it stays so when more is committed
  pub lost_grows : (bs cs : List Batch) (m : CallState) → Lost bs m → Lost (bs ++ cs) m
  lost_grows bs cs m l = record {
    from = omega (arith, l.from, length-append bs cs);
    tries = omega (arith, l.tries, length-append bs cs);
    rounds = omega (arith, l.rounds, length-append bs cs);
    first = l.first;
    stage = λ r. go (l.stage r);
    reads_from = l.reads_from;
  }
    where
      go : Stage bs m → Stage (bs ++ cs) m
      go (inl a) = inl (a.0, omega (arith, a.1, length-append bs cs))
      go (inr (inl a)) = inr (inl a)
      go (inr (inr a)) = inr (inr (omega (arith, a.0, length-append bs cs), omega (arith, a.1, same_ticket bs cs (low + MOST_TRIES) a.0)))

-- a call that was announced is newer than the tries that it lost
abbrev pub IsLate : (low : ℕ) → Outcome → Type 0
IsLate low (Answered s true raw steps) = low + MOST_TRIES < s
IsLate low (Answered s false raw steps) = Unit {0}
IsLate low (Spent s) = low + MOST_TRIES ≤ s
IsLate low (LostCall s) = Unit {0}

late_if_read : (low : ℕ) (o : Outcome) → IsReadAnswer (Some o) → IsLate low o
late_if_read low (Answered s true raw steps) q = absurd q
late_if_read low (Answered s false raw steps) q = tt
late_if_read low (Spent s) q = absurd q
late_if_read low (LostCall s) q = absurd q

-- how a call ends that has begun since batch low: its answer is of no older state, and if it only
-- reads, it was announced after the tries that it lost
abbrev pub EndsLate : Setup → (low : ℕ) → (op : List ℕ) → Outcome → Type 0
EndsLate S low op (Answered s true raw steps) = S.meaning.reads_only op ≡ true → low + MOST_TRIES < s
EndsLate S low op (Answered s false raw steps) = low ≤ s
EndsLate S low op (Spent s) = S.meaning.reads_only op ≡ true → low + MOST_TRIES ≤ s
EndsLate S low op (LostCall s) = low ≤ s

-- The turn of the caller's own machine, with a call open.
module _ (S : Setup) (Lawful : List ℕ → Type 0) (sound : IsSoundMeaning S.meaning Lawful (first_operation_cell S) S.cells) (B : TableStart) (w : Moment) (g : MeetsInvariant S Lawful B w) (j : ℕ) (h : j < S.callers) (n : ℕ) (found : IsFoundBy (want S (machine_in w j)) w.words n)
    (live : IsOpen (machine_in w j).place) (low : ℕ) (start : B.seq ≤ low) (l : Lost S B low j w.batches (machine_in w j)) where
  abbrev m : CallState
  m = machine_in w j

  abbrev d : CallState
  d = take_word S m n

  abbrev v : Moment
  v = after_step S j m n w

  here : HoldsAtPlace S B w.words w.batches j m m.place
  here = g.core.each j m h (own S Lawful B w g j h)

  step : IsStep S B w m n d (step_batches S w.words m n)
  step = taken S Lawful sound B w g j h n found live

  finds_last : loads_current_at m.place ≡ true → seq_of n ≡ B.seq + length w.batches
  unfolding loads_current
  finds_last e = (step.finds_last e).0

  leads : Leaves S B w j m n m.place d
  unfolding take_word
  leads = losing S B w j m n m.place here

  not_both : loads_current_at m.place ≡ false → loads_current_at m.place ≡ true → ⊥
  not_both a b = let z : false ≡ true = sym a ∙ b in cc

  trying : HasBegunTry m m.place → IsInTry S B w.words w.batches j m
  trying t = (tries_at S Lawful B w.words w.batches g.core.shared j m m.place here t).0

  lost_taken : IsOpen d.place → Lost S B low j w.batches d
  lost_taken goes = go leads
    where
      go : Leaves S B w j m n m.place d → Lost S B low j w.batches d
      go (inl q) = record {
        from = l.from;
        tries = omega (arith, tries, below (l.stage reads));
        rounds = omega (arith, l.rounds, ap (λ (x : CallState). x.rounds) q.1);
        first = λ u. omega (arith, l.first (omega (arith, u, ap (λ (x : CallState). x.rounds) q.1)), ap (λ (x : CallState). x.first) q.1);
        stage = λ r. inr (inl (subst (HasBegunTry d) (sym (ap (λ (x : CallState). x.place) q.1)) tt, omega (arith, tries, below (l.stage reads), ap (λ (x : CallState). x.seq) q.1, finds_last (ap loads_current_at q.0))));
        reads_from = step.reads_from low l.from l.reads_from;
      }
        where
          there : HoldsAtPlace S B w.words w.batches j m TryCurrent
          there = subst (λ (p : Place). HoldsAtPlace S B w.words w.batches j m p) q.0 here

          reads : S.meaning.reads_only m.op ≡ true
          reads = there.reads

          tries : d.tries ≡ m.tries + 1
          tries = ap (λ (x : CallState). x.tries) q.1

          below : Stage S B low j w.batches m → low + m.tries ≤ B.seq + length w.batches
          below (inl a) = a.1
          below (inr (inl a)) = absurd (subst (HasBegunTry m) q.0 a.0)
          below (inr (inr a)) = omega (arith, a.0, there.few)
      go (inr (inl q)) = record {
        from = l.from;
        tries = omega (arith, l.tries, ap (λ (x : CallState). x.tries) q.1);
        rounds = rounds (cases_lt 0 m.rounds);
        first = λ u. rw (ap (λ (x : CallState). x.first) q.1) (first (m.rounds == 0) refl);
        stage = λ r. stage (l.stage (ap S.meaning.reads_only (sym step.op) ∙ r));
        reads_from = step.reads_from low l.from l.reads_from;
      }
        where
          there : HoldsAtPlace S B w.words w.batches j m LoadCurrent
          there = subst (λ (p : Place). HoldsAtPlace S B w.words w.batches j m p) q.0 here

          one_more : d.rounds ≡ m.rounds + 1
          one_more = ap (λ (x : CallState). x.rounds) q.1

          rounds : (0 < m.rounds) ⊎ (m.rounds ≤ 0) → low + d.rounds ≤ B.seq + length w.batches + 1
          rounds (inl a) = omega (arith, one_more, l.first a, there.between.later a, last_is S Lawful B w g)
          rounds (inr a) = omega (arith, one_more, a, l.from)

          first : (b : Bool) → (m.rounds == 0) ≡ b → low ≤ first_round_seq m (seq_of n) b
          first true e = omega (arith, l.from, finds_last (ap loads_current_at q.0))
          first false e = l.first (some e)
            where
              some : (m.rounds == 0) ≡ false → 1 ≤ m.rounds
              some t = at (cases_lt 0 m.rounds)
                where
                  at : (0 < m.rounds) ⊎ (m.rounds ≤ 0) → 1 ≤ m.rounds
                  at (inl a) = a
                  at (inr a) = absurd (let none : m.rounds ≡ 0 = omega (arith, a) in let z : (m.rounds ≡ 0) → ⊥ = λ y. grind (arith, nat_tests) in z none)

          stage : Stage S B low j w.batches m → Stage S B low j w.batches d
          stage (inl a) = absurd (let z : TryCurrent ≡ LoadCurrent = sym a.0 ∙ q.0 in cc)
          stage (inr (inl a)) = absurd (subst (HasBegunTry m) q.0 a.0)
          stage (inr (inr a)) = inr (inr (a.0, omega (arith, a.1, step.made)))
      go (inr (inr q)) = record {
        from = l.from;
        tries = omega (arith, l.tries, q.tries);
        rounds = omega (arith, l.rounds, q.rounds);
        first = λ u. omega (arith, l.first (omega (arith, u, q.rounds)), q.first);
        stage = λ r. stage (l.stage (ap S.meaning.reads_only (sym step.op) ∙ r));
        reads_from = step.reads_from low l.from l.reads_from;
      }
        where
          stage : Stage S B low j w.batches m → Stage S B low j w.batches d
          stage (inl a) = absurd (not_both q.loads (ap loads_current_at a.0))
          stage (inr (inr a)) = inr (inr (a.0, omega (arith, a.1, step.made)))
          stage (inr (inl a)) = tried t.1
            where
              t : (announces_at m.place ≡ false) × Tries S B w j m n d
              t = q.tried (trying a.0).fresh.rounds a.0

              tried : Tries S B w j m n d → Stage S B low j w.batches d
              tried (inl c) = absurd (let z : true ≡ false = sym (ap is_idle c.1) ∙ goes in cc)
              tried (inr (inl c)) = inr (inl (c.0, omega (arith, a.1, c.1, q.tries)))
              tried (inr (inr c)) = lost c.1
                where
                  newer : m.seq < B.seq + length w.batches
                  newer = given_up S Lawful B w g.core j m h (own S Lawful B w g j h) n found t.0 c.0 live

                  lost : (d.place ≡ TryCurrent) ⊎ (MOST_TRIES ≤ m.tries) → Stage S B low j w.batches d
                  lost (inl e) = inl (e, omega (arith, a.1, q.tries, newer))
                  lost (inr e) =
                      let u : low + MOST_TRIES ≤ B.seq + length w.batches = omega (arith, a.1, e, newer) in
                      inr (inr (
                        u,
                        omega (
                          arith,
                          (trying a.0).fresh.above,
                          step.made,
                          ap (λ (k : ℕ). last_ticket_by S B w.batches k j) (last_is S Lawful B w g),
                          tickets_grow S Lawful B w.batches g.core.shared.stands (low + MOST_TRIES) (B.seq + length w.batches) j (omega (arith, start)) u (omega arith) h,
                        ),
                      ))

  -- a call that ends so was announced late, if it only reads
  is_late : d.place ≡ Idle → (o : Outcome) → d.answer ≡ Some o → S.meaning.reads_only m.op ≡ true → IsLate low o
  is_late rest o told reads = go leads
    where
      good_v : MeetsInvariant S Lawful B v
      good_v = step_kept S Lawful sound B w g j m h (own S Lawful B w g j h) n found

      rests : IsAtRest S B v.words v.batches j d
      rests = subst (λ (p : Place). HoldsAtPlace S B v.words v.batches j d p) rest (good_v.core.each j d h (get_or-set_same w.machines j d d (omega (arith, g.core.members, h))))

      tells : LastOutcomeStands S B v.words v.batches j d (Some o)
      tells = subst (LastOutcomeStands S B v.words v.batches j d) told rests.told

      by_outcome : HasTried S B low j w.batches m → (x : Outcome) → LastOutcomeStands S B v.words v.batches j d (Some x) → IsLate low x
      by_outcome a (Answered s false raw steps) t = tt
      by_outcome a (LostCall s) t = absurd t
      by_outcome a (Spent s) t = omega (arith, a.0, t.limit, few S Lawful B w g)
      by_outcome a (Answered s true raw steps) t = at (cases_lt (low + MOST_TRIES) s)
        where
          stands : StatesFollowBatches S Lawful B v.batches
          stands = good_v.core.shared.stands

          upto : s ≤ B.seq + length v.batches
          upto = omega (arith, t.upto, last_is S Lawful B v good_v)

          ticket : last_ticket_by S B v.batches s j ≡ d.made
          ticket = ap (last_ticket_by S B v.batches s) (sym t.call.caller) ∙ (stands.now s t.from upto t.call.place no_call t.call.among).1 ∙ t.call.ticket

          at : (low + MOST_TRIES < s) ⊎ (s ≤ low + MOST_TRIES) → low + MOST_TRIES < s
          at (inl c) = c
          at (inr c) = absurd (omega (
            arith,
            ticket,
            step.made,
            a.1,
            same_ticket S B low j w.batches (step_batches S w.words m n) (low + MOST_TRIES) a.0,
            tickets_grow S Lawful B v.batches stands s (low + MOST_TRIES) j (omega (arith, t.from)) c (omega (arith, a.0, length-append w.batches (step_batches S w.words m n))) h,
          ))

      go : Leaves S B w j m n m.place d → IsLate low o
      go (inl q) = absurd (let z : TryRequest ≡ Idle = sym (ap (λ (x : CallState). x.place) q.1) ∙ rest in cc)
      go (inr (inl q)) = absurd (let z : LoadRequest ≡ Idle = sym (ap (λ (x : CallState). x.place) q.1) ∙ rest in cc)
      go (inr (inr q)) = stage (l.stage reads)
        where
          stage : Stage S B low j w.batches m → IsLate low o
          stage (inl a) = absurd (not_both q.loads (ap loads_current_at a.0))
          stage (inr (inr a)) = by_outcome a o tells
          stage (inr (inl a)) = tried (q.tried (trying a.0).fresh.rounds a.0).1
            where
              tried : Tries S B w j m n d → IsLate low o
              tried (inl c) = late_if_read low o (subst IsReadAnswer told c.0)
              tried (inr (inl c)) = absurd (subst (HasBegunTry d) rest c.0)
              tried (inr (inr c)) = absurd (let z : false ≡ true = sym (ap begins_at rest) ∙ c.0 in cc)

  ends_late : d.place ≡ Idle → (o : Outcome) → d.answer ≡ Some o → TellsOutcome S m d o → EndsLate S low m.op o
  ends_late rest (Answered s true raw steps) told t = is_late rest (Answered s true raw steps) told
  ends_late rest (Answered s false raw steps) told t = t.3 low l.reads_from
  ends_late rest (Spent s) told t = is_late rest (Spent s) told
  ends_late rest (LostCall s) told t = absurd t

-- Events. The caller j is idle, or its open call has lost no more than this.
module _ (S : Setup) (Lawful : List ℕ → Type 0) (sound : IsSoundMeaning S.meaning Lawful (first_operation_cell S) S.cells) (B : TableStart) (j : ℕ) (member : j < S.callers) (low : ℕ) (start : B.seq ≤ low) where
  abbrev pub LostAt : Moment → Type 0
  LostAt w = IsOpen (machine_in w j).place → Lost S B low j w.batches (machine_in w j)

  -- an event leads from one world to the other, begins these calls of the caller and ends these
  record Leads (w v : Moment) (more : List (List ℕ)) (os : List Outcome) : Type 0 where
    pub few : length os ≤ 1
    pub open_before : 0 < length os → IsOpen (machine_in w j).place
    pub keeps : LostAt w → LostAt v
    pub begins : 0 < length more → LostAt v
    pub late : LostAt w → All (EndsLate S low (machine_in w j).op) os

  none_late : (op : List ℕ) → All (EndsLate S low op) []
  none_late op k d l = absurd (omega arith)

  -- the caller's machine stays
  quiet : (w v : Moment) → machine_in v j ≡ machine_in w j → (more : List Batch) → v.batches ≡ w.batches ++ more → Leads w v [] []
  quiet w v e more f = record {
    few = omega arith;
    open_before = λ u. absurd (omega arith);
    keeps = λ l o. rw (e, f) (lost_grows S B low j w.batches more (machine_in w j) (l (subst (λ (x : CallState). IsOpen x.place) e o)));
    begins = λ u. absurd (omega arith);
    late = λ l. none_late (machine_in w j).op;
  }

  -- a call that begins has lost nothing
  fresh : (bs : List Batch) (m : CallState) (op : List ℕ) → low ≤ B.seq + length bs → Lost S B low j bs (begin_call S m op)
  fresh bs m op l = record {
    from = l;
    tries = omega (arith, l);
    rounds = omega (arith, l);
    first = λ u. absurd (omega (arith, u));
    stage = λ r. inl (ap first_place r, omega (arith, l));
    reads_from = opened_reads S m op low;
  }

  -- a turn of the caller
  turn : (w : Moment) → MeetsInvariant S Lawful B w → (n : ℕ) → IsFoundBy (want S (machine_in w j)) w.words n
      → Leads w (after_step S j (machine_in w j) n w) [] (outcome_of_step (machine_in w j) (take_word S (machine_in w j) n))
  turn w g n found = go (idle_or_open m.place)
    where
      m : CallState
      m = machine_in w j

      d : CallState
      d = take_word S m n

      v : Moment
      v = after_step S j m n w

      is_d : machine_in v j ≡ d
      is_d = now S Lawful sound B w g j member n found

      go : (m.place ≡ Idle) ⊎ IsOpen m.place → Leads w v [] (outcome_of_step m d)
      go (inl q) = subst (Leads w v []) (sym (says_idle S Lawful sound B w g j member n found q)) (quiet w v (is_d ∙ same_idle S Lawful sound B w g j member n found q) (step_batches S w.words m n) refl)
      go (inr live) = end (is_idle d.place) refl
        where
          end : (b : Bool) → is_idle d.place ≡ b → Leads w v [] (outcome_of_step m d)
          end false e = subst (Leads w v []) (sym (says_ended S Lawful sound B w g j member n found live None (none_ended d d.place e))) (record {
            few = omega arith;
            open_before = λ u. live;
            keeps = λ l o. subst (Lost S B low j v.batches) (sym is_d) (lost_grows S B low j w.batches (step_batches S w.words m n) d (lost_taken S Lawful sound B w g j member n found live low start (l live) e));
            begins = λ u. absurd (omega arith);
            late = λ l. none_late m.op;
          })
          end true e =
              let rest = idle_is d.place e in
              let t = (taken S Lawful sound B w g j member n found live).ends rest in
              subst (Leads w v []) (sym (says_ended S Lawful sound B w g j member n found live (Some t.0) (ap (λ (p : Place). ended_outcome_at p d) rest ∙ t.1))) (record {
                few = omega arith;
                open_before = λ u. live;
                keeps = λ l o. absurd (let z : true ≡ false = sym e ∙ ap (λ (x : CallState). is_idle x.place) (sym is_d) ∙ o in cc);
                begins = λ u. absurd (omega arith);
                late = λ l. all_one (EndsLate S low m.op) t.0 (ends_late S Lawful sound B w g j member n found live low start (l live) rest t.0 t.1 t.2);
              })

  -- a new machine takes the place of the caller's
  revival : (w : Moment) → MeetsInvariant S Lawful B w → low ≤ B.seq + length w.batches → (made : ℕ) → MayHappen S w (Revives j made)
      → Leads w (after_event S w (Revives j made)) [] (outcome_of_loss (committed_seq w.words) (is_idle (machine_in w j).place) (is_idle (machine_in (after_event S w (Revives j made)) j).place))
  revival w g u made may = record {
    few = few_of m_idle v_idle;
    open_before = λ z. open_of m_idle v_idle refl z;
    keeps = λ l o. subst (Lost S B low j w.batches) (sym here) (lost_next l (subst (λ (x : CallState). IsOpen x.place) here o));
    begins = λ z. absurd (omega arith);
    late = λ l. late_of m_idle v_idle;
  }
    where
      m : CallState
      m = machine_in w j

      v : Moment
      v = after_event S w (Revives j made)

      b : Bool
      b = announces_open_call (remains_of S w.words j)

      next : CallState
      next = revived_machine S (remains_of S w.words j) j made

      here : machine_in v j ≡ next
      here = get_or-set_same w.machines j next no_machine (omega (arith, g.core.members, member))

      held : HoldsAtPlace S B w.words w.batches j m m.place
      held = g.core.each j m member (own S Lawful B w g j member)

      m_idle : Bool
      m_idle = is_idle m.place

      v_idle : Bool
      v_idle = is_idle (machine_in v j).place

      few_of : (x y : Bool) → length (outcome_of_loss (committed_seq w.words) x y) ≤ 1
      few_of true y = omega arith
      few_of false true = omega arith
      few_of false false = omega arith

      open_of : (x y : Bool) → is_idle m.place ≡ x → 0 < length (outcome_of_loss (committed_seq w.words) x y) → IsOpen m.place
      open_of true y e z = absurd (omega (arith, z))
      open_of false y e z = e

      late_of : (x y : Bool) → All (EndsLate S low m.op) (outcome_of_loss (committed_seq w.words) x y)
      late_of true y = none_late m.op
      late_of false true = all_one (EndsLate S low m.op) (LostCall (committed_seq w.words)) (omega (arith, u, last_is S Lawful B w g))
      late_of false false = none_late m.op

      -- a read that goes on has tried: it is announced
      tried : seq_of (announcement_of S w.words j) ≡ m.made → Stage S B low j w.batches m → HasTried S B low j w.batches next
      tried says (inl a) = absurd (omega (arith, says, (subst (λ (p : Place). HoldsAtPlace S B w.words w.batches j m p) a.0 held).fresh.newer))
      tried says (inr (inl a)) = absurd (omega (arith, says, (tries_at S Lawful B w.words w.batches g.core.shared j m m.place held a.0).0.fresh.newer))
      tried says (inr (inr a)) = (a.0, omega (arith, a.1, may.2.0))

      lost_next : LostAt w → IsOpen next.place → Lost S B low j w.batches next
      lost_next l o =
          let p : Lost S B low j w.batches m = l (may.2.1 o) in
          let none = none_lost g.core j member may.1 made b in
          let says = says_if g.core j member may.1 made b may.2 o in
          record {
            from = p.from;
            tries = omega (arith, p.from, none.0);
            rounds = omega (arith, p.from, none.1);
            first = λ z. absurd (omega (arith, z, none.1));
            stage = λ r. inr (inr (tried says (p.stage (ap S.meaning.reads_only (sym (op_if g.core j member may.1 made b refl may.2 o)) ∙ r))));
            reads_from = reads_if g.core j member may.1 made b low;
          }

  leads_on : (w : Moment) → MeetsInvariant S Lawful B w → low ≤ B.seq + length w.batches → (e : Event) → MayHappen S w e → Leads w (after_event S w e) (operation_begun e j) (outcome_of_event S w e j)
  leads_on w g u (Loads c) may = quiet w (after_event S w (Loads c)) refl [] (sym (append-nil w.batches))
  leads_on w g u (Evicts k) may = quiet w (after_event S w (Evicts k)) refl [] (sym (append-nil w.batches))
  leads_on w g u (Raises c) may = quiet w (after_event S w (Raises c)) refl [] (sym (append-nil w.batches))
  leads_on w g u (Revives i made) may = go (cases_eq i j)
    where
      v : Moment
      v = after_event S w (Revives i made)

      go : (i ≡ j) ⊎ (i ≡ j → ⊥) → Leads w v [] (outcome_of_event S w (Revives i made) j)
      go (inr away) =
          subst (λ (b : Bool). Leads w v [] (if_so b (outcome_of_loss (committed_seq w.words) (is_idle (machine_in w i).place) (is_idle (machine_in v i).place)))) (sym (ne_eqb j i (λ e. away (sym e))))
          (quiet w v (get_or-set_other w.machines i j (revived_machine S (remains_of S w.words i) i made) no_machine (λ e. away (sym e))) [] (sym (append-nil w.batches)))
      go (inl same) =
          let at_j : Leads w (after_event S w (Revives j made)) [] (outcome_of_event S w (Revives j made) j) =
          subst (λ (b : Bool). Leads w (after_event S w (Revives j made)) [] (if_so b (outcome_of_loss (committed_seq w.words) (is_idle (machine_in w j).place) (is_idle (machine_in (after_event S w (Revives j made)) j).place)))) (sym (eq-eqb j j refl))
          (revival w g u made (subst (λ (x : ℕ). MayHappen S w (Revives x made)) same may)) in
          subst (λ (x : ℕ). Leads w (after_event S w (Revives x made)) [] (outcome_of_event S w (Revives x made) j)) (sym same) at_j
  leads_on w g u (Begins i op) may = go (cases_eq i j)
    where
      v : Moment
      v = after_event S w (Begins i op)

      go : (i ≡ j) ⊎ (i ≡ j → ⊥) → Leads w v (if_so (j == i) (op ∷ [])) []
      go (inr away) =
          subst (λ (b : Bool). Leads w v (if_so b (op ∷ [])) []) (sym (ne_eqb j i (λ e. away (sym e))))
          (quiet w v (get_or-set_other w.machines i j (begin_call S (machine_in w i) op) no_machine (λ e. away (sym e))) [] (sym (append-nil w.batches)))
      go (inl same) =
          let here : machine_in v j ≡ begin_call S (machine_in w i) op = ap (λ (x : ℕ). machine_in v x) (sym same) ∙ get_or-set_same w.machines i (begin_call S (machine_in w i) op) no_machine (omega (arith, g.core.members, may.0)) in
          let none : LostAt v = λ o. subst (Lost S B low j w.batches) (sym here) (fresh w.batches (machine_in w i) op u) in
          record {
            few = omega arith;
            open_before = λ z. absurd (omega arith);
            keeps = λ l. none;
            begins = λ z. none;
            late = λ l. none_late (machine_in w j).op;
          }
  leads_on w g u (Turns i) may = go (cases_eq i j)
    where
      v : Moment
      v = after_event S w (Turns i)

      n : ℕ
      n = word_found S w.words (machine_in w i)

      go : (i ≡ j) ⊎ (i ≡ j → ⊥) → Leads w v [] (if_so (j == i) (outcome_of_step (machine_in w i) (machine_in v i)))
      go (inr away) =
          subst (λ (b : Bool). Leads w v [] (if_so b (outcome_of_step (machine_in w i) (machine_in v i)))) (sym (ne_eqb j i (λ e. away (sym e))))
          (quiet w v (not_now S Lawful sound B w g i may n (found_now S w.words (machine_in w i)) j away) (step_batches S w.words (machine_in w i) n) refl)
      go (inl same) =
          let f : IsFoundBy (want S (machine_in w j)) w.words (word_found S w.words (machine_in w j)) = found_now S w.words (machine_in w j) in
          let at_j : Leads w (after_event S w (Turns j)) [] (if_so (j == j) (outcome_of_step (machine_in w j) (machine_in (after_event S w (Turns j)) j))) =
          subst (λ (b : Bool). Leads w (after_event S w (Turns j)) [] (if_so b (outcome_of_step (machine_in w j) (machine_in (after_event S w (Turns j)) j)))) (sym (eq-eqb j j refl))
          (subst (λ (x : CallState). Leads w (after_event S w (Turns j)) [] (outcome_of_step (machine_in w j) x)) (sym (now S Lawful sound B w g j member (word_found S w.words (machine_in w j)) f)) (turn w g (word_found S w.words (machine_in w j)) f)) in
          subst (λ (x : ℕ). Leads w (after_event S w (Turns x)) [] (if_so (j == x) (outcome_of_step (machine_in w x) (machine_in (after_event S w (Turns x)) x)))) (sym same) at_j

  later : (w : Moment) (e : Event) → low ≤ B.seq + length w.batches → low ≤ B.seq + length (after_event S w e).batches
  later w e l = omega (arith, l, (no_fewer w (after_event S w e) (goes_on S w (e ∷ []))).0)

  -- so it is at the end of each schedule
  lost_run : (es : List Event) (w : Moment) → MeetsInvariant S Lawful B w → IsSchedule S w es → low ≤ B.seq + length w.batches → LostAt w → LostAt (after_events S w es)
  lost_run [] w g s u l = l
  lost_run (e ∷ es) w g s u l = lost_run es (after_event S w e) (event_good S Lawful B w g sound e s.0) s.1 (later w e u) ((leads_on w g u e s.0).keeps l)

  -- and each call from the n-th on ends late, if the n-th has lost no more
  pub ends_late_run : (es : List Event) (w : Moment) → MeetsInvariant S Lawful B w → IsSchedule S w es → low ≤ B.seq + length w.batches
      → (before : ℕ) (ops : List (List ℕ)) (outs : List Outcome) → HasCalls S B before w j ops outs
      → (n : ℕ) → (n < length ops → LostAt w)
      → (y : ℕ) → n ≤ length outs + y → y < length (outcomes S w es j) → EndsLate S low (get_or (ops ++ operations_begun es j) (length outs + y) []) (get_or (outcomes S w es j) y no_outcome)
  ends_late_run [] w g s u before ops outs c n l y a b = absurd (omega (arith, b))
  ends_late_run (e ∷ es) w g s u before ops outs c n l y a b = go (cases_lt y (length now_ended))
      (λ p q. ends_late_run es (after_event S w e) (event_good S Lawful B w g sound e s.0) s.1 (later w e u) before (ops ++ operation_begun e j) (outs ++ now_ended) next n lost_next (y - length now_ended) p q)
    where
      now_ended : List Outcome
      now_ended = outcome_of_event S w e j

      rest : List Outcome
      rest = outcomes S (after_event S w e) es j

      led : Leads w (after_event S w e) (operation_begun e j) now_ended
      led = leads_on w g u e s.0

      next : HasCalls S B before (after_event S w e) j (ops ++ operation_begun e j) (outs ++ now_ended)
      next = calls_kept S Lawful sound B w g before j member ops outs c e s.0

      lost_next : n < length (ops ++ operation_begun e j) → LostAt (after_event S w e)
      lost_next m = at (cases_lt n (length ops))
        where
          at : (n < length ops) ⊎ (length ops ≤ n) → LostAt (after_event S w e)
          at (inl k) = led.keeps (l k)
          at (inr k) = led.begins (omega (arith, m, k, length-append ops (operation_begun e j)))

      all_ops : List (List ℕ)
      all_ops = ops ++ (operation_begun e j ++ operations_begun es j)

      -- the operation of call y, and how it ends
      Ends : Outcome → Type 0
      Ends o = EndsLate S low (get_or all_ops (length outs + y) []) o

      go : (y < length now_ended) ⊎ (length now_ended ≤ y)
          → (n ≤ length (outs ++ now_ended) + (y - length now_ended) → y - length now_ended < length rest → EndsLate S low (get_or ((ops ++ operation_begun e j) ++ operations_begun es j) (length (outs ++ now_ended) + (y - length now_ended)) []) (get_or rest (y - length now_ended) no_outcome))
          → Ends (get_or (now_ended ++ rest) y no_outcome)
      go (inl m) f =
          let o = c.open_call (led.open_before (omega (arith, m))) in
          let this : length outs ≡ length outs + y = omega (arith, m, led.few) in
          let op : (machine_in w j).op ≡ get_or all_ops (length outs + y) [] =
          o.1 ∙ sym (get_or_append_left ops (operation_begun e j ++ operations_begun es j) [] (length outs) (omega (arith, o.0))) ∙ ap (λ (x : ℕ). get_or all_ops x []) this in
          subst Ends (sym (get_or_append_left now_ended rest no_outcome y m))
          (subst (λ (p : List ℕ). EndsLate S low p (get_or now_ended y no_outcome)) op (led.late (l (omega (arith, o.0, a, m, led.few))) y no_outcome m))
      go (inr m) f =
          let t = length-append now_ended rest in
          let k : length (outs ++ now_ended) + (y - length now_ended) ≡ length outs + y = omega (arith, m, length-append outs now_ended) in
          let op : get_or ((ops ++ operation_begun e j) ++ operations_begun es j) (length (outs ++ now_ended) + (y - length now_ended)) [] ≡ get_or all_ops (length outs + y) [] =
          ap (λ (xs : List (List ℕ)). get_or xs (length (outs ++ now_ended) + (y - length now_ended)) []) (append_assoc ops (operation_begun e j) (operations_begun es j)) ∙ ap (λ (x : ℕ). get_or all_ops x []) k in
          subst Ends (sym (get_or-append_right now_ended rest (length now_ended) y no_outcome refl m))
          (subst (λ (p : List ℕ). EndsLate S low p (get_or rest (y - length now_ended) no_outcome)) op (f (omega (arith, a, m, length-append outs now_ended)) (omega (arith, b, m, t))))

-- What an open call has lost since a moment at which its caller was idle.
pub has_lost : (S : Setup) (Lawful : List ℕ → Type 0) → IsSoundMeaning S.meaning Lawful (first_operation_cell S) S.cells → (B : TableStart) (w : Moment) → MeetsInvariant S Lawful B w → (es : List Event) → IsSchedule S w es
    → (i : ℕ) → i < S.callers → IsIdle (machine_in w i) → IsOpen (machine_in (after_events S w es) i).place
    → HasLost S (machine_in (after_events S w es) i) (B.seq + length (after_events S w es).batches - (B.seq + length w.batches))
has_lost S Lawful sound B w g es s i member rest live = record {
  tries = omega (arith, l.tries);
  rounds = omega (arith, l.rounds);
  tried = λ r u. tried u (l.stage r);
}
  where
    v : Moment
    v = after_events S w es

    m : CallState
    m = machine_in v i

    low : ℕ
    low = B.seq + length w.batches

    good : MeetsInvariant S Lawful B v
    good = run_good S Lawful sound B es w g s

    here : HoldsAtPlace S B v.words v.batches i m m.place
    here = good.core.each i m member (own S Lawful B v good i member)

    l : Lost S B low i v.batches m
    l = lost_run S Lawful sound B i member low (omega arith) es w g s (omega arith) (λ o. absurd (let z : true ≡ false = sym (ap is_idle rest) ∙ o in cc)) live

    tried : 1 ≤ m.rounds → Stage S B low i v.batches m → MOST_TRIES ≤ B.seq + length v.batches - low
    tried u (inl a) = absurd (omega (arith, u, (subst (λ (p : Place). HoldsAtPlace S B v.words v.batches i m p) a.0 here).fresh.rounds))
    tried u (inr (inl a)) = absurd (omega (arith, u, (tries_at S Lawful B v.words v.batches good.core.shared i m m.place here a.0).0.fresh.rounds))
    tried u (inr (inr a)) = omega (arith, a.0)
