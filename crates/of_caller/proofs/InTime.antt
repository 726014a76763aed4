-- The report of what a schedule leaves respects its real time. The marks up to any place are those
-- of a front of the events, each entry is of a call that has ended or of an open one that a batch
-- has, and so the core's laws on real time speak of any two entries.
use Rattle.std.proofs.Common.{◌≡◌, ◌==◌, ℕ, zero, suc, ◌+◌, ◌<◌, ◌≤◌, ◌⊎◌, inl, inr, Bool, true, false, cond, if◌then◌else◌, IsTrue, List, [], ◌∷◌, ◌++◌, length, get_or, map, take, drop, refl, sym, ap, subst, ◌∙◌, arith, length-append, length-take-le}
use Rattle.std.specs.List.{All, filter, AllByRecursion as Each}
use Rattle.std.proofs.lemmas.Bool.{eq-eqb}
use Rattle.std.proofs.lemmas.List.{length-drop, length-map}
use Rattle.std.proofs.lemmas.Bool.Decides.{eqb_tells}
use Rattle.std.proofs.lemmas.List.Elements.{All-from_recursion, recursion_from_All}
use Rattle.of_cell.specs.Words.{seq_of}
use Rattle.of_cell.proofs.Order.{seq_word}
use Rattle.of_mem.specs.Places.{ticket_cell_at}
use Rattle.of_mem.proofs.Lists.{take_none}
use Rattle.of_script.specs.declared.instr.Reply.{Reply}
use Rattle.of_script.specs.declared.instr.TheConstants.{MOST_INSTRS}
use Rattle.of_eval.specs.Record.{recovered_data_word, record_number, answer_entry, answer_entries, open_entry, OpenCall, BeyondAnswers, end_state_of, IsLawfulRecord}
use Rattle.of_plan.specs.declared.answer.Answer.{Answer}
use Rattle.of_plan.specs.declared.answer.Ending.{Ending}
use Rattle.of_plan.specs.declared.answer.Ending.TheVariants.{Done, Stopped, Spent as RanOut}
use Rattle.of_plan.specs.Plan.{Plan, scripts_of}
use Rattle.of_plan.specs.Report.{Entry, Start, Report, finished_of, entries_of}
use Rattle.of_plan.specs.Ended.{Ended, answers_of, ending_of}
use Rattle.of_plan.proofs.HistoriesLists.{each_append}
use Rattle.of_core.specs.declared.bank.Turn.{Turn}
use Rattle.of_core.specs.declared.bank.Turn.TheVariants.{Idle as NoCall, Open, Ended as EndedTurn}
use Rattle.of_core.specs.declared.place.Outcome.{Outcome}
use Rattle.of_core.specs.declared.place.Outcome.TheVariants.{Answered, Spent, Lost}
use Rattle.of_core.specs.Table.{Setup, committed_seq}
use Rattle.of_core.specs.Machine.{Call, no_call, is_idle}
use Rattle.of_core.specs.TableMoment.{Moment, TableStart}
use Rattle.of_core.specs.History.{batch_at}
use Rattle.of_core.specs.Moment.{table_word_count}
use Rattle.of_core.specs.Turn.{turn_of}
use Rattle.of_core.specs.WordsMatch.{MayStart}
use Rattle.of_core.specs.Events.{Event, Begins, Turns, Loads, Evicts, Raises, Revives, after_event, machine_in, after_events, IsSchedule, start_ticket}
use Rattle.of_core.specs.Calls.{if_so, operations_begun, outcomes, outcome_of_step, outcome_of_loss, outcome_of_event, operation_begun, outcome_of_turn, no_outcome, outcome_seq, IsNotBefore, NoneSpent}
use Rattle.of_core.specs.Linear.{HasNotBegunBy as NotYet, CallEndsBefore as Before}
use Rattle.of_core.specs.Laws.{RealTime, LateCalls}
use Rattle.of_caller.specs.Tables.{plan_setup, IsLawfulFor, opening_at, operation_of}
use Rattle.of_caller.specs.Ends.{TellsAnswer, AreAnswers}
use Rattle.of_caller.specs.Moments.{batch_calls}
use Rattle.of_caller.specs.Runs.{IsRunOfPlan}
use Rattle.of_caller.specs.InTime.{Mark, BeginsCall, EndsCall, begun_in, over_in, EndsBefore, StandsBehind, RespectsTime, marks_of, marks_in, SchedulesRespectTime}
use Rattle.of_caller.proofs.RecordsLists.{told_at}
use Rattle.of_caller.proofs.RecordsCalls.{call_at}
use Rattle.of_caller.proofs.RecordsFacts.{CallerFacts, IsLast}
use Rattle.of_caller.proofs.RecordsLawful.{MomentFacts, narrow}
use Rattle.of_caller.proofs.RecordsOwn.{each_answer, stopped_unspent}
use Rattle.of_caller.proofs.Records.{facts}
use Rattle.of_caller.proofs.Schedules.{ticket_is}

-- ---- marks and events

-- an event has at most one mark
few_marks : (S : Setup) (w : Moment) (e : Event) → (marks_of S w e ≡ []) ⊎ ((m : Mark) × (marks_of S w e ≡ m ∷ []))
few_marks S w (Begins i op) = inr (BeginsCall i, refl)
few_marks S w (Loads c) = inl refl
few_marks S w (Evicts k) = inl refl
few_marks S w (Raises c) = inl refl
few_marks S w (Revives i made) = go (is_idle (machine_in w i).place) (is_idle (machine_in (after_event S w (Revives i made)) i).place)
  where
    go : (was now : Bool) → (map (λ (o : Outcome). EndsCall i) (outcome_of_loss (committed_seq w.words) was now) ≡ []) ⊎ ((m : Mark) × (map (λ (o : Outcome). EndsCall i) (outcome_of_loss (committed_seq w.words) was now) ≡ m ∷ []))
    go true now = inl refl
    go false true = inr (EndsCall i, refl)
    go false false = inl refl
few_marks S w (Turns i) = go (turn_of (machine_in w i) (machine_in (after_event S w (Turns i)) i))
  where
    go : (t : Turn) → (map (λ (o : Outcome). EndsCall i) (outcome_of_turn t) ≡ []) ⊎ ((m : Mark) × (map (λ (o : Outcome). EndsCall i) (outcome_of_turn t) ≡ m ∷ []))
    go NoCall = inl refl
    go Open = inl refl
    go (EndedTurn o) = inr (EndsCall i, refl)

-- so the first marks are those of a front of the events
cut : (S : Setup) (es : List Event) (w : Moment) (k : ℕ) → (j : ℕ) × (take k (marks_in S w es) ≡ marks_in S w (take j es))
cut S es w zero = (0, take_none (marks_in S w es) ∙ sym (ap (marks_in S w) (take_none es)))
cut S [] w (suc k) = (0, refl)
cut S (e ∷ es) w (suc k) = elim (few_marks S w e) [
  | inl none ↦
      let more = cut S es (after_event S w e) (suc k) in
      (suc more.0, ap (λ (ms : List Mark). take (suc k) (ms ++ marks_in S (after_event S w e) es)) none ∙ more.1 ∙ sym (ap (λ (ms : List Mark). ms ++ marks_in S (after_event S w e) (take more.0 es)) none))
  | inr one ↦
      let more = cut S es (after_event S w e) k in
      (suc more.0, ap (λ (ms : List Mark). take (suc k) (ms ++ marks_in S (after_event S w e) es)) one.1 ∙ ap (λ (ms : List Mark). one.0 ∷ ms) more.1 ∙ sym (ap (λ (ms : List Mark). ms ++ marks_in S (after_event S w e) (take more.0 es)) one.1))
]

begun_append : (c : ℕ) (ms ns : List Mark) → begun_in c (ms ++ ns) ≡ begun_in c ms + begun_in c ns
begun_append c [] ns = omega arith
begun_append c (BeginsCall d ∷ ms) ns = omega (arith, begun_append c ms ns)
begun_append c (EndsCall d ∷ ms) ns = begun_append c ms ns

over_append : (c : ℕ) (ms ns : List Mark) → over_in c (ms ++ ns) ≡ over_in c ms + over_in c ns
over_append c [] ns = omega arith
over_append c (BeginsCall d ∷ ms) ns = over_append c ms ns
over_append c (EndsCall d ∷ ms) ns = omega (arith, over_append c ms ns)

-- fewer marks have fewer ends
over_few : (c k : ℕ) (ms : List Mark) → over_in c (take k ms) ≤ over_in c ms
over_few c zero [] = omega arith
over_few c zero (m ∷ ms) = omega arith
over_few c (suc k) [] = omega arith
over_few c (suc k) (BeginsCall d ∷ ms) = over_few c k ms
over_few c (suc k) (EndsCall d ∷ ms) = omega (arith, over_few c k ms)

-- an end begins no call
no_begins : (c i : ℕ) (os : List Outcome) → begun_in c (map (λ (o : Outcome). EndsCall i) os) ≡ 0
no_begins c i [] = refl
no_begins c i (o ∷ os) = no_begins c i os

-- they count the calls of the events
begun_one : (S : Setup) (w : Moment) (c : ℕ) (e : Event) → begun_in c (marks_of S w e) ≡ length (operation_begun e c)
begun_one S w c (Loads a) = refl
begun_one S w c (Evicts k) = refl
begun_one S w c (Raises a) = refl
begun_one S w c (Revives i made) = no_begins c i (outcome_of_loss (committed_seq w.words) (is_idle (machine_in w i).place) (is_idle (machine_in (after_event S w (Revives i made)) i).place))
begun_one S w c (Begins i op) = go (c == i)
  where
    go : (b : Bool) → (if b then 1 else 0) + 0 ≡ length (if_so b (op ∷ []))
    go true = refl
    go false = refl
begun_one S w c (Turns i) = no_begins c i (outcome_of_step (machine_in w i) (machine_in (after_event S w (Turns i)) i))

-- one for each of these, where it is so
abbrev ends_with : Bool → List Outcome → ℕ
ends_with b [] = 0
ends_with b (o ∷ os) = (if b then 1 else 0) + ends_with b os

-- and ends one call of its caller
one_over : (c i : ℕ) (os : List Outcome) → over_in c (map (λ (o : Outcome). EndsCall i) os) ≡ length (if_so (c == i) os)
one_over c i os = all os ∙ go (c == i) os
  where
    all : (os : List Outcome) → over_in c (map (λ (o : Outcome). EndsCall i) os) ≡ ends_with (c == i) os
    all [] = refl
    all (o ∷ os) = ap (λ (n : ℕ). (if c == i then 1 else 0) + n) (all os)

    go : (b : Bool) (os : List Outcome) → ends_with b os ≡ length (if_so b os)
    go true [] = refl
    go true (o ∷ os) = omega (arith, go true os)
    go false [] = refl
    go false (o ∷ os) = omega (arith, go false os)

over_one : (S : Setup) (w : Moment) (c : ℕ) (e : Event) → over_in c (marks_of S w e) ≡ length (outcome_of_event S w e c)
over_one S w c (Loads a) = refl
over_one S w c (Evicts k) = refl
over_one S w c (Raises a) = refl
over_one S w c (Begins i op) = refl
over_one S w c (Turns i) = one_over c i (outcome_of_step (machine_in w i) (machine_in (after_event S w (Turns i)) i))
over_one S w c (Revives i made) = one_over c i (outcome_of_loss (committed_seq w.words) (is_idle (machine_in w i).place) (is_idle (machine_in (after_event S w (Revives i made)) i).place))

begun_is : (S : Setup) (es : List Event) (w : Moment) (c : ℕ) → begun_in c (marks_in S w es) ≡ length (operations_begun es c)
begun_is S [] w c = refl
begun_is S (e ∷ es) w c = omega (arith, begun_append c (marks_of S w e) (marks_in S (after_event S w e) es), begun_one S w c e, begun_is S es (after_event S w e) c, length-append (operation_begun e c) (operations_begun es c))

over_is : (S : Setup) (es : List Event) (w : Moment) (c : ℕ) → over_in c (marks_in S w es) ≡ length (outcomes S w es c)
over_is S [] w c = refl
over_is S (e ∷ es) w c = omega (arith, over_append c (marks_of S w e) (marks_in S (after_event S w e) es), over_one S w c e, over_is S es (after_event S w e) c, length-append (outcome_of_event S w e c) (outcomes S (after_event S w e) es c))

-- ---- lists

-- what holds of each entry of each caller holds of all entries
of_callers : (P : Entry → Type 0) (n : ℕ) (es : List Entry) → Each (λ e. e.caller < n) es → ((c : ℕ) → c < n → Each P (filter (λ e. e.caller == c) es)) → Each P es
of_callers P n [] known own = tt
of_callers P n (e ∷ es) known own = (
  (subst (λ (b : Bool). Each P (cond b (e ∷ filter (λ f. f.caller == e.caller) es) (filter (λ f. f.caller == e.caller) es))) (eq-eqb e.caller e.caller refl) (own e.caller known.0)).0,
  of_callers P n es known.1 (λ c lt. tail (e.caller == c) (filter (λ f. f.caller == c) es) (own c lt)),
)
  where
    tail : (b : Bool) (fs : List Entry) → Each P (cond b (e ∷ fs) fs) → Each P fs
    tail true fs h = h.1
    tail false fs h = h

-- where no call was spent there are as many answers as outcomes
as_many : (outs : List Outcome) (answers : List Answer) → AreAnswers outs answers → NoneSpent outs → length answers ≡ length outs
as_many [] [] told none = refl
as_many [] (a ∷ others) told none = absurd told
as_many (Answered s announced raw steps ∷ outs) [] told none = absurd told
as_many (Answered s announced raw steps ∷ outs) (a ∷ others) told none = ap suc (as_many outs others told.1 none.1)
as_many (Spent s ∷ outs) answers told none = absurd none.0
as_many (Lost s ∷ outs) answers told none = absurd none.0

-- ---- two entries

-- the core's laws on real time, at a table with this setup
pub record KeepsTime (S : Setup) (Lawful : List ℕ → Type 0) : Type 0 where
  pub real_time : RealTime S Lawful
  pub late : LateCalls S Lawful

-- The events lead from the start to what a run has left: the run's outcomes are those of the
-- events, and so are the calls of its batches.
module _ (p : Plan) (time : KeepsTime (plan_setup p) (IsLawfulFor p)) (s : Start) (B : TableStart) (may : MayStart (plan_setup p) (IsLawfulFor p) B) (w : Moment) (e : Ended) (left : IsRunOfPlan p s B w e)
    (es : List Event) (schedule : IsSchedule (plan_setup p) (opening_at p B) es)
    (outs_are : (c : ℕ) → c < p.callers → left.outcomes c ≡ outcomes (plan_setup p) (opening_at p B) es c)
    (calls_are : (k : ℕ) → batch_calls B w k ≡ (batch_at B (after_events (plan_setup p) (opening_at p B) es).batches k).calls)
    (as_long : length w.batches ≡ length (after_events (plan_setup p) (opening_at p B) es).batches) where
  abbrev pub S : Setup
  S = plan_setup p

  abbrev pub O : Moment
  O = opening_at p B

  abbrev pub outs : ℕ → List Outcome
  outs c = outcomes S O es c

  abbrev marks : List Mark
  marks = marks_in S O es

  f : MomentFacts p s B w e left.operations left.outcomes
  f = facts p s B w e left

  -- the entry of a call that has ended
  pub record IsAnswered (g : Entry) : Type 0 where
    pub number : ℕ
    pub among : number < length (outs g.caller)
    pub index : g.index ≡ finished_of s g.caller + number
    pub at_seq : outcome_seq (get_or (outs g.caller) number no_outcome) ≡ g.seq
    pub beyond : (k : ℕ) → IsNotBefore k (get_or (outs g.caller) number no_outcome) → (k ≤ g.seq) × (IsTrue g.announced → k < g.seq)

  -- the entry of an open call that a batch has
  pub record IsOpenCall (g : Entry) : Type 0 where
    pub index : g.index ≡ finished_of s g.caller + length (outs g.caller)
    pub from : B.seq < g.seq
    pub upto : g.seq ≤ B.seq + length w.batches
    pub place : ℕ
    pub among : place < length (batch_calls B w g.seq)
    pub caller : (call_at B w g.seq place).caller ≡ g.caller
    pub ticket : (call_at B w g.seq place).ticket ≡ g.index + 1

  -- batch k has the call of caller c with this ticket
  pub record HasNext (c t k : ℕ) : Type 0 where
    pub from : B.seq < k
    pub upto : k ≤ B.seq + length w.batches
    pub place : ℕ
    pub among : place < length (batch_calls B w k)
    pub caller : (call_at B w k place).caller ≡ c
    pub ticket : (call_at B w k place).ticket ≡ t

  abbrev pub IsOfCall : Entry → Type 0
  IsOfCall g = IsAnswered g ⊎ IsOpenCall g

  module _ (c : ℕ) (lt : c < p.callers) where
    abbrev n : ℕ
    n = finished_of s c

    own : CallerFacts p s B w e c (left.operations c) (left.outcomes c)
    own = f.callers c lt

    by_outcome : (o : Outcome) (a : Answer) → TellsAnswer o a → (outcome_seq o ≡ a.seq) × ((k : ℕ) → IsNotBefore k o → (k ≤ a.seq) × (IsTrue a.announced → k < a.seq))
    by_outcome (Spent t) a tells = absurd tells
    by_outcome (Lost t) a tells = absurd tells
    by_outcome (Answered t true raw steps) a tells = (sym tells.0, λ k b. (omega (arith, b, tells.0), λ announced. omega (arith, b, tells.0)))
    by_outcome (Answered t false raw steps) a tells = (sym tells.0, λ k b. (omega (arith, b, tells.0), λ announced. let z : false ≡ true = sym tells.1 ∙ announced in absurd (cc)))

    answered : (y : ℕ) (none : Answer) → y < length (answers_of e c) → IsOfCall (answer_entry c (n + y) (get_or (answers_of e c) y none))
    answered y none among =
        let at = subst (λ (os : List Outcome). (y < length os) × TellsAnswer (get_or os y no_outcome) (get_or (answers_of e c) y none)) (outs_are c lt) (told_at (left.outcomes c) (answers_of e c) own.tells.told own.tells.answers_first y none among) in
        let by = by_outcome (get_or (outs c) y no_outcome) (get_or (answers_of e c) y none) at.1 in
        inl (record { number = y; among = at.0; index = refl; at_seq = by.0; beyond = by.1 })

    -- where recovery finds the ticket of the next call, a batch has that call
    module _ (same : record_number p e (ticket_cell_at MOST_INSTRS c) ≡ n + length (answers_of e c) + 1) (last : IsLast p s B w e c) where
      upto : last.number ≤ B.seq + length w.batches
      upto = omega (arith, last.there.upto, f.sound.reaches)

      -- it is one of the caller's scripts, so its number is small
      small : (call_at B w last.number last.place).ticket < 4294967296
      small =
          let begun = own.calls.calls last.number last.there.from upto last.place no_call last.there.among last.caller in
          let long = length-drop n (scripts_of p c) in
          let few = length-take-le own.scripts.count (drop n (scripts_of p c)) (omega (arith, long, own.scripts.few)) in
          omega (arith, begun.0, begun.1, ap length own.scripts.are, length-map (take own.scripts.count (drop n (scripts_of p c))) operation_of, few, own.scripts.few, narrow p s B w e left.operations left.outcomes f c lt)

      number_is : last.number ≡ seq_of (recovered_data_word p e (ticket_cell_at MOST_INSTRS c))
      number_is = sym (seq_word last.number (call_at B w last.number last.place).ticket small) ∙ ap seq_of (sym last.word_is)

      has_call : HasNext c (n + length (answers_of e c) + 1) (seq_of (recovered_data_word p e (ticket_cell_at MOST_INSTRS c)))
      has_call = subst (HasNext c (n + length (answers_of e c) + 1)) number_is (record {
        from = last.there.from;
        upto = upto;
        place = last.place;
        among = last.there.among;
        caller = last.caller;
        ticket = sym last.ticket_is ∙ same;
      })

      found : length (answers_of e c) ≡ length (outs c) → (r : Reply) → IsOpenCall (open_entry p e c (n + length (answers_of e c)) r)
      found all r = record {
        index = ap (λ (k : ℕ). n + k) all;
        from = has_call.from;
        upto = has_call.upto;
        place = has_call.place;
        among = has_call.among;
        caller = has_call.caller;
        ticket = has_call.ticket;
      }

    -- a stopped caller has as many answers as calls that have ended
    all_answered : (asked : ℕ) → ending_of e c ≡ Stopped asked → length (answers_of e c) ≡ length (outs c)
    all_answered asked ending =
        let unspent : NoneSpent (left.outcomes c) = stopped_unspent p s B w f.sound e c (left.operations c) (left.outcomes c) lt (narrow p s B w e left.operations left.outcomes f c lt) own (ap end_state_of ending) in
        as_many (left.outcomes c) (answers_of e c) own.tells.told unspent ∙ ap length (outs_are c lt)

    tells_true : (a b : ℕ) → (a == b) ≡ true → a ≡ b
    tells_true a b is = elim (eqb_tells a b) [
      | inl here ↦ here.1
      | inr other ↦ let z : true ≡ false = sym is ∙ other.0 in absurd (cc)
    ]

    -- its open call, where recovery finds it
    opened : (asked : ℕ) → ending_of e c ≡ Stopped asked → (b : Bool) → (record_number p e (ticket_cell_at MOST_INSTRS c) == n + length (answers_of e c) + 1) ≡ b
        → (extra : List Entry) → OpenCall p e c (n + length (answers_of e c)) b extra → Each IsOfCall extra
    opened asked ending false is extra h = subst (Each IsOfCall) (sym h) tt
    opened asked ending true is extra h =
        let same : record_number p e (ticket_cell_at MOST_INSTRS c) ≡ n + length (answers_of e c) + 1 = tells_true _ _ is in
        subst (Each IsOfCall) (sym h.2) (elim own.recovered [
          | inl none ↦ absurd (omega (arith, same, none.ticket_is))
          | inr last ↦ (inr (found same last (all_answered asked ending) h.0), tt)
        ])

    beyond : (o : Ending) → ending_of e c ≡ o → (extra : List Entry) → BeyondAnswers p e c (n + length (answers_of e c)) o extra → Each IsOfCall extra
    beyond Done is extra h = subst (Each IsOfCall) (sym h) tt
    beyond (RanOut t) is extra h = subst (Each IsOfCall) (sym h) tt
    beyond (Stopped asked) is extra h = opened asked is (record_number p e (ticket_cell_at MOST_INSTRS c) == n + length (answers_of e c) + 1) refl extra h

  module _ (r : Report) (lawful : IsLawfulRecord p s e r) where
    -- each entry is of a call
    all_of_calls : Each (λ g. (g.caller < p.callers) × IsOfCall g) r.entries
    all_of_calls =
        let known = recursion_from_All (λ (g : Entry). g.caller < p.callers) r.entries lawful.legal.in_order.of_callers in
        both (λ (g : Entry). g.caller < p.callers) IsOfCall r.entries known (of_callers IsOfCall p.callers r.entries known own_entries)
      where
        own_entries : (c : ℕ) → c < p.callers → Each IsOfCall (entries_of r c)
        own_entries c lt =
            let o = lawful.report.entries c lt in
            subst (Each IsOfCall) (sym o.own) (each_append IsOfCall (answer_entries c (finished_of s c) (answers_of e c)) o.extra (each_answer IsOfCall c (finished_of s c) (answers_of e c) (answered c lt)) (beyond c lt (ending_of e c) refl o.extra o.beyond))

        both : (P Q : Entry → Type 0) (xs : List Entry) → Each P xs → Each Q xs → Each (λ g. P g × Q g) xs
        both P Q [] a b = tt
        both P Q (x ∷ xs) a b = ((a.0, b.0), both P Q xs a.1 b.1)

    -- one that has ended before another begins
    in_time : (g h : Entry) → g.caller < p.callers → IsOfCall g → h.caller < p.callers → IsOfCall h → EndsBefore s marks g h → StandsBehind g h
    in_time g h member (inr a) other b before =
        let few = over_few g.caller before.0 marks in
        absurd (omega (arith, before.1, few, over_is S es O g.caller, a.index))
    in_time g h member (inl a) other b before = by b
      where
        j : ℕ
        j = (cut S es O before.0).0

        front : take before.0 marks ≡ marks_in S O (take j es)
        front = (cut S es O before.0).1

        over : a.number < length (outcomes S O (take j es) g.caller)
        over = omega (arith, before.1, a.index, ap (over_in g.caller) front, over_is S (take j es) O g.caller)

        begun : finished_of s h.caller + length (operations_begun (take j es) h.caller) ≤ h.index
        begun = omega (arith, before.2, ap (begun_in h.caller) front, begun_is S (take j es) O h.caller)

        by : IsOfCall h → StandsBehind g h
        by (inl b) =
            let here : Before S O es g.caller a.number h.caller b.number = (j, over, omega (arith, begun, b.index)) in
            let law = time.real_time B may (table_word_count S) (omega arith) es schedule g.caller a.number h.caller b.number member other here b.among in
            b.beyond g.seq (subst (λ (k : ℕ). IsNotBefore k (get_or (outs h.caller) b.number no_outcome)) a.at_seq law)
        by (inr b) =
            let place_in : b.place < length (batch_at B (after_events S O es).batches h.seq).calls = omega (arith, b.among, ap length (calls_are h.seq)) in
            let call_is : get_or (batch_at B (after_events S O es).batches h.seq).calls b.place no_call ≡ call_at B w h.seq b.place = ap (λ (cs : List Call). get_or cs b.place no_call) (sym (calls_are h.seq)) in
            let not_yet : NotYet S B es j (get_or (batch_at B (after_events S O es).batches h.seq).calls b.place no_call) =
            subst (NotYet S B es j) (sym call_is) (subst (λ (i : ℕ). start_ticket S B i + length (operations_begun (take j es) i) < (call_at B w h.seq b.place).ticket) (sym b.caller) (omega (arith, begun, b.ticket, ticket_is p s B left.moment.starts h.caller other))) in
            let law = time.late B may (table_word_count S) (omega arith) es schedule j g.caller a.number member over h.seq b.from (omega (arith, b.upto, as_long)) b.place no_call place_in not_yet in
            (omega (arith, law, a.at_seq), λ announced. omega (arith, law, a.at_seq))

    pub respects_time : RespectsTime s (marks_in (plan_setup p) (opening_at p B) es) r
    respects_time = All-from_recursion (λ (g : Entry). All (λ (h : Entry). EndsBefore s marks g h → StandsBehind g h) r.entries) r.entries (outer r.entries all_of_calls)
      where
        inner : (g : Entry) → g.caller < p.callers → IsOfCall g → (hs : List Entry) → Each (λ h. (h.caller < p.callers) × IsOfCall h) hs → Each (λ h. EndsBefore s marks g h → StandsBehind g h) hs
        inner g member a [] all = tt
        inner g member a (h ∷ hs) all = (in_time g h member a all.0.0 all.0.1, inner g member a hs all.1)

        outer : (gs : List Entry) → Each (λ g. (g.caller < p.callers) × IsOfCall g) gs → Each (λ g. All (λ (h : Entry). EndsBefore s marks g h → StandsBehind g h) r.entries) gs
        outer [] all = tt
        outer (g ∷ gs) all = (All-from_recursion (λ (h : Entry). EndsBefore s marks g h → StandsBehind g h) r.entries (inner g all.0.0 all.0.1 r.entries all_of_calls), outer gs all.1)

pub schedules_respect_time : (p : Plan) → KeepsTime (plan_setup p) (IsLawfulFor p) → SchedulesRespectTime p
schedules_respect_time p time s B may es schedule e left outs_are r lawful =
    respects_time p time s B may (after_events (plan_setup p) (opening_at p B) es) e left es schedule outs_are (λ k. refl) refl r lawful
