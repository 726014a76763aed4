-- What the code reads before and after an event, and writes as its line.
use Rattle.std.proofs.Common.{◌≡◌, ℕ, ◌+◌, ◌-◌, ◌<◌, ◌==◌, List, [], ◌∷◌, ◌++◌, length, get_or, refl, sym, ◌∙◌, ap, subst, Option, Some, None, Bool, true, false}
use Rattle.std.specs.Prelude.{IfSome}
use Rattle.std.specs.List.{flat_map}
use Rattle.std.proofs.Math.Seq.{drop-append_seam}
use Rattle.std.proofs.lemmas.List.{append_assoc, append-nil, get_or-set_same}
use Rattle.of_eval.specs.Scripts.{scripts_meaning}
use Rattle.of_plan.specs.Plan.{Plan, scripts_of}
use Rattle.of_core.specs.declared.place.Place.{Place}
use Rattle.of_core.specs.declared.place.Place.TheVariants.{Idle, ExchangeCurrent}
use Rattle.of_core.specs.declared.place.Op.{Op}
use Rattle.of_core.specs.declared.place.Outcome.{Outcome}
use Rattle.of_core.specs.declared.place.Outcome.TheVariants.{Answered, Spent, Lost}
use Rattle.of_cell.specs.Words.{pack, seq_of}
use Rattle.of_core.specs.Table.{Setup, durable_at, committed_seq}
use Rattle.of_core.specs.Machine.{Call, CallState, is_idle, no_machine, begin_call, first_place}
use Rattle.of_core.specs.MachineValue.{ended_outcome}
use Rattle.of_core.specs.Helping.{helped_owner}
use Rattle.of_core.specs.Turn.{turn_of_outcome, turn_of}
use Rattle.of_core.specs.Steps.{want, want_at, word_of, word_found}
use Rattle.of_core.specs.TableMoment.{Moment, step_batches, one_batch, step_batches_at}
use Rattle.of_core.specs.Moment.{bank_after, bank_setup, machine_of}
use Rattle.of_core.specs.Events.{Event, Begins, Turns, Raises, machine_in, after_event}
use Rattle.of_caller.specs.Tables.{plan_setup, opening_for, operation_of}
use Rattle.of_caller.specs.Left.{moment_after}
use Rattle.of_caller.specs.Ends.{OutcomeHoldsReply}
use Rattle.of_caller.specs.Runs.{RepliesAreHeld}
use Rattle.of_play.specs.Play.{begins_call, next_begin}
use Rattle.of_play.specs.ScheduleRun.{StandsAfter, MakesMoves, BeginsNext, IsReplied}
use Rattle.of_play.specs.TraceLine.{step_line, rest_line, evict_line}
use Rattle.of_play.specs.Trace.{turn_line, moment_of_event, event_line_at, committed_at, batch_line}
use Rattle.of_play.specs.Committing.{commits_by_step, commit_line}
use Rattle.of_play.specs.declared.schedule_run.ScheduleRun.{ScheduleRun}
use Rattle.of_play.specs.declared.trace_line.TraceStep.{TraceStep}
use Rattle.of_play.proofs.PlaysMoments.{IsPlayable}
use Rattle.of_play.proofs.PlaysEvents.{run_append}
use Rattle.of_play.proofs.PlaysGood.{good_at, here, turn_open}
use Rattle.of_play.proofs.PlaysStand.{machine_same, next_none, next_one, begins_busy, turn_says}
use Rattle.of_play.proofs.PlaysReplies.{turn_replied}

-- a call that has begun is open
begun_open : (reads : Bool) → first_place reads ≡ Idle → ⊥
begun_open true e = cc
begun_open false e = cc

open_is : (q : Place) → (q ≡ Idle → ⊥) → is_idle q ≡ false
open_is Idle n = absurd (n refl)
open_is q n = refl

-- the step of caller c that its machine wants, which leads from one machine and words to the others
abbrev pub read : (c : ℕ) → Setup → (m d : CallState) → (ws vs : List ℕ) → TraceStep
read c T m d ws vs = record {
  caller = c;
  index = m.made - 1;
  place = m.place;
  op = want T m;
  helps = helped_owner m;
  change = record { word = word_of (want T m); found = get_or ws (word_of (want T m)) 0; left = get_or vs (word_of (want T m)) 0 };
  outcome = ended_outcome d;
}

-- it has been read part by part
pub read_is : (c : ℕ) (T : Setup) (m d : CallState) (ws vs : List ℕ) (index : ℕ) (place : Place) (op : Op) (helps : Option ℕ) (pack found left : ℕ) (outcome : Option Outcome)
    → index ≡ m.made - 1 → place ≡ m.place → op ≡ want T m → helps ≡ helped_owner m → pack ≡ word_of op → found ≡ get_or ws pack 0 → left ≡ get_or vs pack 0 → outcome ≡ ended_outcome d
    → ◌≡◌ {A = TraceStep} (record { caller = c; index = index; place = place; op = op; helps = helps; change = record { word = pack; found = found; left = left }; outcome = outcome }) (read c T m d ws vs)
read_is c T m d ws vs index place op helps pack found left outcome is_index is_place is_op is_helps is_word is_found is_left is_outcome =
    let w : pack ≡ word_of (want T m) = is_word ∙ ap word_of is_op in
    let f : found ≡ get_or ws (word_of (want T m)) 0 = is_found ∙ ap (λ (x : ℕ). get_or ws x 0) w in
    let l : left ≡ get_or vs (word_of (want T m)) 0 = is_left ∙ ap (λ (x : ℕ). get_or vs x 0) w in
    λ i. record { caller = c; index = is_index i; place = is_place i; op = is_op i; helps = is_helps i; change = record { word = w i; found = f i; left = l i }; outcome = is_outcome i }

-- ---- what a step commits

-- an idle machine's turn commits nothing
added_idle : (S : Setup) (ws : List ℕ) (m : CallState) (n : ℕ) → m.place ≡ Idle → step_batches S ws m n ≡ []
unfolding step_batches
added_idle S ws m n e = ap (step_batches_at S ws m n) e

one_line : (S : Setup) (ws : List ℕ) (m : CallState) (k c s : ℕ) (b : Bool) → commit_line b k c s m.calls ≡ flat_map (λ x. batch_line k c s x.calls) (one_batch S ws m b)
one_line S ws m k c s true = sym (append-nil (batch_line k c s m.calls))
one_line S ws m k c s false = refl

-- the line of a step is that of what it commits
commits_from : (S : Setup) (ws : List ℕ) (m : CallState) (k c : ℕ) (q : Place)
    → commit_line (commits_by_step q (want_at S m q) (get_or ws (word_of (want_at S m q)) 0)) k c (seq_of (get_or ws (word_of (want_at S m q)) 0) + 1) m.calls
    ≡ flat_map (λ x. batch_line k c (committed_seq ws + 1) x.calls) (step_batches_at S ws m (get_or ws (word_of (want_at S m q)) 0) q)
commits_from S ws m k c ExchangeCurrent = one_line S ws m k c (committed_seq ws + 1) (get_or ws 0 0 == pack m.seq m.owner)
commits_from S ws m k c q = refl

step_commits : (S : Setup) (ws : List ℕ) (m : CallState) (k c : ℕ)
    → commit_line (commits_by_step m.place (want S m) (word_found S ws m)) k c (seq_of (word_found S ws m) + 1) m.calls
    ≡ flat_map (λ x. batch_line k c (committed_seq ws + 1) x.calls) (step_batches S ws m (word_found S ws m))
unfolding want step_batches
step_commits S ws m k c = commits_from S ws m k c m.place

-- how a call has ended that a turn has ended
told_holds : (o : Option Outcome) → IsReplied (turn_of_outcome o) → IfSome o OutcomeHoldsReply
told_holds None h = tt
told_holds (Some (Answered s announced raw steps)) h = h
told_holds (Some (Spent s)) h = tt
told_holds (Some (Lost s)) h = absurd h

module _ (p : Plan) (plan : IsPlayable p) where
  abbrev S : Setup
  S = plan_setup p

  -- a caller that has begun its next call, or has none, begins no other
  module _ (es : List Event) (s : ScheduleRun) (st : StandsAfter p es s) (c : ℕ) (h : c < p.callers) where
    abbrev w : Moment
    w = moment_after p es

    abbrev fs : List Event
    fs = next_begin p c (machine_in w c)

    abbrev v : Moment
    v = moment_after p (es ++ fs)

    pub begins_no_other : next_begin p c (machine_in v c) ≡ []
    begins_no_other = go (begins_call (machine_in w c) (length (scripts_of p c))) refl
      where
        go : (b : Bool) → begins_call (machine_in w c) (length (scripts_of p c)) ≡ b → next_begin p c (machine_in v c) ≡ []
        go false e =
            let same : v ≡ w = ap (λ (gs : List Event). moment_after p (es ++ gs)) (next_none p c (machine_in w c) e) ∙ ap (moment_after p) (append-nil es) in
            ap (λ (u : Moment). next_begin p c (machine_in u c)) same ∙ next_none p c (machine_in w c) e
        go true e =
            let op : List ℕ = operation_of (get_or (scripts_of p c) (machine_in w c).made []) in
            let same : v ≡ after_event S w (Begins c op) = ap (λ (gs : List Event). moment_after p (es ++ gs)) (next_one p c (machine_in w c) e) ∙ run_append S (opening_for p) es (Begins c op ∷ []) in
            let opens : machine_in v c ≡ begin_call S (machine_in w c) op = ap (λ (u : Moment). machine_in u c) same ∙ get_or-set_same w.machines c _ no_machine (here p plan w (good_at p plan es st.follows.schedule) c h) in
            next_none p c (machine_in v c) (begins_busy (machine_in v c) (length (scripts_of p c)) (λ idle. begun_open (S.meaning.reads_only op) (ap (λ (d : CallState). d.place) (sym opens) ∙ idle)))

  -- a call is begun, where one is to be, and a turn is made
  module _ (c : ℕ) (h : c < p.callers) (s t u : ScheduleRun) (begins : BeginsNext p c s t) (turns : MakesMoves p (Turns c ∷ []) t u) where
    pub turned : (es : List Event) → StandsAfter p es s → StandsAfter p ((es ++ next_begin p c (machine_in (moment_after p es) c)) ++ Turns c ∷ []) u
    turned es st =
        let fs = next_begin p c (machine_in (moment_after p es) c) in
        subst (λ (gs : List Event). StandsAfter p ((es ++ fs) ++ gs) u) (ap (λ (gs : List Event). (gs ++ Turns c ∷ []) ++ []) (begins_no_other es s st c h)) (turns (es ++ fs) (begins es st))

    pub turn_on : MakesMoves p (Turns c ∷ []) s u
    turn_on es st =
        let fs = next_begin p c (machine_in (moment_after p es) c) in
        subst (λ (gs : List Event). StandsAfter p gs u) (append_assoc es fs (Turns c ∷ []) ∙ ap (λ (gs : List Event). es ++ gs) (sym (append-nil (fs ++ Turns c ∷ [])))) (turned es st)

    module _ (es : List Event) (st : StandsAfter p es s) (k : ℕ) where
      abbrev at : Moment
      at = moment_of_event p (moment_after p es) (Turns c)

      abbrev begun : List Event
      begun = next_begin p c (machine_in (moment_after p es) c)

      is_ready : moment_after p (es ++ begun) ≡ at
      is_ready = run_append S (opening_for p) es begun

      is_after : moment_after p ((es ++ begun) ++ Turns c ∷ []) ≡ after_event S at (Turns c)
      is_after = run_append S (opening_for p) (es ++ begun) (Turns c ∷ []) ∙ ap (λ (w : Moment). after_event S w (Turns c)) is_ready

      machine_at : machine_of t.bank c ≡ machine_in at c
      machine_at = machine_same p plan (es ++ begun) t (begins es st) c ∙ ap (λ (w : Moment). machine_in w c) is_ready

      machine_after : machine_of u.bank c ≡ machine_in (after_event S at (Turns c)) c
      machine_after = machine_same p plan ((es ++ begun) ++ Turns c ∷ []) u (turned es st) c ∙ ap (λ (w : Moment). machine_in w c) is_after

      words_at : t.bank.words ≡ at.words
      words_at = (begins es st).words ∙ ap (λ (w : Moment). w.words) is_ready

      words_after : u.bank.words ≡ (after_event S at (Turns c)).words
      words_after = (turned es st).words ∙ ap (λ (w : Moment). w.words) is_after

      -- where no call is open it does nothing
      pub rests : (machine_of t.bank c).place ≡ Idle → rest_line k c ≡ event_line_at p k (moment_after p es) (Turns c)
      rests idle =
          let e : (machine_in at c).place ≡ Idle = ap (λ (d : CallState). d.place) (sym machine_at) ∙ idle in
          sym (ap (λ q. turn_line p k c (is_idle q) at (after_event S at (Turns c))) e)

      -- else its step is what is read off the bank
      pub steps : ((machine_of t.bank c).place ≡ Idle → ⊥)
          → step_line p k (read c (bank_setup scripts_meaning t.bank) (machine_of t.bank c) (machine_of u.bank c) t.bank.words u.bank.words) ≡ event_line_at p k (moment_after p es) (Turns c)
      steps busy =
          let e : is_idle (machine_in at c).place ≡ false = open_is (machine_in at c).place (λ i. busy (ap (λ (d : CallState). d.place) machine_at ∙ i)) in
          (λ i. step_line p k (read c ((begins es st).table i) (machine_at i) (machine_after i) (words_at i) (words_after i)))
          ∙ sym (ap (λ b. turn_line p k c b at (after_event S at (Turns c))) e)

      -- where the call has ended its reply is one
      pub held : RepliesAreHeld → ((machine_of t.bank c).place ≡ Idle → ⊥) → IfSome (ended_outcome (machine_of u.bank c)) OutcomeHoldsReply
      held replied busy =
          let gs = es ++ begun in
          let w = moment_after p gs in
          let x = bank_after scripts_meaning (Turns c ∷ []) t.bank in
          let r = turn_of (machine_of t.bank c) (machine_of x c) in
          let said : IsReplied r = turn_replied p plan gs t (begins es st) c h replied x refl r refl in
          let is : r ≡ turn_of (machine_in w c) (machine_in (after_event S w (Turns c)) c) = turn_says p plan gs t (begins es st) c h x refl r refl in
          let before : machine_in w c ≡ machine_of t.bank c = ap (λ (v : Moment). machine_in v c) is_ready ∙ sym machine_at in
          let now : machine_in (after_event S w (Turns c)) c ≡ machine_of u.bank c = ap (λ (v : Moment). machine_in (after_event S v (Turns c)) c) is_ready ∙ sym machine_after in
          let all : r ≡ turn_of_outcome (ended_outcome (machine_of u.bank c)) = is ∙ (λ i. turn_of (before i) (now i)) ∙ turn_open (machine_of t.bank c).place (machine_of u.bank c) (open_is (machine_of t.bank c).place busy) in
          told_holds (ended_outcome (machine_of u.bank c)) (subst IsReplied all said)

      -- what the turn has committed
      committed : committed_at p k (moment_after p es) (Turns c) ≡ flat_map (λ b. batch_line k c (committed_seq at.words + 1) b.calls) (step_batches S at.words (machine_in at c) (word_found S at.words (machine_in at c)))
      committed = ap (flat_map (λ b. batch_line k c (committed_seq at.words + 1) b.calls)) (drop-append_seam at.batches (step_batches S at.words (machine_in at c) (word_found S at.words (machine_in at c))))

      -- nothing, where no call is open,
      pub commits_none : (machine_of t.bank c).place ≡ Idle → committed_at p k (moment_after p es) (Turns c) ≡ []
      commits_none idle =
          let e : (machine_in at c).place ≡ Idle = ap (λ (d : CallState). d.place) (sym machine_at) ∙ idle in
          committed ∙ ap (flat_map (λ b. batch_line k c (committed_seq at.words + 1) b.calls)) (added_idle S at.words (machine_in at c) (word_found S at.words (machine_in at c)) e)

      -- and else what is read off the bank
      pub commits_are : (place : Place) (op : Op) (found : ℕ) (calls : List Call) → place ≡ (machine_of t.bank c).place → op ≡ want (bank_setup scripts_meaning t.bank) (machine_of t.bank c) → found ≡ get_or t.bank.words (word_of op) 0 → calls ≡ (machine_of t.bank c).calls
          → commit_line (commits_by_step place op found) k c (seq_of found + 1) calls ≡ committed_at p k (moment_after p es) (Turns c)
      commits_are place op found calls is_place is_op is_found is_calls =
          let m = machine_in at c in
          let q : place ≡ m.place = is_place ∙ ap (λ (d : CallState). d.place) machine_at in
          let o : op ≡ want S m = is_op ∙ (λ i. want ((begins es st).table i) (machine_at i)) in
          let f : found ≡ word_found S at.words m = is_found ∙ (λ i. get_or (words_at i) (word_of (o i)) 0) in
          let cs : calls ≡ m.calls = is_calls ∙ ap (λ (d : CallState). d.calls) machine_at in
          (λ i. commit_line (commits_by_step (q i) (o i) (f i)) k c (seq_of (f i) + 1) (cs i))
          ∙ step_commits S at.words m k c
          ∙ sym committed

  -- an eviction is made
  module _ (a : ℕ) (s u : ScheduleRun) (goes : MakesMoves p (Raises a ∷ []) s u) where
    pub evicts : (es : List Event) → StandsAfter p es s → (k : ℕ)
        → evict_line p k (record { word = durable_at S a; found = get_or s.bank.words (durable_at S a) 0; left = get_or u.bank.words (durable_at S a) 0 }) ≡ event_line_at p k (moment_after p es) (Raises a)
    evicts es st k =
        let bank_after = run_append S (opening_for p) es (Raises a ∷ []) in
        let now = (goes es st).words ∙ ap (λ (w : Moment). w.words) bank_after in
        λ i. evict_line p k (record { word = durable_at S a; found = get_or (st.words i) (durable_at S a) 0; left = get_or (now i) (durable_at S a) 0 })

    -- and its line is what is read off the bank
    pub evict_read : (es : List Event) → StandsAfter p es s → (k pack found left : ℕ) → pack ≡ durable_at S a → found ≡ get_or s.bank.words pack 0 → left ≡ get_or u.bank.words pack 0
        → evict_line p k (record { word = pack; found = found; left = left }) ≡ event_line_at p k (moment_after p es) (Raises a)
    evict_read es st k pack found left is_word is_found is_left =
        (λ i. evict_line p k (record { word = is_word i; found = (is_found ∙ ap (λ (x : ℕ). get_or s.bank.words x 0) is_word) i; left = (is_left ∙ ap (λ (x : ℕ). get_or u.bank.words x 0) is_word) i }))
        ∙ evicts es st k
