-- The code stands as the events leave a plan's table: after the begin of a call, a turn and an
-- eviction.
use Rattle.std.proofs.Common.{◌≡◌, ℕ, ◌+◌, ◌<◌, ◌≤◌, ◌⊎◌, ◌&&◌, not, nat_lt, if◌then◌else◌, inl, inr, List, [], ◌∷◌, ◌++◌, length, get_or, take, refl, sym, ◌∙◌, ap, subst, arith, Bool, true, false}
use Rattle.std.proofs.lemmas.Bool.{cases_eq}
use Rattle.std.proofs.lemmas.Bool.Decides.{nat_tests}
use Rattle.std.proofs.lemmas.List.{append_assoc, append-nil, length-map, get_or_default}
use Rattle.std.proofs.Math.Seq.{take-append_seam}
use Rattle.of_script.specs.declared.instr.Instr.{Instr}
use Rattle.of_script.specs.Language.{instr_word}
use Rattle.of_eval.specs.declared.scripts.Scripts.{Scripts}
use Rattle.of_eval.specs.Scripts.{scripts_meaning}
use Rattle.of_plan.specs.Plan.{Plan, scripts_of}
use Rattle.of_core.specs.declared.bank.Turn.{Turn}
use Rattle.of_core.specs.declared.place.Outcome.{Outcome}
use Rattle.of_core.specs.Table.{Setup, cell_count}
use Rattle.of_core.specs.declared.place.Place.TheVariants.{Idle}
use Rattle.of_core.specs.Machine.{CallState, is_idle, no_machine}
use Rattle.of_core.specs.TableMoment.{Moment}
use Rattle.of_core.specs.MachineValue.{ended_outcome}
use Rattle.of_core.specs.Turn.{turn_of}
use Rattle.of_core.specs.Moment.{Bank, bank_setup, bank_after, machine_of}
use Rattle.of_core.specs.Events.{Event, Begins, Turns, Loads, Evicts, Raises, Revives, machine_in, after_event}
use Rattle.of_core.specs.Calls.{outcomes, outcome_of_turn, outcome_of_event}
use Rattle.of_caller.specs.Tables.{plan_setup, opening_for, operation_of}
use Rattle.of_caller.specs.Ends.{is_spent, AreAnswers}
use Rattle.of_caller.specs.Left.{moment_after}
use Rattle.of_play.specs.Play.{begins_call, next_begin}
use Rattle.of_play.specs.ScheduleRun.{EventsMayFollow, answers_in, StandsAfter, NotesTurn, MakesMoves, BeginsNext}
use Rattle.of_play.specs.declared.schedule_run.ScheduleRun.{ScheduleRun}
use Rattle.of_play.proofs.PlaysMoments.{IsPlayable, idle_is, outcome_is}
use Rattle.of_play.proofs.PlaysEvents.{run_append, outcomes_append}
use Rattle.of_play.proofs.PlaysGood.{IsGood, good_at, few_steps}
use Rattle.of_play.proofs.PlaysFollow.{only_same, only_other, begin_follows, turn_follows, raise_follows}

-- an event that a bank makes
abbrev pub IsMade : Event → Type 0
IsMade (Begins c op) = Unit {0}
IsMade (Turns c) = Unit {0}
IsMade (Loads a) = ⊥
IsMade (Evicts k) = ⊥
IsMade (Revives i n) = ⊥
IsMade (Raises a) = Unit {0}

-- words and machines after such an event come from those before it alone
same_words : (S : Setup) (w v : Moment) (e : Event) → IsMade e → v.words ≡ w.words → v.machines ≡ w.machines → (after_event S v e).words ≡ (after_event S w e).words
same_words S w v (Begins c op) made p q = p
same_words S w v (Turns c) made p q = λ i. (after_event S (record v { words = p i; machines = q i }) (Turns c)).words
same_words S w v (Loads a) made p q = absurd made
same_words S w v (Evicts k) made p q = absurd made
same_words S w v (Revives i n) made p q = absurd made
same_words S w v (Raises a) made p q = λ i. (after_event S (record v { words = p i }) (Raises a)).words

same_machines : (S : Setup) (w v : Moment) (e : Event) → IsMade e → v.words ≡ w.words → v.machines ≡ w.machines → (after_event S v e).machines ≡ (after_event S w e).machines
same_machines S w v (Begins c op) made p q = λ i. (after_event S (record v { words = p i; machines = q i }) (Begins c op)).machines
same_machines S w v (Turns c) made p q = λ i. (after_event S (record v { words = p i; machines = q i }) (Turns c)).machines
same_machines S w v (Loads a) made p q = absurd made
same_machines S w v (Evicts k) made p q = absurd made
same_machines S w v (Revives i n) made p q = absurd made
same_machines S w v (Raises a) made p q = q

module _ (p : Plan) (plan : IsPlayable p) (es : List Event) (s : ScheduleRun) (st : StandsAfter p es s) where
  abbrev S : Setup
  S = plan_setup p

  abbrev w : Moment
  w = moment_after p es

  good : IsGood p plan w
  good = good_at p plan es st.follows.schedule

  pub machine_same : (c : ℕ) → machine_of s.bank c ≡ machine_in w c
  machine_same c = ap (λ (ms : List CallState). get_or ms c no_machine) st.machines

  pub outcome_same : (c : ℕ) → c < p.callers → ended_outcome (machine_of s.bank c) ≡ (machine_in w c).answer
  outcome_same c h = ap ended_outcome (machine_same c) ∙ outcome_is p plan es st.follows.schedule c h

  pub time_left : (c : ℕ) → c < p.callers → (machine_in w c).steps + 1 < 18446744073709551616
  time_left c h = few_steps p plan w good c h

  -- what an event leaves of the bank
  module _ (e : Event) (made : IsMade e) (x : Bank Scripts) (leaves : x ≡ bank_after scripts_meaning (e ∷ []) s.bank) where
    bank_callers : x.callers ≡ p.callers
    bank_callers = ap (λ (b : Bank Scripts). b.callers) leaves ∙ st.callers

    bank_table : bank_setup scripts_meaning x ≡ S
    bank_table = ap (bank_setup scripts_meaning) leaves ∙ st.table

    now : moment_after p (es ++ e ∷ []) ≡ after_event S w e
    now = run_append S (opening_for p) es (e ∷ [])

    abbrev before : Moment
    before = record { words = s.bank.words; machines = s.bank.machines; batches = []; reads = []; loaded = [] }

    bank_words : x.words ≡ (moment_after p (es ++ e ∷ [])).words
    bank_words =
        ap (λ (b : Bank Scripts). b.words) leaves ∙ ap (λ (T : Setup). (after_event T before e).words) st.table
        ∙ same_words S w before e made st.words st.machines ∙ ap (λ (v : Moment). v.words) (sym now)

    bank_machines : x.machines ≡ (moment_after p (es ++ e ∷ [])).machines
    bank_machines =
        ap (λ (b : Bank Scripts). b.machines) leaves ∙ ap (λ (T : Setup). (after_event T before e).machines) st.table
        ∙ same_machines S w before e made st.words st.machines ∙ ap (λ (v : Moment). v.machines) (sym now)

    -- where the event ends no call
    quiet : EventsMayFollow p (es ++ e ∷ []) → ((c : ℕ) → outcome_of_event S w e c ≡ []) → StandsAfter p (es ++ e ∷ []) (record s { bank = x })
    quiet f none = record {
      follows = f;
      callers = bank_callers;
      table = bank_table;
      words = bank_words;
      machines = bank_machines;
      answers = st.answers;
      told = λ c h. subst (λ (os : List Outcome). AreAnswers os (answers_in s c))
          (sym (outcomes_append S (opening_for p) es (e ∷ []) c ∙ ap (λ (os : List Outcome). outcomes S (opening_for p) es c ++ (os ++ [])) (none c) ∙ append-nil _)) (st.told c h);
    }

  pub raise_stands : (a : ℕ) → a < cell_count S → (x : Bank Scripts) → x ≡ bank_after scripts_meaning (Raises a ∷ []) s.bank → StandsAfter p (es ++ Raises a ∷ []) (record s { bank = x })
  raise_stands a h x leaves = quiet (Raises a) tt x leaves (raise_follows p plan es st.follows a h) (λ c. refl)

  pub begin_stands : (c : ℕ) (h : c < p.callers) → begins_call (machine_in w c) (length (scripts_of p c)) ≡ true → (x : Bank Scripts)
      → x ≡ bank_after scripts_meaning (Begins c (operation_of (get_or (scripts_of p c) (machine_in w c).made [])) ∷ []) s.bank
      → StandsAfter p (es ++ Begins c (operation_of (get_or (scripts_of p c) (machine_in w c).made [])) ∷ []) (record s { bank = x })
  begin_stands c h begins x leaves =
      quiet (Begins c (operation_of (get_or (scripts_of p c) (machine_in w c).made []))) tt x leaves (begin_follows p plan es st.follows c h begins) (λ i. refl)

  module _ (c : ℕ) (h : c < p.callers) where
    turned_to : moment_after p (es ++ Turns c ∷ []) ≡ after_event S w (Turns c)
    turned_to = run_append S (opening_for p) es (Turns c ∷ [])

    -- what the bank says of a turn
    pub turn_says : (x : Bank Scripts) → x ≡ bank_after scripts_meaning (Turns c ∷ []) s.bank → (r : Turn) → r ≡ turn_of (machine_of s.bank c) (machine_of x c) → r ≡ turn_of (machine_in w c) (machine_in (after_event S w (Turns c)) c)
    turn_says x leaves r says = says ∙ (λ i. turn_of (machine_same c i) (get_or (bank_machines (Turns c) tt x leaves i) c no_machine)) ∙ ap (λ (u : Moment). turn_of (machine_in w c) (machine_in u c)) turned_to

    -- the outcomes behind it
    pub turn_ends : outcomes S (opening_for p) (es ++ Turns c ∷ []) c ≡ outcomes S (opening_for p) es c ++ outcome_of_turn (turn_of (machine_in w c) (machine_in (after_event S w (Turns c)) c))
    turn_ends =
        let told : List Outcome = outcome_of_turn (turn_of (machine_in w c) (machine_in (after_event S w (Turns c)) c)) in
        outcomes_append S (opening_for p) es (Turns c ∷ []) c ∙ ap (λ (os : List Outcome). outcomes S (opening_for p) es c ++ (os ++ [])) (only_same c told)
        ∙ ap (λ (os : List Outcome). outcomes S (opening_for p) es c ++ os) (append-nil told)

    turn_ends_not : (i : ℕ) → (i ≡ c → ⊥) → outcomes S (opening_for p) (es ++ Turns c ∷ []) i ≡ outcomes S (opening_for p) es i
    turn_ends_not i n =
        let told : List Outcome = outcome_of_turn (turn_of (machine_in w c) (machine_in (after_event S w (Turns c)) c)) in
        outcomes_append S (opening_for p) es (Turns c ∷ []) i ∙ ap (λ (os : List Outcome). outcomes S (opening_for p) es i ++ (os ++ [])) (only_other i c told n) ∙ append-nil _

    pub turn_stands : (x : Bank Scripts) → x ≡ bank_after scripts_meaning (Turns c ∷ []) s.bank → (r : Turn) → r ≡ turn_of (machine_of s.bank c) (machine_of x c)
        → (t : ScheduleRun) → NotesTurn c r (record s { bank = x }) t → StandsAfter p (es ++ Turns c ∷ []) t
    turn_stands x leaves r says t notes = record {
      follows = turn_follows p plan es st.follows c h;
      callers = ap (λ (b : Bank Scripts). b.callers) notes.bank ∙ bank_callers (Turns c) tt x leaves;
      table = ap (bank_setup scripts_meaning) notes.bank ∙ bank_table (Turns c) tt x leaves;
      words = ap (λ (b : Bank Scripts). b.words) notes.bank ∙ bank_words (Turns c) tt x leaves;
      machines = ap (λ (b : Bank Scripts). b.machines) notes.bank ∙ bank_machines (Turns c) tt x leaves;
      answers = notes.answers ∙ st.answers;
      told = λ i l. answered i l (cases_eq i c);
    }
      where
        answered : (i : ℕ) → i < p.callers → (i ≡ c) ⊎ (i ≡ c → ⊥) → AreAnswers (outcomes S (opening_for p) (es ++ Turns c ∷ []) i) (answers_in t i)
        answered i l (inr n) = subst (λ (os : List Outcome). AreAnswers os (answers_in t i)) (sym (turn_ends_not i n)) (subst (AreAnswers (outcomes S (opening_for p) es i)) (sym (notes.others i n)) (st.told i l))
        answered i l (inl q) = subst (λ (k : ℕ). AreAnswers (outcomes S (opening_for p) (es ++ Turns c ∷ []) k) (answers_in t k)) (sym q)
            (subst (λ (os : List Outcome). AreAnswers os (answers_in t c)) (ap (λ (u : Turn). outcomes S (opening_for p) es c ++ outcome_of_turn u) (turn_says x leaves r says) ∙ sym turn_ends)
            (notes.told (outcomes S (opening_for p) es c) (st.told c h)))

-- where a caller begins no call
pub next_none : (p : Plan) (c : ℕ) (m : CallState) → begins_call m (length (scripts_of p c)) ≡ false → next_begin p c m ≡ []
next_none p c m e = ap (λ (b : Bool). if b then Begins c (operation_of (get_or (scripts_of p c) m.made [])) ∷ [] else []) e

pub next_one : (p : Plan) (c : ℕ) (m : CallState) → begins_call m (length (scripts_of p c)) ≡ true → next_begin p c m ≡ Begins c (operation_of (get_or (scripts_of p c) m.made [])) ∷ []
next_one p c m e = ap (λ (b : Bool). if b then Begins c (operation_of (get_or (scripts_of p c) m.made [])) ∷ [] else []) e

pub stays_none : (p : Plan) (es : List Event) (s : ScheduleRun) (c : ℕ) (m : CallState) → begins_call m (length (scripts_of p c)) ≡ false → StandsAfter p es s → StandsAfter p (es ++ next_begin p c m) s
stays_none p es s c m e st = subst (λ (fs : List Event). StandsAfter p (es ++ fs) s) (sym (next_none p c m e)) (subst (λ (fs : List Event). StandsAfter p fs s) (sym (append-nil es)) st)

-- a caller that isn't idle, is spent or has no script left begins none; any other does
pub begins_not : (m : CallState) (n : ℕ) → is_spent m.answer ≡ true → begins_call m n ≡ false
begins_not m n e = ap (λ (b : Bool). is_idle m.place && (not b && nat_lt m.made n)) e ∙ go (is_idle m.place)
  where
    go : (a : Bool) → (a && false) ≡ false
    go true = refl
    go false = refl

pub begins_busy : (m : CallState) (n : ℕ) → (m.place ≡ Idle → ⊥) → begins_call m n ≡ false
begins_busy m n busy = go (is_idle m.place) refl
  where
    go : (a : Bool) → is_idle m.place ≡ a → begins_call m n ≡ false
    go true e = absurd (busy (idle_is m.place e))
    go false e = ap (λ (b : Bool). b && (not (is_spent m.answer) && nat_lt m.made n)) e

pub begins_done : (m : CallState) (n : ℕ) → n ≤ m.made → begins_call m n ≡ false
begins_done m n all = ap (λ (b : Bool). is_idle m.place && (not (is_spent m.answer) && b)) none ∙ go (is_idle m.place) (not (is_spent m.answer))
  where
    none : nat_lt m.made n ≡ false
    none = grind (arith, nat_tests)

    go : (a b : Bool) → (a && (b && false)) ≡ false
    go true true = refl
    go true false = refl
    go false b = refl

pub begins_is : (m : CallState) (n : ℕ) → m.place ≡ Idle → is_spent m.answer ≡ false → m.made < n → begins_call m n ≡ true
begins_is m n e f l =
    let left : nat_lt m.made n ≡ true = grind (arith, nat_tests) in
    (λ i. is_idle (e i) && (not (f i) && left i))

-- the words of a script stand before the filler
words_first : {A : Type 0} (n : ℕ) (xs ys : List A) → n ≡ length xs → take n (xs ++ ys) ≡ xs
words_first n xs ys e = ap (λ (k : ℕ). take k (xs ++ ys)) e ∙ take-append_seam xs ys

module _ (p : Plan) (plan : IsPlayable p) (es : List Event) (s : ScheduleRun) (st : StandsAfter p es s) (c : ℕ) (h : c < p.callers) where
  abbrev m : CallState
  m = machine_in (moment_after p es) c

  spent_same : is_spent (ended_outcome (machine_of s.bank c)) ≡ is_spent m.answer
  spent_same = ap is_spent (outcome_same p plan es s st c h)

  -- a spent caller begins none
  pub spent_stands : is_spent (ended_outcome (machine_of s.bank c)) ≡ true → StandsAfter p (es ++ next_begin p c m) s
  spent_stands q = stays_none p es s c m (begins_not m (length (scripts_of p c)) (sym spent_same ∙ q)) st

  -- nor does one with an open call
  pub busy_stands : ((machine_of s.bank c).place ≡ Idle → ⊥) → StandsAfter p (es ++ next_begin p c m) s
  busy_stands busy = stays_none p es s c m (begins_busy m (length (scripts_of p c)) (λ idle. busy (ap (λ (d : CallState). d.place) (machine_same p plan es s st c) ∙ idle))) st

  -- nor one with no script left
  pub done_stands : (n : ℕ) → n ≡ (machine_of s.bank c).made → (scripts : List (List Instr)) → scripts ≡ scripts_of p c → length scripts ≤ n → StandsAfter p (es ++ next_begin p c m) s
  done_stands n made scripts all few =
      let made_is : n ≡ m.made = made ∙ ap (λ (d : CallState). d.made) (machine_same p plan es s st c) in
      stays_none p es s c m (begins_done m (length (scripts_of p c)) (omega (arith, few, made_is, ap length all))) st

  -- a caller that is idle and unspent begins its next script, where it has one left
  pub next_stands : (machine_of s.bank c).place ≡ Idle → is_spent (ended_outcome (machine_of s.bank c)) ≡ false
      → (n : ℕ) → n ≡ (machine_of s.bank c).made → (scripts : List (List Instr)) → scripts ≡ scripts_of p c → n < length scripts → (script : List Instr) → script ≡ get_or scripts n script
      → (count : ℕ) → count ≡ length script → (out rest : List ℕ) → out ≡ operation_of script ++ rest → (x : Bank Scripts) → x ≡ bank_after scripts_meaning (Begins c (take count out) ∷ []) s.bank
      → StandsAfter p (es ++ next_begin p c m) (record s { bank = x })
  next_stands idle unspent n made scripts all left script read count cell_count out rest words x leaves =
      let same = machine_same p plan es s st c in
      let made_is : n ≡ m.made = made ∙ ap (λ (d : CallState). d.made) same in
      let left_is : m.made < length (scripts_of p c) = omega (arith, left, made_is, ap length all) in
      let begins = begins_is m (length (scripts_of p c)) (ap (λ (d : CallState). d.place) (sym same) ∙ idle) (sym spent_same ∙ unspent) left_is in
      let first : script ≡ get_or (scripts_of p c) m.made [] = read ∙ get_or_default scripts n script [] left ∙ (λ i. get_or (all i) (made_is i) []) in
      let many : count ≡ length (operation_of script) = cell_count ∙ sym (length-map script instr_word) in
      let op : take count out ≡ operation_of (get_or (scripts_of p c) m.made []) = ap (take count) words ∙ words_first count (operation_of script) rest many ∙ ap operation_of first in
      subst (λ (fs : List Event). StandsAfter p (es ++ fs) (record s { bank = x })) (sym (next_one p c m begins))
      (begin_stands p plan es s st c h begins x (leaves ∙ ap (λ (o : List ℕ). bank_after scripts_meaning (Begins c o ∷ []) s.bank) op))

-- a turn with the begin before it
pub turn_goes_on : (p : Plan) (plan : IsPlayable p) (c : ℕ) → c < p.callers → (first begun : ScheduleRun) → BeginsNext p c first begun
    → (x : Bank Scripts) → x ≡ bank_after scripts_meaning (Turns c ∷ []) begun.bank → (r : Turn) → r ≡ turn_of (machine_of begun.bank c) (machine_of x c)
    → (t : ScheduleRun) → NotesTurn c r (record begun { bank = x }) t → MakesMoves p (Turns c ∷ []) first t
turn_goes_on p plan c h first begun begins x leaves r says t notes es st =
    let fs = next_begin p c (machine_in (moment_after p es) c) in
    let stands = turn_stands p plan (es ++ fs) begun (begins es st) c h x leaves r says t notes in
    subst (λ (gs : List Event). StandsAfter p gs t) (append_assoc es fs (Turns c ∷ []) ∙ ap (λ (gs : List Event). es ++ gs) (sym (append-nil (fs ++ Turns c ∷ [])))) stands
