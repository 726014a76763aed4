-- A bank's words and machines stay those of a moment.
use Rattle.std.proofs.Common.{◌≡◌, ℕ, zero, suc, ◌+◌, ◌<◌, ◌≤◌, List, [], ◌∷◌, ◌++◌, length, get_or, set, Option, max, refl, sym, ◌∙◌, ap, arith, length-append, length-set, ◌⊎◌, inl, inr}
use Rattle.std.proofs.lemmas.List.{get_or_default, get_or_push, get_or_append_left, get_or-map, length-map, map-set, map-append, get_or-set_same, get_or-set_other, set-get_or}
use Rattle.std.proofs.lemmas.Bool.{cases_eq}
use Rattle.of_mem.specs.declared.work.TheConstants.{MOST_INSTRS}
use Rattle.of_cell.specs.declared.word.TheConstants.{PAYLOADS}
use Rattle.of_mem.specs.Meaning.{Meaning, IsSoundMeaning}
use Rattle.of_core.specs.declared.place.Place.{Place}
use Rattle.of_core.specs.declared.place.Place.TheVariants.{Idle}
use Rattle.of_core.specs.declared.place.Outcome.{Outcome}
use Rattle.of_core.specs.declared.bank.Turn.{Turn}
use Rattle.of_core.specs.Table.{Setup, first_operation_cell, setup_of, cell_count, durable_at}
use Rattle.of_core.specs.Machine.{CallState, no_machine, idle_machine, begin_call}
use Rattle.of_core.specs.Steps.{want, want_at, take_word, take_word_at, with_step_counted, word_of, words_after, word_found}
use Rattle.of_core.specs.TableMoment.{Moment, TableStart}
use Rattle.of_core.specs.WordsMatch.{MayStart}
use Rattle.of_core.specs.Invariant.{MeetsInvariant}
use Rattle.of_core.specs.Events.{Event, Begins, Turns, Raises, machine_in, after_event, MayHappen, after_events, IsSchedule, start_ticket, opening_moment, idle_machines}
use Rattle.of_core.specs.Starts.{first_words}
use Rattle.of_core.specs.MachineValue.{Machine, ended_outcome}
use Rattle.of_core.specs.Meets.{MayTake}
use Rattle.of_core.specs.Turn.{turn_of_outcome, turn_at}
use Rattle.of_core.specs.Moment.{Bank, IsReached, RunSameWork, call_states, bank_after, bank_setup, table_word_count}
use Rattle.of_core.proofs.Moments.{run_good}
use Rattle.of_core.proofs.Openings.{start_good}
use Rattle.of_core.proofs.Found.{found_now}

-- a bank of these sizes and this work has this table
pub table_is : {X : Type 0} (meaning : X → Meaning) (work : X) (b : Bank X) (callers cells limit : ℕ) → b.work ≡ work → b.callers ≡ callers → b.cells ≡ cells → b.limit ≡ limit → setup_of callers cells limit (meaning work) ≡ bank_setup meaning b
table_is meaning work b callers cells limit p q r t = rw (← p, ← q, ← r, ← t) refl

pub run_push : (S : Setup) (w : Moment) (es : List Event) (e : Event) → after_events S w (es ++ e ∷ []) ≡ after_event S (after_events S w es) e
run_push S w [] e = refl
run_push S w (d ∷ es) e = run_push S (after_event S w d) es e

schedule_push : (S : Setup) (w : Moment) (es : List Event) (e : Event) → IsSchedule S w es → MayHappen S (after_events S w es) e → IsSchedule S w (es ++ e ∷ [])
schedule_push S w [] e s m = (m, tt)
schedule_push S w (d ∷ es) e s m = (s.0, schedule_push S (after_event S w d) es e s.1 m)

abbrev end : (S : Setup) (Lawful : List ℕ → Type 0) (B : TableStart) (ws : List ℕ) (ms : List CallState) → IsReached S Lawful B ws ms → Moment
end S Lawful B ws ms r = after_events S (opening_moment S B (table_word_count S)) r.events

pub begun_at : (S : Setup) (Lawful : List ℕ → Type 0) (B : TableStart) → MayStart S Lawful B → IsReached S Lawful B (first_words S.callers S.cells B (table_word_count S)) (idle_machines S (start_ticket S B) 0 S.callers)
begun_at S Lawful B may = record { may_start = may; events = []; schedule = tt; words = refl; machines = refl }

module _ (S : Setup) (Lawful : List ℕ → Type 0) (B : TableStart) (ws : List ℕ) (ms : List CallState) (r : IsReached S Lawful B ws ms) where
  further : (e : Event) → MayHappen S (end S Lawful B ws ms r) e → IsReached S Lawful B (after_event S (end S Lawful B ws ms r) e).words (after_event S (end S Lawful B ws ms r) e).machines
  further e m = record {
    may_start = r.may_start;
    events = r.events ++ e ∷ [];
    schedule = schedule_push S (opening_moment S B (table_word_count S)) r.events e r.schedule m;
    words = ap (λ (w : Moment). w.words) (run_push S (opening_moment S B (table_word_count S)) r.events e);
    machines = ap (λ (w : Moment). w.machines) (run_push S (opening_moment S B (table_word_count S)) r.events e);
  }

  is_machine : (i : ℕ) → machine_in (end S Lawful B ws ms r) i ≡ get_or ms i no_machine
  is_machine i = ap (λ (xs : List CallState). get_or xs i no_machine) r.machines

  pub begins : (i : ℕ) (op : List ℕ) (m : CallState) → get_or ms i no_machine ≡ m → i < S.callers → m.place ≡ Idle → 1 ≤ length op → length op ≤ S.instrs → m.made + 1 < PAYLOADS → IsReached S Lawful B ws (set ms i (begin_call S m op))
  begins i op m e h p l k t = rw (← r.words, ← r.machines, ← (is_machine i ∙ e)) (further (Begins i op) (h, rw (is_machine i ∙ e) p, l, k, rw (is_machine i ∙ e) t))

  pub turns : (i : ℕ) (m : CallState) → get_or ms i no_machine ≡ m → i < S.callers → IsReached S Lawful B (words_after (want S m) ws) (set ms i (take_word S m (word_found S ws m)))
  turns i m e h = rw (← r.words, ← r.machines, ← (is_machine i ∙ e)) (further (Turns i) h)

  pub raises : (c : ℕ) → c < cell_count S → IsReached S Lawful B (set ws (durable_at S c) (max (get_or ws (durable_at S c) 0) (get_or ws c 0))) ms
  raises c h = rw (← r.words, ← r.machines) (further (Raises c) h)

-- the machine of a bank meets the word that its wanted step finds
module _ (S : Setup) (Lawful : List ℕ → Type 0) (sound : IsSoundMeaning S.meaning Lawful (first_operation_cell S) S.cells) (some : 0 < S.callers) (few : S.callers < PAYLOADS) (own_in : first_operation_cell S ≤ S.cells) (narrow : S.instrs ≤ MOST_INSTRS) (little : S.cells < PAYLOADS) (B : TableStart) (ws : List ℕ) (ms : List CallState) (r : IsReached S Lawful B ws ms) where
  good : MeetsInvariant S Lawful B (end S Lawful B ws ms r)
  good = run_good S Lawful sound B r.events (opening_moment S B (table_word_count S)) (start_good S Lawful sound B r.may_start some few own_in (table_word_count S) (omega arith) narrow little) r.schedule

  pub meets : (i : ℕ) (m : CallState) → i < S.callers → i < length ms → get_or ms i no_machine ≡ m → MayTake S Lawful m (word_found S ws m)
  meets i m h l e = record {
    start = B;
    world = end S Lawful B ws ms r;
    good = good;
    caller = i;
    in_range = h;
    here = rw r.machines (get_or_default ms i m no_machine l ∙ e);
    finds = rw (← r.words) (found_now S (end S Lawful B ws ms r).words m);
  }

-- the machines of a bank
module _ {X : Type 0} (work : X) (callers cells limit : ℕ) where
  abbrev pub at : CallState → Machine X
  at d = record { work = work; callers = callers; cells = cells; limit = limit; call = d }

  -- a machine that goes on stays one of the bank
  pub alike_call : (s t : Machine X) (d : CallState) → s ≡ at s.call → t ≡ record s { call = d } → t ≡ at t.call
  alike_call s t d p q =
      let e : t ≡ at d = q ∙ ap (λ (x : Machine X). record x { call = d }) p in
      e ∙ ap at (sym (ap (λ (x : Machine X). x.call) e))

  -- one that was made for it
  pub alike_new : (s : Machine X) → s.work ≡ work → s.callers ≡ callers → s.cells ≡ cells → s.limit ≡ limit → s ≡ at s.call
  alike_new s p q r t = rw (← p, ← q, ← r, ← t) refl

  module _ (ms : List (Machine X)) where
    pub alike_set : (i : ℕ) (s : Machine X) → RunSameWork work callers cells limit ms → s ≡ at s.call → RunSameWork work callers cells limit (set ms i s)
    alike_set i s a p k d l = go (cases_eq k i)
      where
        here : k < length ms
        here = omega (arith, length-set ms i s)

        go : (k ≡ i) ⊎ (k ≡ i → ⊥) → get_or (set ms i s) k d ≡ at (get_or (set ms i s) k d).call
        go (inl e) = rw (e, get_or-set_same ms i s d (rw (← e) here)) p
        go (inr n) = rw (get_or-set_other ms i k s d n) (a k d here)

    pub alike_push : (s : Machine X) → RunSameWork work callers cells limit ms → s ≡ at s.call → RunSameWork work callers cells limit (ms ++ s ∷ [])
    alike_push s a p k d l = go (cases_eq k (length ms))
      where
        go : (k ≡ length ms) ⊎ (k ≡ length ms → ⊥) → get_or (ms ++ s ∷ []) k d ≡ at (get_or (ms ++ s ∷ []) k d).call
        go (inl e) = rw (get_or_push ms s d k (sym e)) p
        go (inr n) = let here : k < length ms = omega (arith, length-append ms (s ∷ [])) in rw (get_or_append_left ms (s ∷ []) d k here) (a k d here)

    -- machine i as code sees it
    pub seen_at : (i : ℕ) (s : Machine X) → RunSameWork work callers cells limit ms → i < length ms → s ≡ get_or ms i s → (s ≡ at s.call) × (get_or (call_states ms) i no_machine ≡ s.call)
    seen_at i s a l p = (p ∙ a i s l ∙ ap (λ (x : Machine X). at x.call) (sym p), get_or-map (λ (m : Machine X). m.call) ms i s no_machine l ∙ ap (λ (x : Machine X). x.call) (sym p))

    pub held_length : length (call_states ms) ≡ length ms
    held_length = length-map ms (λ (m : Machine X). m.call)

    pub held_put : (i : ℕ) (t : Machine X) (d : CallState) → t.call ≡ d → call_states (set ms i t) ≡ set (call_states ms) i d
    held_put i t d e = map-set (λ (m : Machine X). m.call) ms i t ∙ ap (set (call_states ms) i) e

    -- what is read after a write
    pub held_now : (i : ℕ) (t : Machine X) → i < length ms → get_or (call_states (set ms i t)) i no_machine ≡ t.call
    held_now i t l = get_or-map (λ (m : Machine X). m.call) (set ms i t) i t no_machine (omega (arith, length-set ms i t)) ∙ ap (λ (x : Machine X). x.call) (get_or-set_same ms i t t l)

    pub held_push : (S : Setup) (made : ℕ → ℕ) (s : Machine X) (n : ℕ) → call_states ms ≡ idle_machines S made 0 n → s.call ≡ idle_machine S n (made n) → call_states (ms ++ s ∷ []) ≡ idle_machines S made 0 (n + 1)
    held_push S made s n p q = map-append (λ (m : Machine X). m.call) ms (s ∷ []) ∙ rw (p, q) (idles_push 0 n n (omega arith) ∙ ap (idle_machines S made 0) (let z : suc n ≡ n + 1 = omega arith in z))
      where
        idles_push : (i n k : ℕ) → i + n ≡ k → idle_machines S made i n ++ idle_machine S k (made k) ∷ [] ≡ idle_machines S made i (suc n)
        idles_push i zero k e = let z : k ≡ i = omega arith in rw z refl
        idles_push i (suc n) k e = ap (λ (xs : List CallState). idle_machine S i (made i) ∷ xs) (idles_push (suc i) n k (omega arith))

-- where a count has come to its end
pub at_end : (i n : ℕ) → i ≤ n → n ≤ i → i ≡ n
at_end i n l u = omega arith

-- what a machine asks for at its place, and how it goes on there
pub asks_here : (S : Setup) (m : CallState) (p : Place) → p ≡ m.place → want_at S m p ≡ want S m
unfolding want
asks_here S m p e = rw e refl

pub goes_on : (S : Setup) (m : CallState) (n : ℕ) (p : Place) → p ≡ m.place → take_word_at S (with_step_counted p m) n p ≡ take_word S m n
unfolding take_word
goes_on S m n p e = rw e refl

-- a turn of an idle machine leaves words and machines as they are
pub rests : (S : Setup) (ws : List ℕ) (ms : List CallState) (i : ℕ) (m : CallState) → get_or ms i no_machine ≡ m → m.place ≡ Idle → (words_after (want S m) ws ≡ ws) × (set ms i (take_word S m (word_found S ws m)) ≡ ms)
unfolding want take_word
rests S ws ms i m e p = go m.place p (get_or ws (word_of (want_at S m m.place)) 0)
  where
    go : (p : Place) → p ≡ Idle → (n : ℕ) → (words_after (want_at S m p) ws ≡ ws) × (set ms i (take_word_at S (with_step_counted p m) n p) ≡ ms)
    go p q n = rw q (set-get_or ws 0 0, rw (← e) (set-get_or ms i no_machine))

-- what a turn says of a machine that wasn't idle
pub turn_is : (p : Place) (m : CallState) (o : Option Outcome) (r : Turn) → (p ≡ Idle → ⊥) → r ≡ turn_of_outcome o → o ≡ ended_outcome m → r ≡ turn_at p m
turn_is Idle m o r h e q = absurd (h refl)
turn_is p m o r h e q = e ∙ ap turn_of_outcome q

-- what events leave, of a bench under another name
pub carry : {X : Type 0} (M : X → Meaning) (b x y : Bank X) (es : List Event) → x ≡ y → b ≡ bank_after M es x → b ≡ bank_after M es y
carry M b x y es e p = p ∙ ap (bank_after M es) e

-- what events leave of a bank
module _ {X : Type 0} (M : X → Meaning) (b : Bank X) where
  module _ (i : ℕ) (m : CallState) (e : get_or b.machines i no_machine ≡ m) where
    pub begun_after : (op : List ℕ) (ms : List CallState) → ms ≡ set b.machines i (begin_call (bank_setup M b) m op) → record b { machines = ms } ≡ bank_after M (Begins i op ∷ []) b
    begun_after op ms q = rw (q, ← e) refl

    pub rests_after : m.place ≡ Idle → b ≡ bank_after M (Turns i ∷ []) b
    rests_after p = let r = rests (bank_setup M b) b.words b.machines i (get_or b.machines i no_machine) refl (ap (λ (m : CallState). m.place) e ∙ p) in rw (r.0, r.1) refl

    pub turned_after : (ws : List ℕ) (ms : List CallState) → ws ≡ words_after (want (bank_setup M b) m) b.words → ms ≡ set b.machines i (take_word (bank_setup M b) m (word_found (bank_setup M b) b.words m))
        → record b { words = ws; machines = ms } ≡ bank_after M (Turns i ∷ []) b
    turned_after ws ms p q = rw (p, q, ← e) refl

  pub raised_after : (c : ℕ) (ws : List ℕ) → ws ≡ set b.words (durable_at (bank_setup M b) c) (max (get_or b.words (durable_at (bank_setup M b) c) 0) (get_or b.words c 0)) → record b { words = ws } ≡ bank_after M (Raises c ∷ []) b
  raised_after c ws p = rw p refl
