-- Evictions may be made at once: of each schedule there is one in which each eviction is made when its cell
-- is loaded, that leaves the same but for the words that are still to be raised.
use Rattle.std.proofs.Common.{◌≡◌, ◌==◌, ℕ, zero, suc, ◌+◌, ◌<◌, ◌≤◌, ◌⊎◌, inl, inr, max, Bool, true, false, List, [], ◌∷◌, ◌++◌, length, get_or, set, map, refl, sym, ◌∙◌, ap, subst, arith, length-set}
use Rattle.std.specs.List.{AllByRecursion as Each}
use Rattle.std.proofs.lemmas.Bool.{cases_eq}
use Rattle.std.proofs.lemmas.List.{append_assoc, append-nil, map-append, get_or-set_same, get_or-set_other, get_or_default, set-set, set_comm}
use lib.Seq.{set-get_or}
use Rattle.of_cell.specs.declared.word.TheConstants.{PAYLOADS}
use Rattle.of_cell.specs.Words.{pack}
use Rattle.of_core.specs.declared.place.Place.{Place}
use Rattle.of_core.specs.declared.place.Place.TheVariants.{Idle, ExchangeCurrent}
use Rattle.of_core.specs.declared.place.Op.{Op}
use Rattle.of_core.specs.declared.place.Op.TheVariants.{Load, Store, Exchange, Raise}
use Rattle.of_core.specs.Table.{Setup, cell_count, words_before_members, durable_at, durable_word}
use Rattle.of_core.specs.Machine.{CallState, IsOpen, no_machine, begin_call}
use Rattle.of_core.specs.Steps.{want, take_word, word_of, word_left, words_after, word_found, IsFoundBy}
use Rattle.of_core.specs.TableMoment.{Moment, TableStart, step_batches, step_reads, one_batch, step_batches_at, after_step}
use Rattle.of_core.specs.Invariant.{MeetsInvariant}
use Rattle.of_core.specs.Events.{Event, Begins, Turns, Loads, Evicts, Raises, Revives, machine_in, after_event, after_events, IsSchedule, MayHappen, turn_count, turns_in_event, ReplacesNone, AllReplaceNone}
use Rattle.of_core.specs.Calls.{if_so, operations_begun, outcomes, operation_begun, outcome_of_event, outcome_of_step, TurnsFindOpenCalls}
use Rattle.of_core.specs.Laws.{IsRaise, GoesBlindly}
use Rattle.of_core.proofs.Parts.{run_append, operations_append, outcomes_append}
use Rattle.of_row.specs.Views.{seen_batch}
use Rattle.of_core.specs.WordsMatch.{MayStart}
use Rattle.of_row.specs.Trail.{first_of, whole_of, at_once, TurnIsNext, IsPrompt, AreSteps, revivals_in_event, revival_count, evictions}
use Rattle.of_row.specs.RowLaws.{RowLaws}
use Rattle.of_row.proofs.Frames.{found_as}
use Rattle.of_row.proofs.Fronts.{each_append}
use Rattle.of_row.proofs.Events.{schedule_append, turns_append, revivals_append, busy_append}

-- ---- words with what was loaded raised

abbrev pub Inside : Setup → List (ℕ × ℕ) → Type 0
Inside S es = Each (λ (e : ℕ × ℕ). e.0 < cell_count S) es

-- the words, with the durable words raised to these words that were loaded of their cells
abbrev pub lifted : Setup → List (ℕ × ℕ) → List ℕ → List ℕ
lifted S [] ws = ws
lifted S (e ∷ es) ws = set (lifted S es ws) (durable_at S e.0) (max (get_or (lifted S es ws) (durable_at S e.0) 0) e.1)

pub lifted_length : (S : Setup) (es : List (ℕ × ℕ)) (ws : List ℕ) → length (lifted S es ws) ≡ length ws
lifted_length S [] ws = refl
lifted_length S (e ∷ es) ws = length-set (lifted S es ws) (durable_at S e.0) (max (get_or (lifted S es ws) (durable_at S e.0) 0) e.1) ∙ lifted_length S es ws

-- no word of its own changes that is on no durable word
lifted_else : (S : Setup) (es : List (ℕ × ℕ)) (ws : List ℕ) (c : ℕ) → Inside S es → ((k : ℕ) → k < cell_count S → c ≡ durable_at S k → ⊥) → get_or (lifted S es ws) c 0 ≡ get_or ws c 0
lifted_else S [] ws c i off = refl
lifted_else S (e ∷ es) ws c i off = get_or-set_other (lifted S es ws) (durable_at S e.0) c (max (get_or (lifted S es ws) (durable_at S e.0) 0) e.1) 0 (off e.0 i.0) ∙ lifted_else S es ws c i.1 off

-- a step on the words and a raise of a durable word: either may come first
step_raise : (o : Op) (ws : List ℕ) (a x : ℕ) → a < length ws → (word_of o ≡ a → IsRaise o) → set (words_after o ws) a (max (get_or (words_after o ws) a 0) x) ≡ words_after o (set ws a (max (get_or ws a 0) x))
step_raise o ws a x inside how = go (cases_eq (word_of o) a)
  where
    c : ℕ
    c = word_of o

    y : ℕ
    y = word_left o (get_or ws (word_of o) 0)

    same_word : (q : Op) (ws : List ℕ) (x : ℕ) → word_of q < length ws → IsRaise q → set (words_after q ws) (word_of q) (max (get_or (words_after q ws) (word_of q) 0) x) ≡ words_after q (set ws (word_of q) (max (get_or ws (word_of q) 0) x))
    same_word (Load b) ws x l r = absurd r
    same_word (Store b v) ws x l r = absurd r
    same_word (Exchange b p q) ws x l r = absurd r
    same_word (Raise b v) ws x l r =
        let f : ℕ = get_or ws b 0 in
        let one : get_or (set ws b (max f v)) b 0 ≡ max f v = get_or-set_same ws b (max f v) 0 l in
        let two : get_or (set ws b (max f x)) b 0 ≡ max f x = get_or-set_same ws b (max f x) 0 l in
        let both : max (get_or (set ws b (max f v)) b 0) x ≡ max (get_or (set ws b (max f x)) b 0) v = omega (arith, one, two) in
        set-set ws b (max f v) (max (get_or (set ws b (max f v)) b 0) x) ∙ (ap (set ws b) both ∙ sym (set-set ws b (max f x) (max (get_or (set ws b (max f x)) b 0) v)))

    go : (word_of o ≡ a) ⊎ (word_of o ≡ a → ⊥) → set (words_after o ws) a (max (get_or (words_after o ws) a 0) x) ≡ words_after o (set ws a (max (get_or ws a 0) x))
    go (inl e) =
        subst (λ (z : ℕ). set (words_after o ws) z (max (get_or (words_after o ws) z 0) x) ≡ words_after o (set ws z (max (get_or ws z 0) x))) e (same_word o ws x (omega (arith, e, inside)) (how e))
    go (inr ne) =
        let there : get_or (set ws (word_of o) (word_left o (get_or ws (word_of o) 0))) a 0 ≡ get_or ws a 0 = get_or-set_other ws (word_of o) a (word_left o (get_or ws (word_of o) 0)) 0 (λ e. ne (sym e)) in
        let here : get_or (set ws a (max (get_or ws a 0) x)) (word_of o) 0 ≡ get_or ws (word_of o) 0 = get_or-set_other ws a (word_of o) (max (get_or ws a 0) x) 0 ne in
        ap (λ (z : ℕ). set (words_after o ws) a (max z x)) there
        ∙ (set_comm ws (word_of o) a (word_left o (get_or ws (word_of o) 0)) (max (get_or ws a 0) x) ne
        ∙ ap (λ (z : ℕ). set (set ws a (max (get_or ws a 0) x)) (word_of o) (word_left o z)) (sym here))

lifted_step : (S : Setup) (o : Op) (es : List (ℕ × ℕ)) (ws : List ℕ) → Inside S es → words_before_members S ≤ length ws → ((k : ℕ) → k < cell_count S → word_of o ≡ durable_at S k → IsRaise o) → lifted S es (words_after o ws) ≡ words_after o (lifted S es ws)
lifted_step S o [] ws i room how = refl
lifted_step S o (e ∷ es) ws i room how =
    ap (λ (z : List ℕ). set z (durable_at S e.0) (max (get_or z (durable_at S e.0) 0) e.1)) (lifted_step S o es ws i.1 room how)
    ∙ step_raise o (lifted S es ws) (durable_at S e.0) e.1 (omega (arith, lifted_length S es ws, i.0)) (how e.0 i.0)

-- of one list and then another
lifted_append : (S : Setup) (xs ys : List (ℕ × ℕ)) (ws : List ℕ) → lifted S (xs ++ ys) ws ≡ lifted S xs (lifted S ys ws)
lifted_append S [] ys ws = refl
lifted_append S (e ∷ xs) ys ws = ap (λ (z : List ℕ). set z (durable_at S e.0) (max (get_or z (durable_at S e.0) 0) e.1)) (lifted_append S xs ys ws)

-- a word that is high enough stays
pub raised_already : (ws : List ℕ) (c x : ℕ) → x ≤ get_or ws c 0 → set ws c (max (get_or ws c 0) x) ≡ ws
raised_already ws c x low = let same : max (get_or ws c 0) x ≡ get_or ws c 0 = omega (arith, low) in ap (set ws c) same ∙ set-get_or ws c 0

-- nothing is left to be raised where each durable word has what was loaded
pub lifted_done : (S : Setup) (es : List (ℕ × ℕ)) (ws : List ℕ) → Each (λ (e : ℕ × ℕ). e.1 ≤ durable_word S ws e.0) es → lifted S es ws ≡ ws
lifted_done S [] ws d = refl
lifted_done S (e ∷ es) ws d =
    let rest : lifted S es ws ≡ ws = lifted_done S es ws d.1 in
    ap (λ (z : List ℕ). set z (durable_at S e.0) (max (get_or z (durable_at S e.0) 0) e.1)) rest ∙ raised_already ws (durable_at S e.0) e.1 d.0

-- to raise a durable word, and the others: either may come first
lifted_raise : (S : Setup) (c x : ℕ) (es : List (ℕ × ℕ)) (ws : List ℕ) → Inside S es → words_before_members S ≤ length ws → lifted S es (set ws (durable_at S c) (max (get_or ws (durable_at S c) 0) x)) ≡ set (lifted S es ws) (durable_at S c) (max (get_or (lifted S es ws) (durable_at S c) 0) x)
lifted_raise S c x es ws i room = lifted_step S (Raise (durable_at S c) x) es ws i room (λ k l e. tt)

-- a durable word has what was loaded
lifted_has : (S : Setup) (es : List (ℕ × ℕ)) (ws : List ℕ) (k : ℕ) → Inside S es → words_before_members S ≤ length ws → k < length es → (get_or es k (0, 0)).1 ≤ durable_word S (lifted S es ws) (get_or es k (0, 0)).0
lifted_has S [] ws k i room l = absurd (omega (arith, l))
lifted_has S (e ∷ es) ws zero i room l =
    let is = get_or-set_same (lifted S es ws) (durable_at S e.0) (max (get_or (lifted S es ws) (durable_at S e.0) 0) e.1) 0 (omega (arith, lifted_length S es ws, i.0, room)) in
    omega (arith, is)
lifted_has S (e ∷ es) ws (suc k) i room l = go (get_or es k (0, 0)) (lifted_has S es ws k i.1 room (omega (arith, l))) (cases_eq (durable_at S (get_or es k (0, 0)).0) (durable_at S e.0))
  where
    here : get_or (lifted S (e ∷ es) ws) (durable_at S e.0) 0 ≡ max (get_or (lifted S es ws) (durable_at S e.0) 0) e.1
    here = get_or-set_same (lifted S es ws) (durable_at S e.0) (max (get_or (lifted S es ws) (durable_at S e.0) 0) e.1) 0 (omega (arith, lifted_length S es ws, i.0, room))

    go : (f : ℕ × ℕ) → f.1 ≤ durable_word S (lifted S es ws) f.0 → (durable_at S f.0 ≡ durable_at S e.0) ⊎ (durable_at S f.0 ≡ durable_at S e.0 → ⊥) → f.1 ≤ durable_word S (lifted S (e ∷ es) ws) f.0
    go f old (inl q) =
        let up : f.1 ≤ get_or (lifted S es ws) (durable_at S e.0) 0 = subst (λ (a : ℕ). f.1 ≤ get_or (lifted S es ws) a 0) q old in
        subst (λ (a : ℕ). f.1 ≤ get_or (lifted S (e ∷ es) ws) a 0) (sym q) (omega (arith, up, here))
    go f old (inr ne) = subst (λ (y : ℕ). f.1 ≤ y) (sym (get_or-set_other (lifted S es ws) (durable_at S e.0) (durable_at S f.0) (max (get_or (lifted S es ws) (durable_at S e.0) 0) e.1) 0 ne)) old

raise_finds : (o : Op) (ws : List ℕ) → IsRaise o → IsFoundBy o ws (get_or ws (word_of o) 0)
raise_finds (Load c) ws r = absurd r
raise_finds (Store c v) ws r = absurd r
raise_finds (Exchange c a b) ws r = absurd r
raise_finds (Raise c v) ws r = refl

same_log : (S : Setup) (xs ys : List ℕ) (d : CallState) (n : ℕ) → map seen_batch (step_batches S xs d n) ≡ map seen_batch (step_batches S ys d n)
unfolding step_batches
same_log S xs ys d n = go d.place
  where
    one : (b : Bool) → map seen_batch (one_batch S xs d b) ≡ map seen_batch (one_batch S ys d b)
    one true = refl
    one false = refl

    go : (p : Place) → map seen_batch (step_batches_at S xs d n p) ≡ map seen_batch (step_batches_at S ys d n p)
    go ExchangeCurrent = one (n == pack d.seq d.owner)
    go p = refl

-- ---- worlds that are alike

-- the second world is the first one with what was loaded raised
pub record Alike (S : Setup) (w v : Moment) : Type 0 where
  pub words : v.words ≡ lifted S w.loaded w.words
  pub machines : w.machines ≡ v.machines
  pub batches : map seen_batch w.batches ≡ map seen_batch v.batches
  pub reads : w.reads ≡ v.reads

-- the world has the words of its table, and cells alone were loaded
pub record HasRoom (S : Setup) (w : Moment) : Type 0 where
  pub long : words_before_members S ≤ length w.words
  pub inside : Inside S w.loaded

-- what events do to the first world, and other events to the second
pub record Follows (S : Setup) (w v : Moment) (es ds : List Event) : Type 0 where
  pub schedule : IsSchedule S v ds
  pub alike : Alike S (after_events S w es) (after_events S v ds)
  pub ended : (i : ℕ) → outcomes S v ds i ≡ outcomes S w es i
  pub busy : (i : ℕ) → TurnsFindOpenCalls S w es i → TurnsFindOpenCalls S v ds i

begins_same : (e : Event) (i : ℕ) → operations_begun (whole_of e) i ≡ operation_begun e i
begins_same (Begins j op) i = append-nil (if_so (i == j) (op ∷ []))
begins_same (Turns j) i = refl
begins_same (Loads c) i = refl
begins_same (Evicts k) i = refl
begins_same (Raises c) i = refl
begins_same (Revives j made) i = refl

turns_same : (e : Event) (i : ℕ) → turn_count i (whole_of e) ≡ turns_in_event i e
turns_same (Begins j op) i = refl
turns_same (Turns j) i = omega arith
turns_same (Loads c) i = refl
turns_same (Evicts k) i = refl
turns_same (Raises c) i = refl
turns_same (Revives j made) i = refl

-- the calls that are begun, and the turns, are the same
pub operations_at_once : (es : List Event) (i : ℕ) → operations_begun (at_once es) i ≡ operations_begun es i
operations_at_once [] i = refl
operations_at_once (e ∷ es) i = operations_append (whole_of e) (at_once es) i ∙ λ k. begins_same e i k ++ operations_at_once es i k

pub turns_at_once : (es : List Event) (i : ℕ) → turn_count i (at_once es) ≡ turn_count i es
turns_at_once [] i = refl
turns_at_once (e ∷ es) i = omega (arith, turns_append i (whole_of e) (at_once es), turns_same e i, turns_at_once es i)

revivals_same : (e : Event) (i : ℕ) → revival_count i (whole_of e) ≡ revivals_in_event i e
revivals_same (Begins j op) i = refl
revivals_same (Turns j) i = refl
revivals_same (Loads c) i = refl
revivals_same (Evicts k) i = refl
revivals_same (Raises c) i = refl
revivals_same (Revives j made) i = omega arith

-- and so are the machines that are replaced
pub revivals_at_once : (es : List Event) (i : ℕ) → revival_count i (at_once es) ≡ revival_count i es
revivals_at_once [] i = refl
revivals_at_once (e ∷ es) i = omega (arith, revivals_append i (whole_of e) (at_once es), revivals_same e i, revivals_at_once es i)

module _ (S : Setup) (L : List ℕ → Type 0) (laws : RowLaws S L) (B : TableStart) where
  module _ (w v : Moment) (good : MeetsInvariant S L B w) (room : HasRoom S w) (same : Alike S w v) where
    machine_same : (i : ℕ) → machine_in w i ≡ machine_in v i
    machine_same i = ap (λ (ms : List CallState). get_or ms i no_machine) same.machines

    -- a word that is no durable one
    word_same : (c : ℕ) → ((k : ℕ) → k < cell_count S → c ≡ durable_at S k → ⊥) → get_or v.words c 0 ≡ get_or w.words c 0
    word_same c off = ap (λ (z : List ℕ). get_or z c 0) same.words ∙ lifted_else S w.loaded w.words c room.inside off

    cell_same : (c : ℕ) → c < cell_count S → get_or v.words c 0 ≡ get_or w.words c 0
    cell_same c low = word_same c (λ k l e. omega (arith, low, e))

    module _ (i : ℕ) (may : i < S.callers) where
      abbrev d : CallState
      d = machine_in w i

      abbrev n : ℕ
      n = word_found S w.words d

      inside : i < length w.machines
      inside = omega (arith, may, (laws.sound B w good).members)

      here : get_or w.machines i d ≡ d
      here = sym (get_or_default w.machines i no_machine d inside)

      -- what the step finds there, where the machine goes on as it does here
      record Finds : Type 0 where
        pub number : ℕ
        pub found : IsFoundBy (want S d) v.words number
        pub same_machine : take_word S d n ≡ take_word S d number
        pub same_bare : map seen_batch (step_batches S w.words d n) ≡ map seen_batch (step_batches S v.words d number)
        pub raise_only : (c : ℕ) → c < cell_count S → word_of (want S d) ≡ durable_at S c → IsRaise (want S d)

      finds_by : ((c : ℕ) → c < cell_count S → word_of (want S d) ≡ durable_at S c → ⊥) ⊎ GoesBlindly S d → Finds
      finds_by (inl off) = record {
        number = n;
        found = found_as (want S d) w.words v.words n (sym (word_same (word_of (want S d)) off)) (laws.finds S w.words d);
        same_machine = refl;
        same_bare = same_log S w.words v.words d n;
        raise_only = λ c k e. absurd (off c k e);
      }
      finds_by (inr b) =
          let k : ℕ = get_or v.words (word_of (want S d)) 0 in
          record {
            number = k;
            found = raise_finds (want S d) v.words b.0;
            same_machine = b.1 n k;
            same_bare = ap (map seen_batch) (b.2 w.words n ∙ sym (b.2 v.words k));
            raise_only = λ c l e. b.0;
          }

      f : Finds
      f = finds_by (laws.blind B w good i d may here)

      -- the turn there
      to : after_event S v (Turns i) ≡ after_step S i d f.number v
      to =
          let at : machine_in v i ≡ d = sym (machine_same i) in
          laws.turn_is S v i f.number (subst (λ (m : CallState). IsFoundBy (want S m) v.words f.number) (sym at) f.found) ∙ ap (λ (m : CallState). after_step S i m f.number v) at

      turn_alike : Alike S (after_event S w (Turns i)) (after_event S v (Turns i))
      turn_alike = subst (Alike S (after_event S w (Turns i))) (sym to) record {
        words = ap (words_after (want S d)) same.words ∙ sym (lifted_step S (want S d) w.loaded w.words room.inside room.long f.raise_only);
        machines = λ k. set (same.machines k) i (f.same_machine k);
        batches = map-append seen_batch w.batches (step_batches S w.words d n) ∙ ((λ k. same.batches k ++ f.same_bare k) ∙ sym (map-append seen_batch v.batches (step_batches S v.words d f.number)));
        reads = λ k. same.reads k ++ step_reads d (f.same_machine k);
      }

      turn_follows : Follows S w v (Turns i ∷ []) (Turns i ∷ [])
      turn_follows = record {
        schedule = (may, tt);
        alike = turn_alike;
        ended = λ j k. if_so (j == i) (outcome_of_step (sym (machine_same i) k) (get_or (sym turn_alike.machines k) i no_machine)) ++ [];
        busy = λ j b. (λ e. subst (λ (m : CallState). IsOpen m.place) (machine_same j) (b.0 e), tt);
      }

    follows : (e : Event) → ReplacesNone e → MayHappen S w e → Follows S w v (e ∷ []) (whole_of e)
    follows (Revives i made) kept may = absurd kept
    follows (Begins i op) kept may = record {
      schedule = (subst (λ (m : CallState). (i < S.callers) × (m.place ≡ Idle) × (1 ≤ length op) × (length op ≤ S.instrs) × (m.made + 1 < PAYLOADS)) (machine_same i) may, tt);
      alike = record { words = same.words; machines = λ k. set (same.machines k) i (begin_call S (machine_same i k) op); batches = same.batches; reads = same.reads };
      ended = λ j. refl;
      busy = λ j b. (tt, tt);
    }
    follows (Turns i) kept may = turn_follows i may
    follows (Loads c) kept may =
        let x : ℕ = get_or w.words c 0 in
        let found : get_or v.words c 0 ≡ x = cell_same c may in
        record {
          schedule = (may, tt);
          alike = record {
            words = ap (λ (z : List ℕ × ℕ). set z.0 (durable_at S c) (max (get_or z.0 (durable_at S c) 0) z.1)) (λ k. (same.words k, found k))
                ∙ (sym (lifted_raise S c x w.loaded w.words room.inside room.long) ∙ sym (lifted_append S w.loaded ((c, x) ∷ []) w.words));
            machines = same.machines;
            batches = same.batches;
            reads = same.reads;
          };
          ended = λ j. refl;
          busy = λ j b. (tt, tt);
        }
    follows (Evicts k) kept may =
        let e : ℕ × ℕ = get_or w.loaded k (0, 0) in
        record {
          schedule = tt;
          alike = record {
            words = same.words ∙ sym (lifted_raise S e.0 e.1 w.loaded w.words room.inside room.long ∙ raised_already (lifted S w.loaded w.words) (durable_at S e.0) e.1 (lifted_has S w.loaded w.words k room.inside room.long may));
            machines = same.machines;
            batches = same.batches;
            reads = same.reads;
          };
          ended = λ j. refl;
          busy = λ j b. tt;
        }
    follows (Raises c) kept may =
        let x : ℕ = get_or w.words c 0 in
        record {
          schedule = (may, tt);
          alike = record {
            words = ap (λ (z : List ℕ × ℕ). set z.0 (durable_at S c) (max (get_or z.0 (durable_at S c) 0) z.1)) (λ k. (same.words k, cell_same c may k))
                ∙ sym (lifted_raise S c x w.loaded w.words room.inside room.long);
            machines = same.machines;
            batches = same.batches;
            reads = same.reads;
          };
          ended = λ j. refl;
          busy = λ j b. (tt, tt);
        }

    -- cells alone are loaded, and the table keeps its words
    still_room : (e : Event) → MayHappen S w e → HasRoom S (after_event S w e)
    still_room (Begins i op) may = record { long = room.long; inside = room.inside }
    still_room (Revives i made) may = record { long = room.long; inside = room.inside }
    still_room (Turns i) may =
        let o : Op = want S (machine_in w i) in
        record { long = omega (arith, room.long, length-set w.words (word_of o) (word_left o (get_or w.words (word_of o) 0))); inside = room.inside }
    still_room (Loads c) may = record { long = room.long; inside = each_append (λ (e : ℕ × ℕ). e.0 < cell_count S) w.loaded ((c, get_or w.words c 0) ∷ []) room.inside (may, tt) }
    still_room (Evicts k) may =
        let e : ℕ × ℕ = get_or w.loaded k (0, 0) in
        record { long = omega (arith, room.long, length-set w.words (durable_at S e.0) (max (get_or w.words (durable_at S e.0) 0) e.1)); inside = room.inside }
    still_room (Raises c) may = record { long = omega (arith, room.long, length-set w.words (durable_at S c) (max (get_or w.words (durable_at S c) 0) (get_or w.words c 0))); inside = room.inside }

  all_follow : (w v : Moment) → MeetsInvariant S L B w → HasRoom S w → Alike S w v → (es : List Event) → AllReplaceNone es → IsSchedule S w es → Follows S w v es (at_once es)
  all_follow w v good room same [] kept s = record { schedule = tt; alike = same; ended = λ i. refl; busy = λ i b. tt }
  all_follow w v good room same (e ∷ es) kept s =
      let f = follows w v good room same e kept.0 s.0 in
      let v2 : Moment = after_events S v (whole_of e) in
      let g = all_follow (after_event S w e) v2 (laws.runs B w good (e ∷ []) (s.0, tt)) (still_room w v good room same e s.0) f.alike es kept.1 s.1 in
      record {
        schedule = schedule_append S v (whole_of e) (at_once es) f.schedule g.schedule;
        alike = subst (Alike S (after_events S (after_event S w e) es)) (sym (run_append S v (whole_of e) (at_once es))) g.alike;
        ended = λ i. outcomes_append S v (whole_of e) (at_once es) i ∙ λ k. (f.ended i ∙ append-nil (outcome_of_event S w e i)) k ++ g.ended i k;
        busy = λ i b. busy_append S v (whole_of e) (at_once es) i (f.busy i (b.0, tt)) (g.busy i b.1);
      }

  -- from a row's start on
  pub at_once_follows : MayStart S L B → (es : List Event) → AllReplaceNone es → IsSchedule S (first_of S B) es → Follows S (first_of S B) (first_of S B) es (at_once es)
  at_once_follows may es kept s =
      let w : Moment = first_of S B in
      let long : length w.words ≡ words_before_members S + 1 = (laws.words B may.start (words_before_members S + 1) (omega arith)).long in
      all_follow w w (laws.start B may (words_before_members S + 1) (omega arith)).0 record { long = omega (arith, long); inside = tt } record { words = refl; machines = refl; batches = refl; reads = refl } es kept s

-- steps on a row that replace no machine, with evictions made at once, are as in the schedule of a
-- plan
pub prompt_at_once : (es : List Event) → AreSteps es → AllReplaceNone es → IsPrompt (at_once es)
prompt_at_once [] a kept = tt
prompt_at_once (Begins i op ∷ es) a kept = (next es a.0, prompt_at_once es a.1 kept.1)
  where
    next : (es : List Event) → TurnIsNext i es → TurnIsNext i (at_once es)
    next [] t = absurd t
    next (Begins j op ∷ es) t = absurd t
    next (Turns j ∷ es) t = t
    next (Loads c ∷ es) t = absurd t
    next (Evicts k ∷ es) t = absurd t
    next (Raises c ∷ es) t = absurd t
    next (Revives j made ∷ es) t = absurd t
prompt_at_once (Turns i ∷ es) a kept = prompt_at_once es a kept.1
prompt_at_once (Loads c ∷ es) a kept = prompt_at_once es a kept.1
prompt_at_once (Evicts k ∷ es) a kept = prompt_at_once es a kept.1
prompt_at_once (Raises c ∷ es) a kept = absurd a
prompt_at_once (Revives i made ∷ es) a kept = absurd kept.0

-- and evict the cells that were loaded
pub evicts_loaded : (S : Setup) (w : Moment) (es : List Event) → AreSteps es → map (λ (e : ℕ × ℕ). e.0) (after_events S w es).loaded ≡ map (λ (e : ℕ × ℕ). e.0) w.loaded ++ evictions (at_once es)
evicts_loaded S w [] a = sym (append-nil (map (λ (e : ℕ × ℕ). e.0) w.loaded))
evicts_loaded S w (Begins i op ∷ es) a = evicts_loaded S (after_event S w (Begins i op)) es a.1
evicts_loaded S w (Turns i ∷ es) a = evicts_loaded S (after_event S w (Turns i)) es a
evicts_loaded S w (Loads c ∷ es) a =
    evicts_loaded S (after_event S w (Loads c)) es a
    ∙ (ap (λ (z : List ℕ). z ++ evictions (at_once es)) (map-append (λ (e : ℕ × ℕ). e.0) w.loaded ((c, get_or w.words c 0) ∷ []))
    ∙ append_assoc (map (λ (e : ℕ × ℕ). e.0) w.loaded) (c ∷ []) (evictions (at_once es)))
evicts_loaded S w (Evicts k ∷ es) a = evicts_loaded S (after_event S w (Evicts k)) es a
evicts_loaded S w (Raises c ∷ es) a = absurd a
evicts_loaded S w (Revives i made ∷ es) a = evicts_loaded S (after_event S w (Revives i made)) es a
