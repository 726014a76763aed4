-- What the events of others leave of a caller that does nothing: its log's first word, its script and its announcement
-- stay, cells and durable words only rise, and if its machine may be replaced, it may still be replaced.
use Rattle.std.proofs.Common.{◌≡◌, ◌==◌, ℕ, zero, suc, ◌+◌, ◌*◌, ◌<◌, ◌≤◌, ◌⊎◌, inl, inr, ⊎_elim, max, List, [], ◌∷◌, ◌++◌, length, get_or, set, refl, sym, ◌∙◌, ap, subst, arith, eq-eqb}
use Rattle.std.specs.List.{AllByRecursion as Each}
use Rattle.std.proofs.lemmas.Bool.{cases_eq, cases_lt}
use Rattle.std.proofs.lemmas.List.{get_or-set_same, get_or-set_other, get_or_default, get_or_past}
use Rattle.of_cell.specs.Words.{pack, seq_of, payload_of}
use Rattle.of_cell.proofs.Order.{seq_mono, seq_word}
use Rattle.of_cell.proofs.Places.{row_within}
use Rattle.of_core.specs.declared.remains.Remains.{Remains}
use mathlib.Core.List.{IsPrefix}
use Rattle.of_core.specs.Table.{most_entries, Setup, words_before_members, cell_count, durable_at, current_word, request_at, request_of, durable_request, durable_word, log_at, log_word_of, script_word, script_word_at, script_words_of, announcement_of, committed_seq, committed_owner}
use Rattle.of_core.specs.Machine.{CallState, no_machine}
use Rattle.of_core.specs.Remains.{remains_of, MayRevive}
use Rattle.of_core.specs.Steps.{word_found}
use Rattle.of_core.specs.TableMoment.{Moment, TableStart}
use Rattle.of_core.specs.Guarantees.{Guarantees}
use Rattle.of_core.specs.Invariant.{MeetsInvariant}
use Rattle.of_core.specs.Events.{Event, Begins, Turns, Loads, Evicts, Raises, Revives, machine_in, after_raise, after_event, after_events, IsSchedule, MayHappen, turn_count, turns_in_event, one_if}
use Rattle.of_core.proofs.Parts.{run_append, first_part, second_part}
use Rattle.of_core.specs.WordsMatch.{MayStart}
use Rattle.of_row.specs.Trail.{first_of, moment}
use Rattle.of_row.specs.RowLaws.{RowLaws}
use Rattle.of_row.proofs.Events.{turns_append}
use Rattle.of_row.proofs.Fronts.{each_append, each_at}

-- the first word of caller i's log, and its script and announcement, are the same in the words ws and vs
pub record OwnWordsStay (S : Setup) (i : ℕ) (ws vs : List ℕ) : Type 0 where
  pub log : log_word_of S vs i 0 ≡ log_word_of S ws i 0
  pub announcement : announcement_of S vs i ≡ announcement_of S ws i
  pub script : script_words_of S vs i S.instrs ≡ script_words_of S ws i S.instrs
  pub said : (x : ℕ) → x < S.instrs + 1 → script_word S vs i x ≡ script_word S ws i x

-- what events of others leave of caller i, if they make vs of the words ws
pub record LeavesCaller (S : Setup) (i : ℕ) (ws vs : List ℕ) : Type 0 where
  pub rise : (c : ℕ) → c < cell_count S → get_or ws c 0 ≤ get_or vs c 0
  pub durs : (c : ℕ) → c < cell_count S → durable_word S ws c ≤ durable_word S vs c
  pub same : committed_seq vs ≡ committed_seq ws → committed_owner vs ≡ committed_owner ws
  pub own : OwnWordsStay S i ws vs
  pub revivable : MayRevive (remains_of S ws i) i → MayRevive (remains_of S vs i) i
  pub request : MayRevive (remains_of S ws i) i → request_of vs i ≡ request_of ws i

-- the words that say whether a machine may be replaced were found one after the other: the durable request in the words
-- w1 of the table, the log's first word in w2, the current-transaction word in w3, and the request in w4
pub record WereFound (S : Setup) (i : ℕ) (w1 w2 w3 w4 : List ℕ) (r : Remains) : Type 0 where
  pub durable : r.durable ≡ durable_request S w1 i
  pub log : r.log ≡ log_word_of S w2 i 0
  pub current : r.current ≡ current_word w3
  pub request : r.request ≡ request_of w4 i

-- if a machine may be replaced, it still may be if the log and the request stay, and the other two words only rise
later_revivable : (r q : Remains) (i : ℕ) → MayRevive r i → q.log ≡ r.log → q.request ≡ r.request → r.current ≤ q.current → (seq_of q.current ≡ seq_of r.current → payload_of q.current ≡ payload_of r.current) → r.durable ≤ q.durable → q.durable ≤ q.request → MayRevive q i
later_revivable r q i m log request up same raised low =
    let more : seq_of r.current ≤ seq_of q.current = seq_mono r.current q.current up in
    let asked : seq_of q.request ≡ seq_of r.request = ap seq_of request in
    record {
      log = omega (arith, m.log, ap seq_of log);
      request = omega (arith, m.request);
      closed = λ o.
          let last : seq_of q.request ≡ seq_of q.current = ap seq_of o.2 ∙ seq_word (seq_of q.current) 0 (omega arith) in
          let level : seq_of q.current ≡ seq_of r.current = omega (arith, m.request) in
          m.closed (sym (same level) ∙ o.0, omega (arith, o.1), cc);
      durable = omega (arith, m.durable);
    }

-- no word falls where a word is raised
pub lowers_none : (ws : List ℕ) (a x k : ℕ) → get_or ws k 0 ≤ get_or (set ws a (max (get_or ws a 0) x)) k 0
lowers_none ws a x k = go (cases_eq k a) (cases_lt a (length ws))
  where
    go : (k ≡ a) ⊎ (k ≡ a → ⊥) → (a < length ws) ⊎ (length ws ≤ a) → get_or ws k 0 ≤ get_or (set ws a (max (get_or ws a 0) x)) k 0
    go (inl e) (inl l) = grind (arith, get_or-set_same ws a (max (get_or ws a 0) x) 0 l)
    go (inl e) (inr l) = grind (arith, get_or_past ws a 0 l)
    go (inr ne) l = omega (arith, get_or-set_other ws a k (max (get_or ws a 0) x) 0 ne)

-- an announcement and a script stay if each of their words does
own_by : (S : Setup) (i : ℕ) (ws vs : List ℕ) → log_word_of S vs i 0 ≡ log_word_of S ws i 0 → ((x : ℕ) → x < S.instrs + 1 → script_word S vs i x ≡ script_word S ws i x) → OwnWordsStay S i ws vs
own_by S i ws vs log said = record { log = log; announcement = said S.instrs (omega arith); script = first S.instrs (omega arith); said = said }
  where
    first : (n : ℕ) → n ≤ S.instrs → script_words_of S vs i n ≡ script_words_of S ws i n
    first zero l = refl
    first (suc n) l = λ k. first n (omega (arith, l)) k ++ said n (omega (arith, l)) k ∷ []

-- the cell of a loaded word is one of the table's
abbrev pub IsInside : Setup → ℕ × ℕ → Type 0
IsInside S e = e.0 < cell_count S

-- words are loaded from the table's cells alone
pub loaded_inside : (S : Setup) (w : Moment) (mid : List Event) → IsSchedule S w mid → Each (IsInside S) w.loaded → Each (IsInside S) (after_events S w mid).loaded
loaded_inside S w [] s all = all
loaded_inside S w (Begins j op ∷ mid) s all = loaded_inside S (after_event S w (Begins j op)) mid s.1 all
loaded_inside S w (Turns j ∷ mid) s all = loaded_inside S (after_event S w (Turns j)) mid s.1 all
loaded_inside S w (Loads c ∷ mid) s all = loaded_inside S (after_event S w (Loads c)) mid s.1 (each_append (IsInside S) w.loaded ((c, get_or w.words c 0) ∷ []) all (s.0, tt))
loaded_inside S w (Evicts k ∷ mid) s all = loaded_inside S (after_event S w (Evicts k)) mid s.1 all
loaded_inside S w (Raises c ∷ mid) s all = loaded_inside S (after_event S w (Raises c)) mid s.1 all
loaded_inside S w (Revives j made ∷ mid) s all = loaded_inside S (after_event S w (Revives j made)) mid s.1 all

module _ (S : Setup) (L : List ℕ → Type 0) (laws : RowLaws S L) (B : TableStart) (i : ℕ) (below : i < S.callers) where
  -- no word has changed
  alone : (ws : List ℕ) → LeavesCaller S i ws ws
  alone ws = record { rise = λ c l. omega arith; durs = λ c l. omega arith; same = λ e. refl; own = own_by S i ws ws refl (λ x l. refl); revivable = λ m. m; request = λ m. refl }

  -- some events after others
  both : (ws us vs : List ℕ) → LeavesCaller S i ws us → LeavesCaller S i us vs → LeavesCaller S i ws vs
  both ws us vs a b = record {
    rise = λ c l. omega (arith, a.rise c l, b.rise c l);
    durs = λ c l. omega (arith, a.durs c l, b.durs c l);
    same = λ e.
        let level : committed_seq us ≡ committed_seq ws = omega (arith, e, seq_mono (current_word ws) (current_word us) (a.rise 0 (omega arith)), seq_mono (current_word us) (current_word vs) (b.rise 0 (omega arith))) in
        b.same (e ∙ sym level) ∙ a.same level;
    own = own_by S i ws vs (b.own.log ∙ a.own.log) (λ x l. b.own.said x l ∙ a.own.said x l);
    revivable = λ m. b.revivable (a.revivable m);
    request = λ m. b.request (a.revivable m) ∙ a.request m;
  }

  -- a step of another
  step : (w : Moment) → MeetsInvariant S L B w → (j : ℕ) → j < S.callers → (i ≡ j → ⊥) → LeavesCaller S i w.words (after_event S w (Turns j)).words
  step w good j may other =
      let m : CallState = machine_in w j in
      let n : ℕ = word_found S w.words m in
      let v : Moment = after_event S w (Turns j) in
      let here : get_or w.machines j m ≡ m = sym (get_or_default w.machines j no_machine m (omega (arith, may, (laws.sound B w good).members))) in
      let g : Guarantees S B j w.words w.batches v.words v.batches = laws.guarantees B w good j m may here n (laws.finds S w.words m) in
      record {
        rise = g.rise;
        durs = g.durs;
        same = g.same;
        own = own_by S i w.words v.words (g.logs i below other 0 (omega arith)) (λ x l. ⊎_elim (λ e. e) (λ z. absurd (other z.0)) (g.script_of i x below l));
        revivable = laws.leave B w good j m may here n (laws.finds S w.words m) i below other;
        request = laws.request B w good j m may here n (laws.finds S w.words m) i below other;
      }

  -- a raise of the durable word of a cell
  module _ (w : Moment) (e : ℕ × ℕ) (good : MeetsInvariant S L B (after_raise S w e)) (inside : e.0 < cell_count S) where
    abbrev v : Moment
    v = after_raise S w e

    else : (k : ℕ) → (k ≡ durable_at S e.0 → ⊥) → get_or v.words k 0 ≡ get_or w.words k 0
    else k ne = get_or-set_other w.words (durable_at S e.0) k (max (get_or w.words (durable_at S e.0) 0) e.1) 0 ne

    cell : (c : ℕ) → c < cell_count S → get_or v.words c 0 ≡ get_or w.words c 0
    cell c l = else c (λ q. omega (arith, q, l))

    log : log_word_of S v.words i 0 ≡ log_word_of S w.words i 0
    log = cell (log_at S i 0) (omega (arith, row_within i S.callers (2 * most_entries S + 1) below))

    durs : (c : ℕ) → c < cell_count S → durable_word S w.words c ≤ durable_word S v.words c
    durs c l = lowers_none w.words (durable_at S e.0) e.1 (durable_at S c)

    raise : LeavesCaller S i w.words v.words
    raise = record {
      rise = λ c l. omega (arith, cell c l);
      durs = durs;
      same = λ q. ap payload_of (cell 0 (omega arith));
      own = own_by S i w.words v.words log (λ x l. else (script_word_at S i x) (λ q. omega (arith, q, inside)));
      revivable = λ m.
          let at : request_at i < cell_count S = omega (arith, below) in
          later_revivable (remains_of S w.words i) (remains_of S v.words i) i m log (cell (request_at i) at)
          (omega (arith, cell 0 (omega arith))) (λ q. ap payload_of (cell 0 (omega arith)))
          (durs (request_at i) at) ((laws.sound B v good).low (request_at i) at);
      request = λ m. cell (request_at i) (omega (arith, below));
    }

  -- an event that is no turn of the caller
  event : (w : Moment) (e : Event) → Each (IsInside S) w.loaded → MeetsInvariant S L B w → MeetsInvariant S L B (after_event S w e) → MayHappen S w e → turns_in_event i e ≡ 0 → LeavesCaller S i w.words (after_event S w e).words
  event w (Begins j op) inside good next may z = alone w.words
  event w (Turns j) inside good next may z = step w good j may (λ q. let one : one_if (i == j) ≡ 1 = ap one_if (eq-eqb i j q) in omega (arith, z, one))
  event w (Loads c) inside good next may z = alone w.words
  event w (Evicts k) inside good next may z = raise w (get_or w.loaded k (0, 0)) next (each_at (IsInside S) w.loaded k (0, 0) may inside)
  event w (Raises c) inside good next may z = raise w (c, get_or w.words c 0) next may
  event w (Revives j made) inside good next may z = alone w.words

  -- what events leave of a caller if none of them is its turn
  pub others_leave : (w : Moment) (mid : List Event) → Each (IsInside S) w.loaded → MeetsInvariant S L B w → IsSchedule S w mid → turn_count i mid ≡ 0 → LeavesCaller S i w.words (after_events S w mid).words
  others_leave w [] inside good s z = alone w.words
  others_leave w (e ∷ mid) inside good s z =
      let v : Moment = after_event S w e in
      let next : MeetsInvariant S L B v = laws.runs B w good (e ∷ []) (s.0, tt) in
      both w.words v.words (after_events S v mid).words (event w e inside good next s.0 (omega (arith, z))) (others_leave v mid (loaded_inside S w (e ∷ []) (s.0, tt) inside) next s.1 (omega (arith, z)))

  -- what was found at four times shows that a machine may be replaced at the last of them, if others alone went on
  pub found_later : (w1 w2 w3 : List ℕ) (w : Moment) → LeavesCaller S i w1 w2 → LeavesCaller S i w2 w3 → LeavesCaller S i w3 w.words → MeetsInvariant S L B w → (r : Remains) → WereFound S i w1 w2 w3 w.words r → MayRevive r i → MayRevive (remains_of S w.words i) i
  found_later w1 w2 w3 w a b c good r f m =
      let at : request_at i < cell_count S = omega (arith, below) in
      later_revivable r (remains_of S w.words i) i m (c.own.log ∙ (b.own.log ∙ sym f.log)) (sym f.request)
      (omega (arith, f.current, c.rise 0 (omega arith)))
      (λ q. c.same (q ∙ ap seq_of f.current) ∙ ap payload_of (sym f.current))
      (omega (arith, f.durable, a.durs (request_at i) at, b.durs (request_at i) at, c.durs (request_at i) at))
      ((laws.sound B w good).low (request_at i) at)

  -- a machine that may be replaced from the first of four times on is found to be so
  pub found_so : (w1 w2 w3 w4 : List ℕ) → LeavesCaller S i w1 w2 → LeavesCaller S i w2 w3 → LeavesCaller S i w3 w4 → (r : Remains) → WereFound S i w1 w2 w3 w4 r → MayRevive (remains_of S w1 i) i → MayRevive r i
  found_so w1 w2 w3 w4 a b c r f m =
      let m3 : MayRevive (remains_of S w3 i) i = b.revivable (a.revivable m) in
      let asked : r.request ≡ request_of w3 i = f.request ∙ c.request m3 in
      record {
        log = omega (arith, m3.log, ap seq_of (f.log ∙ sym b.own.log), ap seq_of f.current);
        request = omega (arith, m3.request, ap seq_of asked, ap seq_of f.current);
        closed = λ o. m3.closed (ap payload_of (sym f.current) ∙ o.0, omega (arith, o.1, ap seq_of f.current), sym asked ∙ (o.2 ∙ ap (λ (k : ℕ). pack (seq_of k) 0) f.current));
        durable = f.durable ∙ (m.durable ∙ sym (asked ∙ (b.request (a.revivable m) ∙ a.request m)));
      }

  -- from a moment of a row's events to a later one, if the caller has had no turn meanwhile
  pub leaves_between : MayStart S L B → (es ds : List Event) → IsSchedule S (first_of S B) ds → (p : IsPrefix es ds) → turn_count i ds ≡ turn_count i es → LeavesCaller S i (moment S B es).words (moment S B ds).words
  leaves_between may es ds s p same =
      let w : Moment = first_of S B in
      let all : IsSchedule S w (es ++ p.0) = subst (IsSchedule S w) (sym p.1) s in
      let good : MeetsInvariant S L B (moment S B es) = laws.runs B w (laws.start B may (words_before_members S + 1) (omega arith)).0 es (first_part S w es p.0 all) in
      let none : turn_count i p.0 ≡ 0 = omega (arith, turns_append i es p.0, ap (turn_count i) p.1, same) in
      subst (λ (z : Moment). LeavesCaller S i (moment S B es).words z.words) (sym (run_append S w es p.0) ∙ ap (moment S B) p.1)
      (others_leave (moment S B es) p.0 (loaded_inside S w es (first_part S w es p.0 all) tt) good (second_part S w es p.0 all) none)
