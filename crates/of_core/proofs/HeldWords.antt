-- Each durable word of a moment is one that its cell has held.
use Rattle.std.proofs.Common.{◌≡◌, ℕ, ◌+◌, ◌*◌, ◌<◌, ◌≤◌, ◌⊎◌, inl, inr, List, [], ◌∷◌, ◌++◌, length, get_or, max, refl, sym, ◌∙◌, ap, subst, arith, append_assoc}
use Rattle.std.specs.List.{All}
use Rattle.std.proofs.lemmas.Bool.{cases_eq, cases_lt}
use Rattle.std.proofs.lemmas.List.{append-nil, length-append, take_all, take-append-le, get_or-set_same, get_or-set_other, get_or_default}
use Rattle.std.proofs.lemmas.List.Elements.{All-push}
use Rattle.of_mem.specs.declared.work.TheConstants.{MOST_INSTRS}
use Rattle.of_cell.specs.declared.word.TheConstants.{PAYLOADS}
use Rattle.of_mem.specs.Meaning.{IsSoundMeaning}
use Rattle.of_core.specs.Table.{Setup, first_operation_cell, cell_count, durable_at, durable_word}
use Rattle.of_core.specs.Machine.{no_machine}
use Rattle.of_core.specs.Steps.{word_found}
use Rattle.of_core.specs.TableMoment.{Moment, TableStart}
use Rattle.of_core.specs.WordsMatch.{MayStart}
use Rattle.of_core.specs.Invariant.{MeetsInvariant}
use Rattle.of_core.specs.Events.{Event, Begins, Turns, Loads, Evicts, Raises, Revives, after_raise, machine_in, after_event, MayHappen, after_events, HasStood, IsSchedule, opening_moment}
use Rattle.of_core.proofs.Parts.{run_append}
use Rattle.of_core.proofs.Starts.{words_hold}
use Rattle.of_core.proofs.Openings.{start_good}
use Rattle.of_core.proofs.Found.{found_now}
use Rattle.of_core.proofs.Durables.{step_durables}
use Rattle.of_core.proofs.Happenings.{event_good}

module _ (S : Setup) (first : Moment) where
  -- what has stood stands in a longer schedule too
  stood_before : (es ds : List Event) (c v : ℕ) → HasStood S first es c v → HasStood S first (es ++ ds) c v
  stood_before es ds c v h = (h.0, omega (arith, h.1, length-append es ds), ap (λ (xs : List Event). get_or (after_events S first xs).words c 0) (take-append-le h.0 es ds h.1) ∙ h.2)

  -- and so does what stands
  stands_now : (es : List Event) (w : Moment) → after_events S first es ≡ w → (c : ℕ) → HasStood S first es c (get_or w.words c 0)
  stands_now es w is c = (length es, omega arith, ap (λ (xs : List Event). get_or (after_events S first xs).words c 0) (take_all (length es) es (omega arith)) ∙ ap (λ (v : Moment). get_or v.words c 0) is)

  -- what the events have led to: the durable words, and the words that were loaded, have stood
  pub record AllStood (es : List Event) (w : Moment) : Type 0 where
    pub is : after_events S first es ≡ w
    pub durables : (c : ℕ) → c < cell_count S → HasStood S first es c (durable_word S w.words c)
    pub loaded : All (λ (e : ℕ × ℕ). HasStood S first es e.0 e.1) w.loaded

  module _ (Lawful : List ℕ → Type 0) (sound : IsSoundMeaning S.meaning Lawful (first_operation_cell S) S.cells) (B : TableStart) (es : List Event) (w : Moment) (g : MeetsInvariant S Lawful B w) (h : AllStood es w) (e : Event) where
    abbrev now : List Event
    now = es ++ e ∷ []

    is_now : after_events S first now ≡ after_event S w e
    is_now = run_append S first es (e ∷ []) ∙ ap (λ (v : Moment). after_event S v e) h.is

    loaded_before : All (λ (d : ℕ × ℕ). HasStood S first now d.0 d.1) w.loaded
    loaded_before k d l = stood_before es (e ∷ []) (get_or w.loaded k d).0 (get_or w.loaded k d).1 (h.loaded k d l)

    durable_before : (c v : ℕ) → c < cell_count S → v ≡ durable_word S w.words c → HasStood S first now c v
    durable_before c v l q = subst (HasStood S first now c) (sym q) (stood_before es (e ∷ []) c (durable_word S w.words c) (h.durables c l))

    cell_before : (c v : ℕ) → v ≡ get_or w.words c 0 → HasStood S first now c v
    cell_before c v q = subst (HasStood S first now c) (sym q) (stood_before es (e ∷ []) c (get_or w.words c 0) (stands_now es w h.is c))

    -- a word that has stood is raised
    raised : (d : ℕ × ℕ) → d.0 < cell_count S → HasStood S first now d.0 d.1 → (c : ℕ) → c < cell_count S → HasStood S first now c (durable_word S (after_raise S w d).words c)
    raised d d_in stood c l = go (cases_eq c d.0) (cases_lt (durable_word S w.words d.0) d.1)
      where
        here : durable_word S (after_raise S w d).words d.0 ≡ max (durable_word S w.words d.0) d.1
        here = get_or-set_same w.words (durable_at S d.0) (max (durable_word S w.words d.0) d.1) 0 (omega (arith, g.core.shared.room, d_in))

        go : (c ≡ d.0) ⊎ (c ≡ d.0 → ⊥) → (durable_word S w.words d.0 < d.1) ⊎ (d.1 ≤ durable_word S w.words d.0) → HasStood S first now c (durable_word S (after_raise S w d).words c)
        go (inr away) q = durable_before c (durable_word S (after_raise S w d).words c) l (get_or-set_other w.words (durable_at S d.0) (durable_at S c) (max (durable_word S w.words d.0) d.1) 0 (λ z. away (omega (arith, z))))
        go (inl same) (inl q) =
            let top : durable_word S (after_raise S w d).words d.0 ≡ d.1 = omega (arith, here, q) in
            subst (λ (x : ℕ). HasStood S first now x (durable_word S (after_raise S w d).words x)) (sym same) (subst (HasStood S first now d.0) (sym top) stood)
        go (inl same) (inr q) =
            let stays : durable_word S (after_raise S w d).words d.0 ≡ durable_word S w.words d.0 = omega (arith, here, q) in
            subst (λ (x : ℕ). HasStood S first now x (durable_word S (after_raise S w d).words x)) (sym same) (durable_before d.0 (durable_word S (after_raise S w d).words d.0) d_in stays)

  module _ (Lawful : List ℕ → Type 0) (sound : IsSoundMeaning S.meaning Lawful (first_operation_cell S) S.cells) (B : TableStart) where
    stood_after : (es : List Event) (w : Moment) → MeetsInvariant S Lawful B w → AllStood es w → (e : Event) → MayHappen S w e → AllStood (es ++ e ∷ []) (after_event S w e)
    stood_after es w g h (Begins i op) may = record {
      is = is_now Lawful sound B es w g h (Begins i op);
      durables = λ c l. durable_before Lawful sound B es w g h (Begins i op) c (durable_word S w.words c) l refl;
      loaded = loaded_before Lawful sound B es w g h (Begins i op);
    }
    stood_after es w g h (Loads x) may = record {
      is = is_now Lawful sound B es w g h (Loads x);
      durables = λ c l. durable_before Lawful sound B es w g h (Loads x) c (durable_word S w.words c) l refl;
      loaded = All-push (λ (e : ℕ × ℕ). HasStood S first (es ++ Loads x ∷ []) e.0 e.1) w.loaded (x, get_or w.words x 0) (loaded_before Lawful sound B es w g h (Loads x)) (cell_before Lawful sound B es w g h (Loads x) x (get_or w.words x 0) refl);
    }
    stood_after es w g h (Evicts k) may =
        let d : ℕ × ℕ = get_or w.loaded k (0, 0) in
        record {
          is = is_now Lawful sound B es w g h (Evicts k);
          durables = raised Lawful sound B es w g h (Evicts k) d (g.core.loaded k (0, 0) may).place (loaded_before Lawful sound B es w g h (Evicts k) k (0, 0) may);
          loaded = loaded_before Lawful sound B es w g h (Evicts k);
        }
    stood_after es w g h (Raises x) may = record {
      is = is_now Lawful sound B es w g h (Raises x);
      durables = raised Lawful sound B es w g h (Raises x) (x, get_or w.words x 0) may (cell_before Lawful sound B es w g h (Raises x) x (get_or w.words x 0) refl);
      loaded = loaded_before Lawful sound B es w g h (Raises x);
    }
    stood_after es w g h (Revives i made) may = record {
      is = is_now Lawful sound B es w g h (Revives i made);
      durables = λ c l. durable_before Lawful sound B es w g h (Revives i made) c (durable_word S w.words c) l refl;
      loaded = loaded_before Lawful sound B es w g h (Revives i made);
    }
    stood_after es w g h (Turns i) may = record {
      is = is_now Lawful sound B es w g h (Turns i);
      durables = λ c l. go c l (step_durables S Lawful B w g.core i (machine_in w i) may (get_or_default w.machines i (machine_in w i) no_machine (omega (arith, g.core.members))) (word_found S w.words (machine_in w i)) (found_now S w.words (machine_in w i)) c l);
      loaded = loaded_before Lawful sound B es w g h (Turns i);
    }
      where
        v : Moment
        v = after_event S w (Turns i)

        go : (c : ℕ) → c < cell_count S → (durable_word S v.words c ≡ durable_word S w.words c) ⊎ (durable_word S v.words c ≡ get_or w.words c 0) → HasStood S first (es ++ Turns i ∷ []) c (durable_word S v.words c)
        go c l (inl q) = durable_before Lawful sound B es w g h (Turns i) c (durable_word S v.words c) l q
        go c l (inr q) = cell_before Lawful sound B es w g h (Turns i) c (durable_word S v.words c) q

    stood_run : (ds es : List Event) (w : Moment) → MeetsInvariant S Lawful B w → IsSchedule S w ds → AllStood es w → AllStood (es ++ ds) (after_events S w ds)
    stood_run [] es w g s h = subst (λ (xs : List Event). AllStood xs w) (sym (append-nil es)) h
    stood_run (d ∷ ds) es w g s h =
        subst (λ (xs : List Event). AllStood xs (after_events S w (d ∷ ds))) (append_assoc es (d ∷ []) ds)
        (stood_run ds (es ++ d ∷ []) (after_event S w d) (event_good S Lawful B w g sound d s.0) s.1 (stood_after es w g h d s.0))

pub every_durable : (S : Setup) (Lawful : List ℕ → Type 0) → IsSoundMeaning S.meaning Lawful (first_operation_cell S) S.cells → (B : TableStart) → MayStart S Lawful B → 0 < S.callers → S.callers < PAYLOADS → first_operation_cell S ≤ S.cells
    → (total : ℕ) → cell_count S + cell_count S + S.callers * (S.instrs + 1) ≤ total → S.instrs ≤ MOST_INSTRS → S.cells < PAYLOADS
    → (es : List Event) → IsSchedule S (opening_moment S B total) es → (c : ℕ) → c < cell_count S → HasStood S (opening_moment S B total) es c (durable_word S (after_events S (opening_moment S B total) es).words c)
every_durable S Lawful sound B may some few own_in total room narrow little es s =
    (stood_run S (opening_moment S B total) Lawful sound B es [] (opening_moment S B total) (start_good S Lawful sound B may some few own_in total room narrow little) s at_first).durables
  where
    at_first : AllStood S (opening_moment S B total) [] (opening_moment S B total)
    at_first = record {
      is = refl;
      durables = λ c l. (0, omega arith, sym ((words_hold S B may.start total (omega arith)).durable c l));
      loaded = λ k d l. absurd (omega arith);
    }
