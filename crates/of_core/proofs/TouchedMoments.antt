-- If operations touch few cells, no call makes more steps than the bound by that, in each schedule
-- from a start.
use Rattle.std.proofs.Common.{◌≡◌, ◌⊎◌, inl, inr, ℕ, ◌+◌, ◌*◌, ◌-◌, ◌<◌, ◌≤◌, List, [], ◌∷◌, length, get_or, take, max, refl, sym, ◌∙◌, ap, subst, arith, Bool, true, false}
use Rattle.std.proofs.lemmas.Bool.{cases_eq}
use Rattle.std.proofs.lemmas.List.{get_or-set_same, get_or-set_other}
use Rattle.of_cell.specs.declared.word.TheConstants.{PAYLOADS}
use Rattle.of_cell.specs.Words.{payload_of}
use Rattle.of_mem.specs.declared.work.TheConstants.{MOST_INSTRS}
use Rattle.of_mem.specs.Meaning.{IsSoundMeaning}
use Rattle.of_mem.specs.Touching.{TouchesFew}
use Rattle.of_core.specs.declared.place.Place.{Place}
use Rattle.of_core.specs.declared.place.Place.TheVariants.{Idle}
use Rattle.of_core.specs.Table.{Setup, first_operation_cell, cell_count, durable_at, log_at, log_word_of}
use Rattle.of_core.specs.Machine.{CallState, IsOpen, is_idle, no_machine, idle_machine, begin_call}
use Rattle.of_core.specs.Steps.{take_word_at, with_step_counted, word_found}
use Rattle.of_core.specs.TableMoment.{Moment, TableStart, after_step_at}
use Rattle.of_core.specs.WordsMatch.{MayStart}
use Rattle.of_core.specs.Invariant.{MeetsInvariant}
use Rattle.of_core.specs.declared.remains.Remains.{Remains}
use Rattle.of_core.specs.Remains.{remains_of, announces_open_call, revived_if, revived_machine}
use Rattle.of_core.proofs.Revived.{said_front, said_length}
use Rattle.of_core.specs.Events.{Event, Begins, Turns, Loads, Evicts, Raises, Revives, after_event, after_raise, MayHappen, machine_in, after_events, IsSchedule, opening_moment, start_ticket}
use Rattle.of_core.specs.Footprint.{Touches, HasFootprint, try_steps, round_steps, apply_steps}
use Rattle.of_core.specs.Touched.{longest_log, most_loads, most_tries, IsWithinTouched, TouchedBoundOfWrites, TouchedBoundOfTransfers}
use Rattle.of_core.proofs.Stability.{log_in}
use Rattle.of_core.proofs.Found.{found_now, stepped_is}
use Rattle.of_core.proofs.Happenings.{event_good}
use Rattle.of_core.proofs.InTime.{of_machine}
use Rattle.of_core.proofs.Openings.{start_good, idle_at, log_zero}
use Rattle.of_cell.proofs.Order.{pay_zero}
use Rattle.of_core.proofs.Footprints.{Spares, opens_sparing, own_kept, at_end}
use Rattle.of_core.proofs.KnownCells.{knowns_none}
use Rattle.of_core.proofs.FewTouched.{Frugal, opens_frugal, touches_few, frugal}
use Rattle.of_core.proofs.TouchedCounts.{count_kept}

module _ (S : Setup) (R W : ℕ) where
  -- no machine of a moment, and no log's count, is above what operations touch; and each call has
  -- made no more steps than that allows
  pub record TouchedMoment (w : Moment) : Type 0 where
    pub counts : (j : ℕ) → j < S.callers → payload_of (log_word_of S w.words j 0) ≤ longest_log S W
    pub frugal : (i : ℕ) → i < S.callers → Frugal S R W (machine_in w i) (machine_in w i).place
    pub spares : (i : ℕ) → i < S.callers → Spares S (longest_log S W) (most_loads S R) (machine_in w i) (machine_in w i).place

  -- an idle machine
  idle_frugal : (i made : ℕ) → Frugal S R W (idle_machine S i made) Idle
  idle_frugal i made = record { log = omega arith; copy = omega arith; at = omega (arith, knowns_none S.cells) }

  idle_spares : (i made : ℕ) → Spares S (longest_log S W) (most_loads S R) (idle_machine S i made) Idle
  idle_spares i made = record { steps = omega arith; few = (omega arith, omega arith, λ q. refl); copies = tt }

  -- a new machine in the place of a lost one
  revived_frugal : (r : Remains) (i made : ℕ) (b : Bool) → Frugal S R W (revived_if S r i made b) (revived_if S r i made b).place
  revived_frugal r i made true = record { log = omega arith; copy = omega arith; at = omega (arith, knowns_none S.cells) }
  revived_frugal r i made false = idle_frugal i (max made (payload_of r.ticket))

  revived_spares : (r : Remains) (i made : ℕ) (b : Bool) → length (take (payload_of r.announcement) r.script) ≡ payload_of r.announcement
      → Spares S (longest_log S W) (most_loads S R) (revived_if S r i made b) (revived_if S r i made b).place
  revived_spares r i made true e = record { copies = tt; few = (omega arith, omega arith, λ q. refl); steps = sum (payload_of r.announcement) (length (take (payload_of r.announcement) r.script)) (apply_steps (longest_log S W)) (try_steps (longest_log S W) (most_loads S R)) (round_steps S (longest_log S W) (most_loads S R)) e }
    where
      sum : (k o a q r : ℕ) → o ≡ k → k + 1 + a ≤ 0 * q + (o + 1) + (0 * r + a)
      sum k o a q r e = omega (arith, e)
  revived_spares r i made false e = idle_spares i (max made (payload_of r.ticket))

  module _ (Lawful : List ℕ → Type 0) (sound : IsSoundMeaning S.meaning Lawful (first_operation_cell S) S.cells) (few : TouchesFew S.meaning Lawful S.cells R W) (B : TableStart) where
    abbrev Fits : CallState → Type 0
    Fits d = Spares S (longest_log S W) (most_loads S R) d d.place

    -- an idle machine's turn leaves it as it was
    rests : (S : Setup) (m : CallState) (n : ℕ) (p : Place) → is_idle p ≡ true → take_word_at S (with_step_counted p m) n p ≡ m
    rests S m n Idle q = refl
    rests S m n p q = cc

    module _ (w : Moment) (g : MeetsInvariant S Lawful B w) (c : TouchedMoment w) where
      here : (i : ℕ) → i < S.callers → Touches (machine_in w i) (longest_log S W) (most_loads S R)
      here i h = touches_few S R W Lawful sound few B w g.core i (machine_in w i) h (g.core.each i (machine_in w i) h (of_machine S Lawful sound B i h w g)) (c.frugal i h)

      turn : (i : ℕ) → i < S.callers → TouchedMoment (after_event S w (Turns i))
      turn i h = record { counts = counts_at v is; frugal = λ j l. frugal_at v is j l; spares = λ j l. spares j l (cases_eq j i) }
        where
          m : CallState
          m = machine_in w i

          v : Moment
          v = after_event S w (Turns i)

          good : MeetsInvariant S Lawful B v
          good = event_good S Lawful B w g sound (Turns i) h

          is : v ≡ after_step_at S i m m.place w
          is = stepped_is S i m (word_found S w.words m) w (found_now S w.words m)

          counts_at : (u : Moment) → u ≡ after_step_at S i m m.place w → (j : ℕ) → j < S.callers → payload_of (log_word_of S u.words j 0) ≤ longest_log S W
          counts_at u e j l = rw e (count_kept g.core h m (longest_log S W) (c.frugal i h).log c.counts j l m.place (g.core.each i m h (of_machine S Lawful sound B i h w g)))

          frugal_to : (j : ℕ) → j < S.callers → (j ≡ i) ⊎ (j ≡ i → ⊥) → Frugal S R W (machine_in (after_step_at S i m m.place w) j) (machine_in (after_step_at S i m m.place w) j).place
          frugal_to j l (inr away) = subst (λ (d : CallState). Frugal S R W d d.place) (sym (get_or-set_other w.machines i j _ no_machine away)) (c.frugal j l)
          frugal_to j l (inl e) = rw e (subst (λ (d : CallState). Frugal S R W d d.place) (sym (get_or-set_same w.machines i _ no_machine (omega (arith, g.core.members))))
              (frugal S R W Lawful sound few B w g.core i m h c.counts m.place refl (g.core.each i m h (of_machine S Lawful sound B i h w g)) (c.frugal i h)))

          frugal_at : (u : Moment) → u ≡ after_step_at S i m m.place w → (j : ℕ) → j < S.callers → Frugal S R W (machine_in u j) (machine_in u j).place
          frugal_at u e j l = subst (λ (u : Moment). Frugal S R W (machine_in u j) (machine_in u j).place) (sym e) (frugal_to j l (cases_eq j i))

          after : Touches (machine_in v i) (longest_log S W) (most_loads S R)
          after = touches_few S R W Lawful sound few B v good.core i (machine_in v i) h (good.core.each i (machine_in v i) h (of_machine S Lawful sound B i h v good)) (frugal_at v is i h)

          spares_to : (b : Bool) → is_idle m.place ≡ b → Fits (machine_in v i)
          spares_to false o = own_kept S Lawful sound B i h (longest_log S W) (most_loads S R) w g o (here i h) after (c.spares i h)
          spares_to true o = subst Fits (sym same) (c.spares i h)
            where
              same : machine_in v i ≡ m
              same = ap (λ (u : Moment). machine_in u i) is ∙ get_or-set_same w.machines i _ no_machine (omega (arith, g.core.members)) ∙ rests S m _ m.place o

          spares : (j : ℕ) → j < S.callers → (j ≡ i) ⊎ (j ≡ i → ⊥) → Fits (machine_in v j)
          spares j l (inl e) = rw e (spares_to (is_idle m.place) refl)
          spares j l (inr away) = subst Fits (sym (get_or-set_other w.machines i j _ no_machine away)) (c.spares j l)

      -- a durable word is raised
      raised : (e : ℕ × ℕ) → TouchedMoment (after_raise S w e)
      raised e = record { counts = counts; frugal = c.frugal; spares = c.spares }
        where
          counts : (j : ℕ) → j < S.callers → payload_of (log_word_of S (after_raise S w e).words j 0) ≤ longest_log S W
          counts j l = rw (get_or-set_other w.words (durable_at S e.0) (log_at S j 0) (max (get_or w.words (durable_at S e.0) 0) e.1) 0 (omega (arith, log_in S j 0 l (omega arith)))) (c.counts j l)

      event : (e : Event) → MayHappen S w e → TouchedMoment (after_event S w e)
      event (Turns i) may = turn i may
      event (Loads x) may = record { counts = c.counts; frugal = c.frugal; spares = c.spares }
      event (Evicts k) may = raised (get_or w.loaded k (0, 0))
      event (Raises x) may = raised (x, get_or w.words x 0)
      event (Revives i made) may = record { counts = c.counts; frugal = λ j l. frugal_to j l (cases_eq j i); spares = λ j l. spares_to j l (cases_eq j i) }
        where
          r : Remains
          r = remains_of S w.words i

          d : CallState
          d = revived_machine S r i made

          new : machine_in (after_event S w (Revives i made)) i ≡ d
          new = get_or-set_same w.machines i d no_machine (omega (arith, g.core.members, may.0))

          long : length (take (payload_of r.announcement) r.script) ≡ payload_of r.announcement
          long = ap length (said_front S w.words i (payload_of r.announcement) S.instrs (g.core.shared.heard.small i may.0)) ∙ said_length S w.words i (payload_of r.announcement)

          frugal_to : (j : ℕ) → j < S.callers → (j ≡ i) ⊎ (j ≡ i → ⊥) → Frugal S R W (machine_in (after_event S w (Revives i made)) j) (machine_in (after_event S w (Revives i made)) j).place
          frugal_to j l (inr away) = subst (λ (d : CallState). Frugal S R W d d.place) (sym (get_or-set_other w.machines i j _ no_machine away)) (c.frugal j l)
          frugal_to j l (inl e) = rw e (subst (λ (d : CallState). Frugal S R W d d.place) (sym new) (revived_frugal r i made (announces_open_call r)))

          spares_to : (j : ℕ) → j < S.callers → (j ≡ i) ⊎ (j ≡ i → ⊥) → Fits (machine_in (after_event S w (Revives i made)) j)
          spares_to j l (inr away) = subst Fits (sym (get_or-set_other w.machines i j _ no_machine away)) (c.spares j l)
          spares_to j l (inl e) = rw e (subst Fits (sym new) (revived_spares r i made (announces_open_call r) long))
      event (Begins i op) may = record { counts = c.counts; frugal = λ j l. frugal_to j l (cases_eq j i); spares = λ j l. spares_to j l (cases_eq j i) }
        where
          d : CallState
          d = begin_call S (machine_in w i) op

          new : machine_in (after_event S w (Begins i op)) i ≡ d
          new = get_or-set_same w.machines i d no_machine (omega (arith, g.core.members, may.0))

          frugal_to : (j : ℕ) → j < S.callers → (j ≡ i) ⊎ (j ≡ i → ⊥) → Frugal S R W (machine_in (after_event S w (Begins i op)) j) (machine_in (after_event S w (Begins i op)) j).place
          frugal_to j l (inr away) = subst (λ (d : CallState). Frugal S R W d d.place) (sym (get_or-set_other w.machines i j _ no_machine away)) (c.frugal j l)
          frugal_to j l (inl e) = rw e (subst (λ (d : CallState). Frugal S R W d d.place) (sym new) (opens_frugal S R W (machine_in w i) op))

          spares_to : (j : ℕ) → j < S.callers → (j ≡ i) ⊎ (j ≡ i → ⊥) → Fits (machine_in (after_event S w (Begins i op)) j)
          spares_to j l (inr away) = subst Fits (sym (get_or-set_other w.machines i j _ no_machine away)) (c.spares j l)
          spares_to j l (inl e) = rw e (subst Fits (sym new) (opens_sparing S (longest_log S W) (most_loads S R) (machine_in w i) op))

    touched_run : (es : List Event) (w : Moment) → MeetsInvariant S Lawful B w → TouchedMoment w → IsSchedule S w es → MeetsInvariant S Lawful B (after_events S w es) × TouchedMoment (after_events S w es)
    touched_run [] w g c s = (g, c)
    touched_run (e ∷ es) w g c s = touched_run es (after_event S w e) (event_good S Lawful B w g sound e s.0) (event w g c e s.0) s.1

    module _ (may : MayStart S Lawful B) (some : 0 < S.callers) (low : S.callers < PAYLOADS) (own_in : first_operation_cell S ≤ S.cells) (total : ℕ) (room : cell_count S + cell_count S + S.callers * (S.instrs + 1) ≤ total) (narrow : S.instrs ≤ MOST_INSTRS) (little : S.cells < PAYLOADS) where
      first : TouchedMoment (opening_moment S B total)
      first = record {
        counts = λ j l. rw (log_zero S Lawful sound B may some low own_in total room narrow little j 0 l (omega arith), pay_zero) (omega arith);
        frugal = λ i l. subst (λ (d : CallState). Frugal S R W d d.place) (sym (idle_at S (start_ticket S B) i no_machine l)) (idle_frugal i (start_ticket S B i));
        spares = λ i l. subst Fits (sym (idle_at S (start_ticket S B) i no_machine l)) (idle_spares i (start_ticket S B i));
      }

      touched_now : (es : List Event) → IsSchedule S (opening_moment S B total) es → MeetsInvariant S Lawful B (after_events S (opening_moment S B total) es) × TouchedMoment (after_events S (opening_moment S B total) es)
      touched_now es s = touched_run es (opening_moment S B total) (start_good S Lawful sound B may some low own_in total room narrow little) first s

-- with more tries and rounds it is more
more_times : (a b c : ℕ) → a ≤ b → a * c ≤ b * c
more_times a b c l = let e : b * c ≡ a * c + (b - a) * c = split (b - a) (omega arith) in omega arith
  where
    split : (k : ℕ) → b ≡ a + k → b * c ≡ a * c + k * c
    split k e = rw e (grind arith)

tries_upto : (S : Setup) (R W : ℕ) (m : CallState) → HasFootprint S W R m m.steps → m.tries ≤ most_tries (S.meaning.reads_only m.op)
tries_upto S R W m f = go (S.meaning.reads_only m.op) refl
  where
    go : (b : Bool) → S.meaning.reads_only m.op ≡ b → m.tries ≤ most_tries b
    go true e = f.tries
    go false e = omega (arith, f.untried e)

pub by_touch : (S : Setup) (Lawful : List ℕ → Type 0) → IsSoundMeaning S.meaning Lawful (first_operation_cell S) S.cells → (B : TableStart) → MayStart S Lawful B → 0 < S.callers → S.callers < PAYLOADS → first_operation_cell S ≤ S.cells
    → (total : ℕ) → cell_count S + cell_count S + S.callers * (S.instrs + 1) ≤ total → S.instrs ≤ MOST_INSTRS → S.cells < PAYLOADS → (es : List Event) → IsSchedule S (opening_moment S B total) es
    → (i : ℕ) → i < S.callers → let m : CallState = machine_in (after_events S (opening_moment S B total) es) i in IsOpen m.place → IsWithinTouched S Lawful m.op (m.steps + 1)
by_touch S Lawful sound B may some low own_in total room narrow little es s i h o R W few =
    let w : Moment = after_events S (opening_moment S B total) es in
    let m : CallState = machine_in w i in
    let z = touched_now S R W Lawful sound few B may some low own_in total room narrow little es s in
    let longest : ℕ = longest_log S W in
    let most : ℕ = most_loads S R in
    let f : HasFootprint S longest most m m.steps = at_end S Lawful sound B i h longest most w z.0 m (of_machine S Lawful sound B i h w z.0) o (here S R W Lawful sound few B w z.0 z.1 i h) (z.1.spares i h) in
    sum m.steps (m.tries * try_steps longest most) (most_tries (S.meaning.reads_only m.op) * try_steps longest most) (length m.op + 1) (m.rounds * round_steps S longest most) (3 * round_steps S longest most) (apply_steps longest)
    f.within (more_times m.tries (most_tries (S.meaning.reads_only m.op)) (try_steps longest most) (tries_upto S most longest m f)) (more_times m.rounds 3 (round_steps S longest most) f.rounds)
  where
    sum : (s t u k r q a : ℕ) → s < t + k + (r + a) → t ≤ u → r ≤ q → s + 1 ≤ u + k + (q + a)
    sum s t u k r q a l x y = omega arith

-- what the bound comes to, of a call that may write
pub bound_of_writes : TouchedBoundOfWrites
bound_of_writes S op r w q = rw q (grind arith)

-- three callers, a call of three words, and no operation reads or writes more than two cells
pub bound_of_transfers : TouchedBoundOfTransfers
bound_of_transfers S op e d l r = rw (e, d, l, r) refl
