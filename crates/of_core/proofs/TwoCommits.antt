-- An announced call is done after at most two commits that follow its announcement.
use Rattle.std.proofs.Common.{◌≡◌, ℕ, ◌+◌, ◌<◌, ◌≤◌, ◌⊎◌, inl, inr, List, [], ◌∷◌, ◌++◌, length, take, drop, max, get_or, refl, sym, ◌∙◌, ap, subst, arith}
use Rattle.std.proofs.lemmas.Bool.{cases_lt}
use Rattle.std.proofs.lemmas.List.{take-append-drop, get_or-set_other}
use Rattle.of_cell.specs.Words.{seq_of, payload_of}
use Rattle.of_cell.proofs.Places.{row_within}
use Rattle.of_mem.specs.Meaning.{IsSoundMeaning}
use Rattle.of_core.specs.Table.{Setup, first_operation_cell, cell_count, durable_at, ticket_cell, announcement_of, script_word_at, script_word}
use Rattle.of_core.specs.Machine.{no_call}
use Rattle.of_core.specs.Steps.{word_found}
use Rattle.of_core.specs.TableMoment.{Moment, TableStart, Batch, after_step}
use Rattle.of_core.specs.History.{batch_at, last_ticket_by, OwnCellsShowLast}
use Rattle.of_core.specs.Rounds.{AnnouncesNothingNew}
use Rattle.of_core.specs.Invariant.{MeetsInvariant}
use Rattle.of_core.specs.Guarantees.{Guarantees}
use Rattle.of_core.specs.Events.{Event, Begins, Turns, Loads, Evicts, Raises, Revives, after_event, machine_in, after_events, after_raise, MayHappen, IsSchedule, start_ticket}
use Rattle.of_core.specs.Commits.{BatchHasCall}
use Rattle.of_core.proofs.States.{state_start, later}
use Rattle.of_core.proofs.Assembling.{logs_of}
use Rattle.of_core.proofs.Tickets.{tickets_grow}
use Rattle.of_core.proofs.Found.{found_now}
use Rattle.of_core.proofs.StepKept.{step_moves}
use Rattle.of_core.proofs.Happenings.{event_good}
use Rattle.of_core.proofs.Moments.{run_good}
use Rattle.of_core.proofs.CallSteps.{own, last_is, few}
use Rattle.of_core.proofs.Parts.{run_append, first_part, second_part, GoesOn, goes_on, batch_stands, no_fewer}

-- what a batch has run stays run
run_stays : (B : TableStart) (w v : Moment) → GoesOn w v → (n i t : ℕ) → n ≤ B.seq + length w.batches → BatchHasCall B w.batches n i t → BatchHasCall B v.batches n i t
run_stays B w v g n i t u h = record {
  number = h.number;
  from = h.from;
  upto = h.upto;
  place = h.place;
  among = subst (λ (b : Batch). h.place < length b.calls) (sym same) h.among;
  caller = ap (λ (b : Batch). (get_or b.calls h.place no_call).caller) same ∙ h.caller;
  ticket = ap (λ (b : Batch). (get_or b.calls h.place no_call).ticket) same ∙ h.ticket;
}
  where
    same : batch_at B v.batches h.number ≡ batch_at B w.batches h.number
    same = batch_stands B w v g h.number h.from (omega (arith, h.upto, u))

-- What one event does to an announcement: it stays, and new batches remember it, or it was done.
module _ (S : Setup) (Lawful : List ℕ → Type 0) (sound : IsSoundMeaning S.meaning Lawful (first_operation_cell S) S.cells) (B : TableStart) (w : Moment) (g : MeetsInvariant S Lawful B w) (i : ℕ) (member : i < S.callers) where
  abbrev Stays : Moment → Type 0
  Stays v = (announcement_of S v.words i ≡ announcement_of S w.words i)
      × ((k : ℕ) → B.seq + length w.batches < k → k ≤ B.seq + length v.batches → (batch_at B v.batches k).announcements i ≡ announcement_of S w.words i)

  raise_stays : (e : ℕ × ℕ) → e.0 < cell_count S → Stays (after_raise S w e)
  raise_stays e l = (get_or-set_other w.words (durable_at S e.0) (script_word_at S i S.instrs) _ 0 (λ q. omega (arith, q, l)), λ k a b. absurd (omega (arith, a, b)))

  event_stays : (e : Event) → MayHappen S w e → Stays (after_event S w e) ⊎ AnnouncesNothingNew S B w.words w.batches i
  event_stays (Begins j op) may = inl (refl, λ k a b. absurd (omega (arith, a, b)))
  event_stays (Revives j made) may = inl (refl, λ k a b. absurd (omega (arith, a, b)))
  event_stays (Loads c) may = inl (refl, λ k a b. absurd (omega (arith, a, b)))
  event_stays (Raises c) may = inl (raise_stays (c, get_or w.words c 0) may)
  event_stays (Evicts k) may = inl (raise_stays (get_or w.loaded k (0, 0)) (g.core.loaded k (0, 0) may).place)
  event_stays (Turns j) may = go (moves.script_of i S.instrs member (omega arith))
    where
      n : ℕ
      n = word_found S w.words (machine_in w j)

      v : Moment
      v = after_step S j (machine_in w j) n w

      good : MeetsInvariant S Lawful B v
      good = event_good S Lawful B w g sound (Turns j) may

      moves : Guarantees S B j w.words w.batches v.words v.batches
      moves = step_moves S Lawful sound B w g j (machine_in w j) may (own S Lawful B w g j may) n (found_now S w.words (machine_in w j))

      go : (script_word S v.words i S.instrs ≡ script_word S w.words i S.instrs) ⊎ ((i ≡ j) × AnnouncesNothingNew S B w.words w.batches i) → Stays v ⊎ AnnouncesNothingNew S B w.words w.batches i
      go (inl e) = inl (e, λ k a b. moves.snapshot k i (omega (arith, a, last_is S Lawful B w g)) (omega (arith, b, last_is S Lawful B v good)) member)
      go (inr q) = inr q.1

  -- an announcement of this table that the state k has done is in a batch up to it
  done_by : start_ticket S B i < seq_of (announcement_of S w.words i) → (k : ℕ) → B.seq ≤ k → k ≤ B.seq + length w.batches
      → seq_of (announcement_of S w.words i) ≤ last_ticket_by S B w.batches k i → BatchHasCall B w.batches k i (seq_of (announcement_of S w.words i))
  done_by new k l u done = go (g.core.shared.stands.last k i l u member)
    where
      t : ℕ
      t = seq_of (announcement_of S w.words i)

      first : last_ticket_by S B w.batches B.seq i ≡ start_ticket S B i
      first = ap (λ (xs : List ℕ). payload_of (get_or xs (ticket_cell S i) 0)) (state_start B w.batches)

      in_cells : ticket_cell S i < S.cells
      in_cells = omega (arith, row_within i S.callers (S.instrs + 2) member, g.core.shared.own_in)

      -- no state has done more than is announced
      at_most : last_ticket_by S B w.batches k i ≤ t
      at_most = below (last_ticket_by S B w.batches B.seq i) t
          (omega (arith, tickets_grow S Lawful B w.batches g.core.shared.stands k (B.seq + length w.batches) i l u (omega arith) member, g.core.shared.heard.reached i member, ap (λ (x : ℕ). last_ticket_by S B w.batches x i) (last_is S Lawful B w g)))
          (omega (arith, first, new))
        where
          below : (x y : ℕ) → last_ticket_by S B w.batches k i ≤ max x y → x < y → last_ticket_by S B w.batches k i ≤ y
          below x y a b = omega (arith, a, b)

      go : OwnCellsShowLast S B w.batches k i → BatchHasCall B w.batches k i t
      go (inl h) = absurd (omega (arith, ap payload_of (h.1 (ticket_cell S i) (omega arith, omega arith)), first, new, done))
      go (inr h) = record {
        number = h.number;
        from = h.from;
        upto = h.upto;
        place = h.place;
        among = h.among;
        caller = h.caller;
        ticket = omega (arith, is_now, at_number, at_most, done);
      }
        where
          at_number : last_ticket_by S B w.batches k i ≡ last_ticket_by S B w.batches h.number i
          at_number = ap payload_of (later S B w.batches g.core.shared.start (logs_of g.core) h.number k (ticket_cell S i) (omega (arith, h.from)) h.upto u in_cells (h.old (ticket_cell S i) (omega arith, omega arith)))

          is_now : last_ticket_by S B w.batches h.number i ≡ (get_or (batch_at B w.batches h.number).calls h.place no_call).ticket
          is_now = ap (last_ticket_by S B w.batches h.number) (sym h.caller) ∙ (g.core.shared.stands.now h.number h.from (omega (arith, h.upto, u)) h.place no_call h.among).1

-- The moments after the announcement a stood, beside s batches.
module _ (S : Setup) (Lawful : List ℕ → Type 0) (sound : IsSoundMeaning S.meaning Lawful (first_operation_cell S) S.cells) (B : TableStart) (i : ℕ) (member : i < S.callers) (a s : ℕ) (from : B.seq ≤ s) (new : start_ticket S B i < seq_of a) where
  abbrev IsDone : Moment → Type 0
  IsDone v = (n : ℕ) × (n ≤ s + 2) × (n ≤ B.seq + length v.batches) × BatchHasCall B v.batches n i (seq_of a)

  -- it still stands, and the batches since remember it
  abbrev StillStands : Moment → Type 0
  StillStands v = (announcement_of S v.words i ≡ a) × ((k : ℕ) → s < k → k ≤ B.seq + length v.batches → (batch_at B v.batches k).announcements i ≡ a)

  -- nothing more can be committed
  abbrev IsFull : Moment → Type 0
  IsFull v = (B.seq + length v.batches ≡ S.limit) × (S.limit < s + 2)

  abbrev Follows : Moment → Type 0
  Follows v = IsDone v ⊎ (StillStands v ⊎ IsFull v)

  done_when : (w : Moment) → MeetsInvariant S Lawful B w → announcement_of S w.words i ≡ a → (k : ℕ) → B.seq ≤ k → k ≤ B.seq + length w.batches → k ≤ s + 2 → seq_of a ≤ last_ticket_by S B w.batches k i → IsDone w
  done_when w g e k l u m done =
      (k, m, u, subst (BatchHasCall B w.batches k i) (ap seq_of e) (done_by S Lawful sound B w g i member (omega (arith, new, ap seq_of e)) k l u (omega (arith, done, ap seq_of e))))

  -- two commits have followed
  met : (w : Moment) → MeetsInvariant S Lawful B w → StillStands w → s + 2 ≤ B.seq + length w.batches → IsDone w
  met w g h u = done_when w g h.0 (s + 2) (omega (arith, from)) u (omega arith)
      (omega (
        arith,
        ap seq_of h.0,
        ap (λ (x : ℕ). last_ticket_by S B w.batches x i) two,
        g.core.shared.heard.met (s + 1) i (omega (arith, from)) (omega (arith, u, last_is S Lawful B w g)) member (h.1 (s + 1) (omega arith) (omega (arith, u)) ∙ sym h.0),
      ))
    where
      two : s + 1 + 1 ≡ s + 2
      two = omega arith

  stays : (w v : Moment) → GoesOn w v → IsDone w → IsDone v
  stays w v f h = (h.0, h.1, omega (arith, h.2, (no_fewer w v f).0), run_stays B w v f h.0 i (seq_of a) h.2 h.3)

  follows : (w : Moment) → MeetsInvariant S Lawful B w → (e : Event) → MayHappen S w e → Follows w → Follows (after_event S w e)
  follows w g e may h = go h
    where
      v : Moment
      v = after_event S w e

      f : GoesOn w v
      f = goes_on S w (e ∷ [])

      full : IsFull w → IsFull v
      full q = (omega (arith, q.0, (no_fewer w v f).0, few S Lawful B v (event_good S Lawful B w g sound e may)), q.1)

      go : Follows w → Follows v
      go (inl q) = inl (stays w v f q)
      go (inr (inr q)) = inr (inr (full q))
      go (inr (inl q)) = at (cases_lt (B.seq + length w.batches) (s + 2))
        where
          at : (B.seq + length w.batches < s + 2) ⊎ (s + 2 ≤ B.seq + length w.batches) → Follows v
          at (inr u) = inl (stays w v f (met w g q u))
          at (inl u) = changed (event_stays S Lawful sound B w g i member e may)
            where
              changed : Stays S Lawful sound B w g i member v ⊎ AnnouncesNothingNew S B w.words w.batches i → Follows v
              changed (inr (inl done)) = inl (stays w v f (done_when w g q.0 (B.seq + length w.batches) (omega arith) (omega arith) (omega (arith, u)) (omega (arith, done, ap seq_of q.0, ap (λ (x : ℕ). last_ticket_by S B w.batches x i) (last_is S Lawful B w g)))))
              changed (inr (inr limit)) = inr (inr (full (omega (arith, limit, last_is S Lawful B w g), omega (arith, limit, u, last_is S Lawful B w g))))
              changed (inl c) = inr (inl (c.0 ∙ q.0, remembers))
                where
                  remembers : (k : ℕ) → s < k → k ≤ B.seq + length v.batches → (batch_at B v.batches k).announcements i ≡ a
                  remembers k l m = by (cases_lt (B.seq + length w.batches) k)
                    where
                      by : (B.seq + length w.batches < k) ⊎ (k ≤ B.seq + length w.batches) → (batch_at B v.batches k).announcements i ≡ a
                      by (inl o) = c.1 k o m ∙ q.0
                      by (inr o) = ap (λ (b : Batch). b.announcements i) (batch_stands B w v f k (omega (arith, from, l)) o) ∙ q.1 k l o

  follow : (es : List Event) (w : Moment) → MeetsInvariant S Lawful B w → IsSchedule S w es → Follows w → Follows (after_events S w es)
  follow [] w g t h = h
  follow (e ∷ es) w g t h = follow es (after_event S w e) (event_good S Lawful B w g sound e t.0) t.1 (follows w g e t.0 h)

  -- so two more batches have run the call
  pub done : (es : List Event) (w : Moment) → MeetsInvariant S Lawful B w → IsSchedule S w es → announcement_of S w.words i ≡ a → B.seq + length w.batches ≡ s
      → s + 2 ≤ B.seq + length (after_events S w es).batches → BatchHasCall B (after_events S w es).batches (s + 2) i (seq_of a)
  done es w g t e q u = go (follow es w g t (inr (inl (e, λ k l m. absurd (omega (arith, l, m, q))))))
    where
      v : Moment
      v = after_events S w es

      good : MeetsInvariant S Lawful B v
      good = run_good S Lawful sound B es w g t

      of_done : IsDone v → BatchHasCall B v.batches (s + 2) i (seq_of a)
      of_done h = record { number = h.3.number; from = h.3.from; upto = omega (arith, h.3.upto, h.1); place = h.3.place; among = h.3.among; caller = h.3.caller; ticket = h.3.ticket }

      go : Follows v → BatchHasCall B v.batches (s + 2) i (seq_of a)
      go (inl h) = of_done h
      go (inr (inl h)) = of_done (met v good h u)
      go (inr (inr h)) = absurd (omega (arith, h.0, h.1, u))

-- after the first k events of a schedule
pub done_in_schedule : (S : Setup) (Lawful : List ℕ → Type 0) → IsSoundMeaning S.meaning Lawful (first_operation_cell S) S.cells → (B : TableStart) (first : Moment) → MeetsInvariant S Lawful B first → (es : List Event) → IsSchedule S first es
    → (k i : ℕ) → i < S.callers → start_ticket S B i < seq_of (announcement_of S (after_events S first (take k es)).words i)
    → B.seq + length (after_events S first (take k es)).batches + 2 ≤ B.seq + length (after_events S first es).batches
    → BatchHasCall B (after_events S first es).batches (B.seq + length (after_events S first (take k es)).batches + 2) i (seq_of (announcement_of S (after_events S first (take k es)).words i))
done_in_schedule S Lawful sound B first g es s k i member new more =
    subst (λ (v : Moment). BatchHasCall B v.batches (B.seq + length w.batches + 2) i (seq_of (announcement_of S w.words i))) whole
    (done S Lawful sound B i member (announcement_of S w.words i) (B.seq + length w.batches) (omega arith) new (drop k es) w
    (run_good S Lawful sound B (take k es) first g (first_part S first (take k es) (drop k es) split)) (second_part S first (take k es) (drop k es) split) refl refl
    (omega (arith, more, ap (λ (v : Moment). length v.batches) whole)))
  where
    w : Moment
    w = after_events S first (take k es)

    split : IsSchedule S first (take k es ++ drop k es)
    split = subst (IsSchedule S first) (sym (take-append-drop k es)) s

    whole : after_events S w (drop k es) ≡ after_events S first es
    whole = sym (run_append S first (take k es) (drop k es)) ∙ ap (after_events S first) (take-append-drop k es)
