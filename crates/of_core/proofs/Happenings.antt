-- Every event keeps the invariant.
use Rattle.std.proofs.Common.{◌≡◌, ℕ, ◌+◌, ◌<◌, ◌≤◌, ◌⊎◌, inl, inr, List, [], ◌∷◌, ◌++◌, length, get_or, set, refl, sym, ◌∙◌, ap, subst, arith, Bool, true, false}
use Rattle.std.proofs.lemmas.Bool.{cases_eq}
use Rattle.std.proofs.lemmas.List.{append-nil, get_or-set_same, get_or-set_other, get_or_default}
use Rattle.of_cell.specs.declared.word.TheConstants.{PAYLOADS}
use Rattle.of_cell.specs.Words.{seq_of}
use Rattle.of_cell.proofs.Order.{seq_mono, seq_zero}
use Rattle.of_mem.specs.Meaning.{IsSoundMeaning}
use Rattle.of_core.specs.declared.place.Place.{Place}
use Rattle.of_core.specs.declared.place.Place.TheVariants.{Idle, TryCurrent, StoreScript}
use Rattle.of_core.specs.Table.{durable_word, Setup, first_operation_cell, cell_count, log_word_of}
use Rattle.of_core.specs.Machine.{is_idle, CallState, no_machine, first_place, begin_call, MayReplace}
use Rattle.of_core.specs.TableMoment.{Read, Moment, TableStart}
use Rattle.of_core.specs.WordsMatch.{IsRequest, IsLogWord}
use Rattle.of_core.specs.Rounds.{IsUnannounced, KnowsOwnRequest}
use Rattle.of_core.specs.Places.{IsAtRest}
use Rattle.of_core.specs.Invariant.{MeetsInvariant, MeetsCore, HoldsAtPlace, IsLoaded}
use Rattle.of_core.specs.Bound.{MachineIsWithinBound}
use Rattle.of_core.specs.Least.{HasMadeLeastSteps}
use Rattle.of_core.specs.Order.{KeepsCallOrder, HasBegunTry, IsOlder}
use Rattle.of_core.specs.Steps.{word_found}
use Rattle.of_core.specs.Facts.{rests_on_seq, rests_on_seq_at}
use Rattle.of_core.proofs.Revived.{counted_good}
use Rattle.of_core.proofs.Ordering.{Orderly, older_upto, order_after, order_same}
use Rattle.of_core.proofs.Raises.{current_same, rises}
use Rattle.of_core.proofs.Found.{found_now}
use Rattle.of_core.specs.Events.{Event, Begins, Turns, Loads, Evicts, Raises, Revives, after_begin, after_raise, machine_in, after_event, MayHappen}
use Rattle.of_core.proofs.Assembling.{assemble, moves_not}
use Rattle.of_core.proofs.StepBound.{opened_within}
use Rattle.of_core.proofs.Least.{opened_late}
use Rattle.of_core.proofs.StepKept.{step_kept}
use Rattle.of_core.proofs.RaiseSteps.{raise_kept, loaded_raise}
use Rattle.of_core.proofs.Touches.{held_now}
use Rattle.std.proofs.lemmas.List.Elements.{All-push}

module _ (S : Setup) (Lawful : List ℕ → Type 0) (B : TableStart) (w : Moment) (g : MeetsInvariant S Lawful B w) where
  -- a call begins, by the idle machine m or by a fresh one in its place
  module _ (i : ℕ) (m : CallState) (h : i < S.callers) (own : get_or w.machines i m ≡ m) (rest : m.place ≡ Idle) (d : CallState) (takes : MayReplace S m d) (op : List ℕ) (some : 1 ≤ length op) (few : length op ≤ S.instrs) (ticket : d.made + 1 < PAYLOADS) where
    at_rest : IsAtRest S B w.words w.batches i m
    at_rest = subst (λ (p : Place). HoldsAtPlace S B w.words w.batches i m p) rest (g.core.each i m h own)

    -- what the one that begins it has of m: caller and count, and a word that its request has held
    record Alike (n : CallState) : Type 0 where
      pub caller : n.caller ≡ i
      pub made : n.made ≡ m.made
      pub kept : KnowsOwnRequest B w.words w.batches i n.kept

    alike : MayReplace S m d → Alike d
    alike (inl e) = subst Alike (sym e) record { caller = at_rest.caller; made = refl; kept = at_rest.kept }
    alike (inr q) = subst Alike (sym q.1) record { caller = at_rest.caller; made = refl; kept = record { low = omega arith; held = λ l. absurd (omega (arith, l, seq_zero)) } }

    fresh : (p : Place) → IsUnannounced S B w.words w.batches i (record (begin_call S d op) { place = p })
    fresh p =
        let r = at_rest in
        let a = alike takes in
        record { caller = a.caller; ticket = ticket; words = few; some = some; kept = record { low = omega arith; held = λ l. absurd (omega (arith, l, seq_zero)) }; above = omega (arith, r.upto, a.made); quieted = r.quieted; settled = r.settled; newer = omega (arith, r.older, a.made); rounds = refl }

    at_first : (b : Bool) → S.meaning.reads_only op ≡ b → HoldsAtPlace S B w.words w.batches i (record (begin_call S d op) { place = first_place b }) (first_place b)
    at_first true e = record { fresh = fresh TryCurrent; calm = at_rest.calm; reads = e; few = omega arith }
    at_first false e = record { fresh = fresh (StoreScript 0); calm = at_rest.calm; more = omega arith; script = refl }

    begun_core : MeetsCore S Lawful B (after_begin S i d op w)
    begun_core = (assemble g.core h w.words w.batches (begin_call S d op) (moves_not i g.core.shared) g.core.shared (at_first (S.meaning.reads_only op) refl)).core

    begun_orderly : Orderly S B i w.words m (begin_call S d op) w.words w.batches []
    begun_orderly = record { older = λ r q. older (S.meaning.reads_only op) r (older_upto m r (is_idle m.place) q); trying = λ t. absurd (not_trying (S.meaning.reads_only op) t); answers = inl refl }
      where
        older : (b : Bool) (r : Read) → r.ticket ≤ m.made → IsOlder (record (begin_call S d op) { place = first_place b }) (first_place b) r
        older true r q = omega (arith, (alike takes).made)
        older false r q = omega (arith, (alike takes).made)

        not_trying : (b : Bool) → HasBegunTry (record (begin_call S d op) { place = first_place b }) (first_place b) → ⊥
        not_trying true t = t
        not_trying false t = t

    begun_order : KeepsCallOrder S B (after_begin S i d op w)
    begun_order = subst (λ (rs : List Read). KeepsCallOrder S B (record { words = w.words; machines = set w.machines i (begin_call S d op); batches = w.batches; reads = rs; loaded = w.loaded })) (append-nil w.reads)
        (order_after S Lawful B w g.core g.order i m (begin_call S d op) h own w.words w.batches [] (moves_not i g.core.shared) g.core.shared begun_orderly)

    pub begin_kept : MeetsInvariant S Lawful B (after_begin S i d op w)
    begin_kept = record { core = begun_core; order = begun_order; within = λ j n l q. go j n l q (cases_eq j i); late = λ j n l q. late_go j n l q (cases_eq j i) }
      where
        go : (j : ℕ) (n : CallState) → j < S.callers → get_or (set w.machines i (begin_call S d op)) j n ≡ n → (j ≡ i) ⊎ (j ≡ i → ⊥) → MachineIsWithinBound S n n.place
        go j n l q (inl r) =
            let i_in : i < length w.machines = omega (arith, g.core.members) in
            let same : begin_call S d op ≡ n = sym (get_or-set_same w.machines i (begin_call S d op) n i_in) ∙ (rw r at q) in
            subst (λ (x : CallState). MachineIsWithinBound S x x.place) same (opened_within S d op)
        go j n l q (inr r) = g.within j n l (sym (get_or-set_other w.machines i j (begin_call S d op) n r) ∙ q)

        late_go : (j : ℕ) (n : CallState) → j < S.callers → get_or (set w.machines i (begin_call S d op)) j n ≡ n → (j ≡ i) ⊎ (j ≡ i → ⊥) → HasMadeLeastSteps S n n.place
        late_go j n l q (inl r) =
            let i_in : i < length w.machines = omega (arith, g.core.members) in
            let same : begin_call S d op ≡ n = sym (get_or-set_same w.machines i (begin_call S d op) n i_in) ∙ (rw r at q) in
            subst (λ (x : CallState). HasMadeLeastSteps S x x.place) same (opened_late S d op)
        late_go j n l q (inr r) = g.late j n l (sym (get_or-set_other w.machines i j (begin_call S d op) n r) ∙ q)

    pub rests_not : rests_on_seq (begin_call S d op) ≡ 0
    unfolding rests_on_seq
    rests_not = go (S.meaning.reads_only op)
      where
        go : (b : Bool) → rests_on_seq_at (record (begin_call S d op) { place = first_place b }) (first_place b) ≡ 0
        go true = refl
        go false = refl

  -- a word that stands in its cell may be raised at any later time
  pub load_kept : (c : ℕ) → c < cell_count S → IsLoaded S B w.words w.batches (c, get_or w.words c 0)
  load_kept c h = record {
    place = h;
    low = omega arith;
    was_cur = λ q. rw q (omega (arith, g.core.shared.counted.count), g.core.shared.counted.owner, g.core.shared.counted.first);
    held = λ a l q. rw q (held_now g.core a l);
    request = λ j l q. subst (λ (k : ℕ). IsRequest B w.words w.batches j (get_or w.words k 0)) (sym q) (g.core.shared.kinds.requests j l);
    log = λ j x l u q. subst (λ (k : ℕ). IsLogWord B w.words w.batches j x (get_or w.words k 0) × (seq_of (get_or w.words k 0) ≡ seq_of (log_word_of S w.words j x) → get_or w.words k 0 ≡ log_word_of S w.words j x)) (sym q) (g.core.shared.kinds.logs j x l u, λ e. refl);
  }

  -- the durable word of its cell is raised to it
  module _ (e : ℕ × ℕ) (h : IsLoaded S B w.words w.batches e) where
    pub evict_kept : MeetsInvariant S Lawful B (after_raise S w e)
    evict_kept = record {
      core = raise_kept w g.core e.0 e.1 h;
      within = g.within;
      late = g.late;
      order = order_same S B w (after_raise S w e).words g.order (ap seq_of (current_same S Lawful B w.words w.batches g.core.shared e.0 e.1 h)) (seq_mono (durable_word S w.words 0) (durable_word S (after_raise S w e).words 0) (rises S Lawful B w.words w.batches g.core.shared e.0 e.1 h 0));
    }

    pub evict_stays : (d : ℕ × ℕ) → IsLoaded S B w.words w.batches d → IsLoaded S B (after_raise S w e).words w.batches d
    evict_stays d l = loaded_raise w g.core e.0 e.1 h d l

  -- a cell is loaded for an eviction
  load_good : (c : ℕ) → c < cell_count S → MeetsInvariant S Lawful B (record w { loaded = w.loaded ++ (c, get_or w.words c 0) ∷ [] })
  load_good c h = record {
    core = record {
      shared = g.core.shared;
      members = g.core.members;
      each = g.core.each;
      loaded = All-push (IsLoaded S B w.words w.batches) w.loaded (c, get_or w.words c 0) g.core.loaded (load_kept c h);
    };
    within = g.within;
    late = g.late;
    order = record { ordered = g.order.ordered; behind = g.order.behind };
  }

  pub event_good : IsSoundMeaning S.meaning Lawful (first_operation_cell S) S.cells → (e : Event) → MayHappen S w e → MeetsInvariant S Lawful B (after_event S w e)
  event_good sound (Turns i) h = step_kept S Lawful sound B w g i (machine_in w i) h (get_or_default w.machines i (machine_in w i) no_machine (omega (arith, g.core.members))) (word_found S w.words (machine_in w i)) (found_now S w.words (machine_in w i))
  event_good sound (Loads c) h = load_good c h
  event_good sound (Evicts k) h = evict_kept (get_or w.loaded k (0, 0)) (g.core.loaded k (0, 0) h)
  event_good sound (Raises c) h = evict_kept (c, get_or w.words c 0) (load_kept c h)
  event_good sound (Revives i made) h = counted_good g i h.0 h.1 made h.2
  event_good sound (Begins i op) h = begin_kept i (machine_in w i) h.0 (get_or_default w.machines i (machine_in w i) no_machine (omega (arith, g.core.members, h.0))) h.1 (machine_in w i) (inl refl) op h.2 h.3 h.4
