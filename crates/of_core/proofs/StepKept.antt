-- Each step of each machine keeps the invariant.
use Rattle.std.proofs.Common.{List, Bool, true, false, ap, ◌≡◌, ◌==◌, ◌++◌, ℕ, ◌+◌, ◌<◌, ◌⊎◌, inl, inr, refl, sym, ◌∙◌, get_or, set, length, arith, subst}
use Rattle.std.proofs.lemmas.Bool.{cases_eq}
use Rattle.std.proofs.lemmas.List.{get_or-set_same, get_or-set_other}
use Rattle.of_mem.specs.Meaning.{IsSoundMeaning}
use Rattle.of_core.specs.declared.place.Place.{Place}
use Rattle.of_core.specs.declared.place.Place.TheVariants.{Idle, TryCurrent, TryRequest, TryCell, StoreScript, StoreAnnouncement, LoadCurrent, LoadRequest, CopyLog, LookAgain, LoadOwnTicket, LoadShape, LoadReply, LoadAnnouncement, LoadTicket, LoadScript, LoadCell, RaiseOld, StoreLog, RaiseLog, StoreRequest, RaiseRequest, ExchangeCurrent, RaiseCurrent, LoadTarget, ExchangeTarget, ReloadTarget, RaiseTarget, CloseRequest, RaiseClosed}
use Rattle.of_core.specs.Table.{Setup, first_operation_cell}
use Rattle.of_core.specs.Machine.{CallState}
use Rattle.of_core.specs.Steps.{want, want_at, word_of, take_word_at, with_step_counted, IsFoundBy}
use Rattle.of_core.specs.TableMoment.{Moment, TableStart, Batch, after_step, after_step_at, step_reads_at, step_batches_at}
use Rattle.of_core.specs.Invariant.{MeetsInvariant, MeetsCore, HoldsAtPlace, IsLoaded}
use Rattle.of_core.specs.Guarantees.{KeepsGuarantee, Guarantees}
use Rattle.of_core.specs.Bound.{MachineIsWithinBound}
use Rattle.of_core.specs.Least.{HasMadeLeastSteps}
use Rattle.of_core.specs.Machine.{is_idle}
use Rattle.of_core.proofs.StepBound.{within}
use Rattle.of_core.proofs.Least.{late}
use Rattle.of_core.proofs.StepFacts.{step_facts}
use Rattle.of_core.proofs.Ordering.{Orderly, idle_is, orderly, orderly_idle, order_after}
use Rattle.of_core.proofs.Stability.{loaded_stable}
use Rattle.of_core.proofs.Found.{stepped_is}
use Rattle.of_core.proofs.Counting.{counted_stands, same_batch}
use Rattle.of_cell.specs.Words.{pack, seq_of}
use Rattle.of_core.proofs.Tries.{try_current_kept, try_request_kept, try_cell_kept}
use Rattle.of_core.proofs.Rounds.{idle_kept, load_current_kept, load_request_kept}
use Rattle.of_core.proofs.Helping.{copy_log_kept, look_again_kept}
use Rattle.of_core.proofs.OwnReply.{own_ticket_kept, load_shape_kept, load_reply_kept}
use Rattle.of_core.proofs.Scans.{load_announcement_kept, load_ticket_kept, load_script_kept, load_cell_kept}
use Rattle.of_core.proofs.Announcing.{store_script_kept, store_announcement_kept}
use Rattle.of_core.proofs.LogWrites.{store_log_kept, store_request_kept}
use Rattle.of_core.proofs.Committing.{exchange_current_kept}
use Rattle.of_core.proofs.Applying.{load_target_kept, exchange_target_kept, reload_target_kept, close_request_kept}
use Rattle.of_core.proofs.RaiseSteps.{raise_old_kept, raise_log_kept, raise_request_kept, raise_current_kept, raise_target_kept, raise_closed_kept}

pub core_kept : (S : Setup) (Lawful : List ℕ → Type 0) → IsSoundMeaning S.meaning Lawful (first_operation_cell S) S.cells → (B : TableStart) (w : Moment) → MeetsCore S Lawful B w → (i : ℕ) (m : CallState) → i < S.callers → get_or w.machines i m ≡ m → KeepsGuarantee S Lawful B i w (after_step_at S i m m.place w)
core_kept S Lawful sound B w g i m h e = go m.place (g.each i m h e)
  where
    -- the machine with its step counted
    c : CallState
    c = record m { steps = m.steps + 1 }

    now : (p : Place) → HoldsAtPlace S B w.words w.batches i m p → HoldsAtPlace S B w.words w.batches i (with_step_counted p m) p
    now p a = counted_stands S Lawful B w g i m h p a

    go : (p : Place) → HoldsAtPlace S B w.words w.batches i m p → KeepsGuarantee S Lawful B i w (after_step_at S i m p w)
    go Idle a = idle_kept g h m (g.each i m h e)
    go LoadCurrent a = load_current_kept g h c (now LoadCurrent a)
    go TryCurrent a = try_current_kept g h c (now TryCurrent a)
    go TryRequest a = try_request_kept g h c sound (now TryRequest a)
    go (TryCell x) a = try_cell_kept g h c sound x (now (TryCell x) a)
    go (StoreScript j) a = store_script_kept g h c j (now (StoreScript j) a)
    go StoreAnnouncement a = store_announcement_kept g h c (now StoreAnnouncement a)
    go LoadRequest a = load_request_kept g h c (now LoadRequest a)
    go (CopyLog x) a = copy_log_kept g h c x (now (CopyLog x) a)
    go LookAgain a = look_again_kept g h c sound (now LookAgain a)
    go LoadOwnTicket a = own_ticket_kept g h c (now LoadOwnTicket a)
    go LoadShape a = load_shape_kept g h c (now LoadShape a)
    go (LoadReply j) a = load_reply_kept g h c j (now (LoadReply j) a)
    go LoadAnnouncement a = load_announcement_kept g h c (now LoadAnnouncement a)
    go LoadTicket a = load_ticket_kept g h c (now LoadTicket a)
    go (LoadScript j) a = load_script_kept g h c sound j (now (LoadScript j) a)
    go (LoadCell x) a = load_cell_kept g h c sound x (now (LoadCell x) a)
    go RaiseOld a = raise_old_kept g h c (now RaiseOld a)
    go (StoreLog x) a = store_log_kept g h c x (now (StoreLog x) a)
    go (RaiseLog x) a = raise_log_kept g h c x (now (RaiseLog x) a)
    go StoreRequest a = store_request_kept g h c (now StoreRequest a)
    go RaiseRequest a = raise_request_kept g h c (now RaiseRequest a)
    go ExchangeCurrent a = subst (λ (bs : List Batch). KeepsGuarantee S Lawful B i w (record (after_step_at S i m ExchangeCurrent w) { batches = w.batches ++ bs })) (same_batch S w.words m (get_or w.words 0 0 == pack m.seq m.owner)) (exchange_current_kept g h c sound (now ExchangeCurrent a))
    go RaiseCurrent a = raise_current_kept g h c (now RaiseCurrent a)
    go (LoadTarget j) a = load_target_kept g h c j (now (LoadTarget j) a)
    go (ExchangeTarget j f) a = exchange_target_kept g h c j f (now (ExchangeTarget j f) a)
    go (ReloadTarget j) a = reload_target_kept g h c j (now (ReloadTarget j) a)
    go (RaiseTarget j f) a = raise_target_kept g h c j f (now (RaiseTarget j f) a)
    go CloseRequest a = close_request_kept g h c (now CloseRequest a)
    go RaiseClosed a = raise_closed_kept g h c sound (now RaiseClosed a)

module _ (S : Setup) (Lawful : List ℕ → Type 0) (sound : IsSoundMeaning S.meaning Lawful (first_operation_cell S) S.cells) (B : TableStart) (w : Moment) (g : MeetsInvariant S Lawful B w) (i : ℕ) (m : CallState) (h : i < S.callers) (own : get_or w.machines i m ≡ m) where
  abbrev new : CallState
  new = take_word_at S (with_step_counted m.place m) (get_or w.words (word_of (want_at S m m.place)) 0) m.place

  goes : KeepsGuarantee S Lawful B i w (after_step_at S i m m.place w)
  goes = core_kept S Lawful sound B w g.core i m h own

  own_within : MachineIsWithinBound S (take_word_at S (with_step_counted m.place m) (get_or w.words (word_of (want_at S m m.place)) 0) m.place) (take_word_at S (with_step_counted m.place m) (get_or w.words (word_of (want_at S m m.place)) 0) m.place).place
  own_within = within S Lawful B w g.core i m h m.place (g.core.each i m h own) (g.within i m h own) refl

  within_after : (j : ℕ) (n : CallState) → j < S.callers → get_or (set w.machines i new) j n ≡ n → (j ≡ i) ⊎ (j ≡ i → ⊥) → MachineIsWithinBound S n n.place
  within_after j n l q (inl r) =
      let i_in : i < length w.machines = omega (arith, g.core.members) in
      let same : new ≡ n = sym (get_or-set_same w.machines i new n i_in) ∙ (rw r at q) in
      subst (λ (x : CallState). MachineIsWithinBound S x x.place) same own_within
  within_after j n l q (inr r) = g.within j n l (sym (get_or-set_other w.machines i j new n r) ∙ q)

  own_late : HasMadeLeastSteps S (take_word_at S (with_step_counted m.place m) (get_or w.words (word_of (want_at S m m.place)) 0) m.place) (take_word_at S (with_step_counted m.place m) (get_or w.words (word_of (want_at S m m.place)) 0) m.place).place
  own_late = late S B w.words w.batches i m (get_or w.words (word_of (want_at S m m.place)) 0) m.place (g.core.each i m h own) (g.late i m h own) refl

  late_after : (j : ℕ) (n : CallState) → j < S.callers → get_or (set w.machines i new) j n ≡ n → (j ≡ i) ⊎ (j ≡ i → ⊥) → HasMadeLeastSteps S n n.place
  late_after j n l q (inl r) =
      let i_in : i < length w.machines = omega (arith, g.core.members) in
      let same : new ≡ n = sym (get_or-set_same w.machines i new n i_in) ∙ (rw r at q) in
      subst (λ (x : CallState). HasMadeLeastSteps S x x.place) same own_late
  late_after j n l q (inr r) = g.late j n l (sym (get_or-set_other w.machines i j new n r) ∙ q)

  new_at : HoldsAtPlace S B (after_step_at S i m m.place w).words (after_step_at S i m m.place w).batches i (take_word_at S (with_step_counted m.place m) (get_or w.words (word_of (want_at S m m.place)) 0) m.place) (take_word_at S (with_step_counted m.place m) (get_or w.words (word_of (want_at S m m.place)) 0) m.place).place
  new_at = goes.core.each i new h (get_or-set_same w.machines i new new (omega (arith, g.core.members)))

  orderly_step : (b : Bool) → is_idle m.place ≡ b → Orderly S B i w.words m new (after_step_at S i m m.place w).words (after_step_at S i m m.place w).batches (step_reads_at new m.place)
  orderly_step true e = orderly_idle S B i w.words m new _ _ (ap (λ (p : Place). take_word_at S (with_step_counted p m) (get_or w.words (word_of (want_at S m m.place)) 0) p) (idle_is m.place e)) e
  orderly_step false e = orderly S Lawful B w g.core i m h (get_or w.words (word_of (want_at S m m.place)) 0) new (step_batches_at S w.words m (get_or w.words (word_of (want_at S m m.place)) 0) m.place)
      (step_facts S Lawful B w g.core i m h (get_or w.words (word_of (want_at S m m.place)) 0) m.place e (g.core.each i m h own)) e (λ q. ap (λ (p : Place). seq_of (get_or w.words (word_of (want_at S m p)) 0)) q) (after_step_at S i m m.place w).words goes.core.shared new_at

  good_after : MeetsInvariant S Lawful B (after_step_at S i m m.place w)
  good_after = record {
    core = goes.core;
    within = λ j n l q. within_after j n l q (cases_eq j i);
    late = λ j n l q. late_after j n l q (cases_eq j i);
    order = order_after S Lawful B w g.core g.order i m new h own (after_step_at S i m m.place w).words (after_step_at S i m m.place w).batches (step_reads_at new m.place) goes.moves goes.core.shared (orderly_step (is_idle m.place) refl);
  }

  pub step_kept : (n : ℕ) → IsFoundBy (want S m) w.words n → MeetsInvariant S Lawful B (after_step S i m n w)
  step_kept n f = subst (λ (v : Moment). MeetsInvariant S Lawful B v) (sym (stepped_is S i m n w f)) good_after

  pub step_moves : (n : ℕ) → IsFoundBy (want S m) w.words n → Guarantees S B i w.words w.batches (after_step S i m n w).words (after_step S i m n w).batches
  step_moves n f = subst (λ (v : Moment). Guarantees S B i w.words w.batches v.words v.batches) (sym (stepped_is S i m n w f)) goes.moves

  -- a word that was loaded stays one that its cell has held
  pub loaded_stays : (n : ℕ) → IsFoundBy (want S m) w.words n → (e : ℕ × ℕ) → IsLoaded S B w.words w.batches e → IsLoaded S B (after_step S i m n w).words (after_step S i m n w).batches e
  loaded_stays n f e l = subst (λ (v : Moment). IsLoaded S B v.words v.batches e) (sym (stepped_is S i m n w f))
      (loaded_stable S Lawful B i w.words w.batches (after_step_at S i m m.place w).words (after_step_at S i m m.place w).batches goes.moves g.core.shared goes.core.shared.kinds e l)
