-- A step is the same whatever number a store is said to have found.
use Rattle.std.proofs.Common.{◌≡◌, ℕ, List, ◌++◌, get_or, set, refl, sym, ◌∙◌, ap}
use Rattle.of_core.specs.declared.place.Place.{Place}
use Rattle.of_core.specs.declared.place.Place.TheVariants.{Idle, TryCurrent, TryRequest, TryCell, StoreScript, StoreAnnouncement, LoadCurrent, LoadRequest, CopyLog, LookAgain, LoadOwnTicket, LoadShape, LoadReply, LoadAnnouncement, LoadTicket, LoadScript, LoadCell, RaiseOld, StoreLog, RaiseLog, StoreRequest, RaiseRequest, ExchangeCurrent, RaiseCurrent, LoadTarget, ExchangeTarget, ReloadTarget, RaiseTarget, CloseRequest, RaiseClosed}
use Rattle.of_core.specs.Table.{Setup}
use Rattle.of_core.specs.Machine.{CallState}
use Rattle.of_core.specs.Steps.{want, want_at, word_of, take_word, take_word_at, with_step_counted, words_after, IsFoundBy, word_found}
use Rattle.of_core.specs.Events.{Turns, machine_in, after_event}
use Rattle.of_core.specs.TableMoment.{Moment, Batch, step_batches, step_reads, step_reads_at, step_batches_at, after_step, after_step_at}

module _ (S : Setup) (ws : List ℕ) (m : CallState) (n : ℕ) where
  -- what the step from the place p makes of the number n
  abbrev Same : Place → ℕ → Type 0
  Same p k = (take_word_at S (with_step_counted p m) n p ≡ take_word_at S (with_step_counted p m) k p) × (step_batches_at S ws m n p ≡ step_batches_at S ws m k p)

  same : (p : Place) (k : ℕ) → n ≡ k → Same p k
  same p k e = (ap (λ (x : ℕ). take_word_at S (with_step_counted p m) x p) e, ap (λ (x : ℕ). step_batches_at S ws m x p) e)

  pub same_step : (p : Place) → IsFoundBy (want_at S m p) ws n → Same p (get_or ws (word_of (want_at S m p)) 0)
  same_step (StoreScript j) e = (refl, refl)
  same_step StoreAnnouncement e = (refl, refl)
  same_step (StoreLog x) e = (refl, refl)
  same_step StoreRequest e = (refl, refl)
  same_step Idle e = same Idle _ e
  same_step TryCurrent e = same TryCurrent _ e
  same_step TryRequest e = same TryRequest _ e
  same_step (TryCell a) e = same (TryCell a) _ e
  same_step LoadCurrent e = same LoadCurrent _ e
  same_step LoadRequest e = same LoadRequest _ e
  same_step (CopyLog x) e = same (CopyLog x) _ e
  same_step LookAgain e = same LookAgain _ e
  same_step LoadOwnTicket e = same LoadOwnTicket _ e
  same_step LoadShape e = same LoadShape _ e
  same_step (LoadReply j) e = same (LoadReply j) _ e
  same_step LoadAnnouncement e = same LoadAnnouncement _ e
  same_step LoadTicket e = same LoadTicket _ e
  same_step (LoadScript j) e = same (LoadScript j) _ e
  same_step (LoadCell a) e = same (LoadCell a) _ e
  same_step RaiseOld e = same RaiseOld _ e
  same_step (RaiseLog x) e = same (RaiseLog x) _ e
  same_step RaiseRequest e = same RaiseRequest _ e
  same_step ExchangeCurrent e = same ExchangeCurrent _ e
  same_step RaiseCurrent e = same RaiseCurrent _ e
  same_step (LoadTarget j) e = same (LoadTarget j) _ e
  same_step (ExchangeTarget j f) e = same (ExchangeTarget j f) _ e
  same_step (ReloadTarget j) e = same (ReloadTarget j) _ e
  same_step (RaiseTarget j f) e = same (RaiseTarget j f) _ e
  same_step CloseRequest e = same CloseRequest _ e
  same_step RaiseClosed e = same RaiseClosed _ e

  -- the word that stands there is what the step finds
  pub finds_now : (p : Place) → n ≡ get_or ws (word_of (want_at S m p)) 0 → IsFoundBy (want_at S m p) ws n
  finds_now (StoreScript j) e = tt
  finds_now StoreAnnouncement e = tt
  finds_now (StoreLog x) e = tt
  finds_now StoreRequest e = tt
  finds_now Idle e = e
  finds_now TryCurrent e = e
  finds_now TryRequest e = e
  finds_now (TryCell a) e = e
  finds_now LoadCurrent e = e
  finds_now LoadRequest e = e
  finds_now (CopyLog x) e = e
  finds_now LookAgain e = e
  finds_now LoadOwnTicket e = e
  finds_now LoadShape e = e
  finds_now (LoadReply j) e = e
  finds_now LoadAnnouncement e = e
  finds_now LoadTicket e = e
  finds_now (LoadScript j) e = e
  finds_now (LoadCell a) e = e
  finds_now RaiseOld e = e
  finds_now (RaiseLog x) e = e
  finds_now RaiseRequest e = e
  finds_now ExchangeCurrent e = e
  finds_now RaiseCurrent e = e
  finds_now (LoadTarget j) e = e
  finds_now (ExchangeTarget j f) e = e
  finds_now (ReloadTarget j) e = e
  finds_now (RaiseTarget j f) e = e
  finds_now CloseRequest e = e
  finds_now RaiseClosed e = e

pub found_now : (S : Setup) (ws : List ℕ) (m : CallState) → IsFoundBy (want S m) ws (word_found S ws m)
unfolding want
found_now S ws m = finds_now S ws m (word_found S ws m) m.place refl

-- the world after the step, where the machine is d and these batches are committed
abbrev world_after : Setup → ℕ → CallState → Moment → CallState → List Batch → Moment
world_after S i m w d bs = record { words = words_after (want_at S m m.place) w.words; machines = set w.machines i d; batches = w.batches ++ bs; reads = w.reads ++ step_reads_at d m.place; loaded = w.loaded }

pub stepped_is : (S : Setup) (i : ℕ) (m : CallState) (n : ℕ) (w : Moment) → IsFoundBy (want S m) w.words n → after_step S i m n w ≡ after_step_at S i m m.place w
unfolding want take_word step_batches step_reads
stepped_is S i m n w e =
    let r = same_step S w.words m n m.place e in
    ap (λ (d : CallState). world_after S i m w d (step_batches_at S w.words m n m.place)) r.0 ∙ ap (λ (bs : List Batch). world_after S i m w (take_word_at S (with_step_counted m.place m) (get_or w.words (word_of (want_at S m m.place)) 0) m.place) bs) r.1

-- a turn is the step of its caller's machine, whatever number a store is said to find
pub turn_is_step : (S : Setup) (w : Moment) (i n : ℕ) → IsFoundBy (want S (machine_in w i)) w.words n → after_event S w (Turns i) ≡ after_step S i (machine_in w i) n w
turn_is_step S w i n f =
    let m : CallState = machine_in w i in
    stepped_is S i m (word_found S w.words m) w (found_now S w.words m) ∙ sym (stepped_is S i m n w f)
