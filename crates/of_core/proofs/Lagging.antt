-- What the steps of a machine that lags are, and where each leads to.
use Rattle.std.proofs.Common.{◌≡◌, ℕ, ◌+◌, ◌<◌, length, Bool, true, false, nat_lt, refl, sym, ap, arith}
use Rattle.std.proofs.lemmas.Bool.Decides.{nat_tests}
use Rattle.of_cell.specs.Words.{seq_of}
use Rattle.of_mem.specs.Meaning.{Meaning}
use Rattle.of_core.specs.declared.place.Place.{Place}
use Rattle.of_core.specs.declared.place.Place.TheVariants.{Idle, TryCurrent, TryRequest, TryCell, StoreScript, StoreAnnouncement, LoadCurrent, LoadRequest, CopyLog, LookAgain, LoadOwnTicket, LoadShape, LoadReply, LoadAnnouncement, LoadTicket, LoadScript, LoadCell, RaiseOld, StoreLog, RaiseLog, StoreRequest, RaiseRequest, ExchangeCurrent, RaiseCurrent, LoadTarget, ExchangeTarget, ReloadTarget, RaiseTarget, CloseRequest, RaiseClosed}
use Rattle.of_core.specs.Table.{Setup}
use Rattle.of_core.specs.Machine.{CallState, log_words}
use Rattle.of_core.specs.MachineValue.{Machine}
use Rattle.of_core.specs.Steps.{want, want_at, take_word, take_word_at, with_step_counted, after_raise_log, after_load_target, next_entry}
use Rattle.of_core.specs.Lagging.{lagging_call, at_place, after_lagging, log_word_place, log_word_place_if, entry_place, entry_place_if, target_place, target_place_if}

-- the step of a place doesn't depend on the machine's own place, or on its count
pub same_op : (S : Setup) (d : CallState) (q : Place) (k : ℕ) (p : Place) → want_at S (lagging_call d q k) p ≡ want_at S d p
same_op S d q k Idle = refl
same_op S d q k TryCurrent = refl
same_op S d q k TryRequest = refl
same_op S d q k (TryCell a) = refl
same_op S d q k (StoreScript j) = refl
same_op S d q k StoreAnnouncement = refl
same_op S d q k LoadCurrent = refl
same_op S d q k LoadRequest = refl
same_op S d q k (CopyLog x) = refl
same_op S d q k LookAgain = refl
same_op S d q k LoadOwnTicket = refl
same_op S d q k LoadShape = refl
same_op S d q k (LoadReply j) = refl
same_op S d q k LoadAnnouncement = refl
same_op S d q k LoadTicket = refl
same_op S d q k (LoadScript j) = refl
same_op S d q k (LoadCell a) = refl
same_op S d q k RaiseOld = refl
same_op S d q k (StoreLog x) = refl
same_op S d q k (RaiseLog x) = refl
same_op S d q k StoreRequest = refl
same_op S d q k RaiseRequest = refl
same_op S d q k ExchangeCurrent = refl
same_op S d q k RaiseCurrent = refl
same_op S d q k (LoadTarget j) = refl
same_op S d q k (ExchangeTarget j f) = refl
same_op S d q k (ReloadTarget j) = refl
same_op S d q k (RaiseTarget j f) = refl
same_op S d q k CloseRequest = refl
same_op S d q k RaiseClosed = refl

-- the true machine's next step is the one of the place that it has come to
pub true_want : (S : Setup) (d : CallState) (p : Place) (k : ℕ) → want_at S d p ≡ want S (lagging_call d p k)
unfolding want
true_want S d p k = let same : want_at S (lagging_call d p k) p ≡ want_at S d p = same_op S d p k p in sym same

-- the true machine goes on from this place
pub true_take : (S : Setup) (d : CallState) (p : Place) (k found : ℕ) → take_word_at S (with_step_counted p (lagging_call d p k)) found p ≡ take_word S (lagging_call d p k) found
unfolding take_word
true_take S d p k found = refl

module _ {X : Type 0} (meaning : X → Meaning) (m : Machine X) where
  -- a machine that doesn't lag
  pub at_own : (p : Place) → p ≡ m.call.place → at_place m p 0 ≡ m
  at_own p here = λ i. record m { call = record m.call { place = here i; steps = none i } }
    where
      none : m.call.steps + 0 ≡ m.call.steps
      none = omega arith

  module _ (k n : ℕ) where
    -- one step more was made
    more : (p : Place) → record m { call = record m.call { place = p; steps = m.call.steps + k + 1 } } ≡ at_place m p (k + 1)
    more p = ap (λ (s : ℕ). record m { call = record m.call { place = p; steps = s } }) (let q : m.call.steps + k + 1 ≡ m.call.steps + (k + 1) = omega arith in q)

    -- ---- storing the log
    pub word_stored : (x : ℕ) → after_lagging meaning m (StoreLog x) k n ≡ at_place m (RaiseLog x) (k + 1)
    word_stored x = more (RaiseLog x)

    pub word_raised : (x : ℕ) → after_lagging meaning m (RaiseLog x) k n ≡ at_place m (log_word_place m.call (x + 1)) (k + 1)
    word_raised x = go (nat_lt (x + 1) (length (log_words m.call.log)))
      where
        go : (b : Bool) → record m { call = after_raise_log (record m.call { place = RaiseLog x; steps = m.call.steps + k + 1 }) x b } ≡ at_place m (log_word_place_if b (x + 1)) (k + 1)
        go true = more (StoreLog (x + 1))
        go false = more StoreRequest

    -- ---- applying
    pub entry_loaded : (j : ℕ) → after_lagging meaning m (LoadTarget j) k n ≡ at_place m (target_place m.call j n) (k + 1)
    entry_loaded j = go (nat_lt (seq_of n) m.call.seq)
      where
        go : (b : Bool) → record m { call = after_load_target (record m.call { place = LoadTarget j; steps = m.call.steps + k + 1 }) j n b } ≡ at_place m (target_place_if b j n) (k + 1)
        go true = more (ExchangeTarget j n)
        go false = more (RaiseTarget j n)

    pub entry_exchanged : (j f : ℕ) → after_lagging meaning m (ExchangeTarget j f) k n ≡ at_place m (ReloadTarget j) (k + 1)
    entry_exchanged j f = more (ReloadTarget j)

    pub entry_reloaded : (j : ℕ) → after_lagging meaning m (ReloadTarget j) k n ≡ at_place m (RaiseTarget j n) (k + 1)
    entry_reloaded j = more (RaiseTarget j n)

    pub entry_raised : (j f : ℕ) → after_lagging meaning m (RaiseTarget j f) k n ≡ at_place m (entry_place m.call (j + 1)) (k + 1)
    entry_raised j f = go (nat_lt (j + 1) (length m.call.log))
      where
        go : (b : Bool) → record m { call = next_entry (record m.call { place = RaiseTarget j f; steps = m.call.steps + k + 1 }) j b } ≡ at_place m (entry_place_if b (j + 1)) (k + 1)
        go true = more (LoadTarget (j + 1))
        go false = more CloseRequest

-- where a loop over log words or entries goes on, and where it ends
pub word_left : (d : CallState) (x : ℕ) → x < length (log_words d.log) → log_word_place d x ≡ StoreLog x
word_left d x l = let t : nat_lt x (length (log_words d.log)) ≡ true = grind (arith, nat_tests) in ap (λ (b : Bool). log_word_place_if b x) t

pub entry_left : (d : CallState) (j : ℕ) → j < length d.log → entry_place d j ≡ LoadTarget j
entry_left d j l = let t : nat_lt j (length d.log) ≡ true = grind (arith, nat_tests) in ap (λ (b : Bool). entry_place_if b j) t
