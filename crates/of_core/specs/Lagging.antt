-- A machine that lags: its call has gone on, by steps that change nothing of the machine but
-- its place and its count of steps, and neither is written yet.
use Rattle.std.specs.Prelude.{◌≢◌, ℕ, ◌+◌, nat_lt, length, Bool, true, false}
use Rattle.of_cell.specs.Words.{seq_of}
use Rattle.of_mem.specs.Meaning.{Meaning}
use Rattle.of_core.specs.declared.place.Place.{Place}
use Rattle.of_core.specs.declared.place.Place.TheVariants.{StoreLog, StoreRequest, LoadTarget, ExchangeTarget, RaiseTarget, CloseRequest}
use Rattle.of_core.specs.Fit.{FitsPlace, is_scanning, is_reading}
use Rattle.of_core.specs.Machine.{CallState, IsOpen, first_place, log_words}
use Rattle.of_core.specs.MachineValue.{Machine, machine_setup}
use Rattle.of_core.specs.OwedRun.{after_step_at}

-- the call's state at the place p, after k steps more
abbrev pub lagging_call : CallState → Place → (k : ℕ) → CallState
lagging_call d p k = record d { place = p; steps = d.steps + k }

-- the true machine: m at the place p, after k steps more
abbrev pub at_place : {X : Type 0} → Machine X → Place → (k : ℕ) → Machine X
at_place m p k = record m { call = lagging_call m.call p k }

-- the true machine after its step from the place p, which has found this number
abbrev pub after_lagging : {X : Type 0} → (X → Meaning) → Machine X → Place → (k found : ℕ)
    → Machine X
after_lagging meaning m p k found = after_step_at meaning p found (at_place m p k)

-- the machine m may make the step of the place p: with what m holds, it is a step on the table
abbrev pub MayMake : {X : Type 0} → (X → Meaning) → Machine X → Place → Type 0
MayMake meaning m p = FitsPlace (machine_setup meaning m) m.call p

-- a machine may lag at the place p: the step of this place isn't the first one of a call, and
-- no operation is run there
pub record MayLag (p : Place) : Type 0 where
  pub open_call : IsOpen p
  pub later : (b : Bool) → p ≢ first_place b
  pub scans : is_scanning p ≢ true
  pub reads : is_reading p ≢ true

-- The places that a loop comes to: the store of log word x, or what follows the log if it has no
-- word x.
abbrev pub log_word_place_if : (more : Bool) → ℕ → Place
log_word_place_if true x = StoreLog x
log_word_place_if false x = StoreRequest

abbrev pub log_word_place : CallState → ℕ → Place
log_word_place d x = log_word_place_if (nat_lt x (length (log_words d.log))) x

-- the load of entry j's cell, or what follows the apply if the log has no entry j
abbrev pub entry_place_if : (more : Bool) → ℕ → Place
entry_place_if true j = LoadTarget j
entry_place_if false j = CloseRequest

abbrev pub entry_place : CallState → ℕ → Place
entry_place d j = entry_place_if (nat_lt j (length d.log)) j

-- after the load of entry j's cell, which has found this word: the exchange, or the raise if
-- another has brought the entry there
abbrev pub target_place_if : (older : Bool) → (j found : ℕ) → Place
target_place_if true j found = ExchangeTarget j found
target_place_if false j found = RaiseTarget j found

abbrev pub target_place : CallState → (j found : ℕ) → Place
target_place d j found = target_place_if (nat_lt (seq_of found) d.seq) j found
