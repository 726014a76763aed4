-- How many steps a call has made at least, by its place.
use Rattle.std.specs.Prelude.{ℕ, ◌+◌, ◌==◌, List, length, Option, Some, None, Bool, true, false, ◌≡◌, ◌≤◌}
use Rattle.of_mem.specs.Meaning.{WalkEnd, Needs, Gives}
use Rattle.of_core.specs.declared.place.Place.{Place}
use Rattle.of_core.specs.declared.place.Place.TheVariants.{Idle, TryCurrent, TryRequest, TryCell, StoreScript, StoreAnnouncement, LoadCurrent, LoadRequest, CopyLog, LookAgain, LoadOwnTicket, LoadShape, LoadReply, LoadAnnouncement, LoadTicket, LoadScript, LoadCell, RaiseOld, StoreLog, RaiseLog, StoreRequest, RaiseRequest, ExchangeCurrent, RaiseCurrent, LoadTarget, ExchangeTarget, ReloadTarget, RaiseTarget, CloseRequest, RaiseClosed}
use Rattle.of_core.specs.declared.place.Outcome.{Outcome}
use Rattle.of_core.specs.declared.place.Outcome.TheVariants.{Answered, Spent, Lost}
use Rattle.of_core.specs.Table.{Setup}
use Rattle.of_core.specs.Machine.{CallState, no_cell_known}

-- the least steps of a try: its two loads, and a third load if a run with no known cell needs a
-- cell
abbrev pub least_of : WalkEnd → ℕ
least_of (Needs a) = 3
least_of (Gives es r) = 2

-- the least steps of a read that is answered without being announced
abbrev pub least_read : Setup → List ℕ → ℕ
least_read S op = least_of (S.meaning.walk (no_cell_known S) op)

-- the least steps of an announced call: the stores of its words and of the announcement, the two
-- loads with which a round begins, and the loads of the ticket cell and of the reply's shape
abbrev pub least_call : List ℕ → ℕ
least_call op = length op + 5

-- the least steps that a call has made when its try or its round begins to help: all steps up to
-- the two loads with which the try or the round began
abbrev pub made_helping : List ℕ → (in_try : Bool) → ℕ
made_helping op true = 2
made_helping op false = length op + 3

-- the least steps that a call has made when it applies a log: as a helper, or as the owner
abbrev pub made_applying : List ℕ → (in_try helps : Bool) → ℕ
made_applying op in_try true = made_helping op in_try
made_applying op in_try false = length op + 4

-- the least steps that a call has made when it is at this place
abbrev pub least_steps_at : CallState → Place → ℕ
least_steps_at m Idle = 0
least_steps_at m TryCurrent = 0
least_steps_at m TryRequest = 1
least_steps_at m (TryCell a) = 2
least_steps_at m (StoreScript j) = j
least_steps_at m StoreAnnouncement = length m.op
least_steps_at m LoadCurrent = length m.op + 1
least_steps_at m LoadRequest = length m.op + 2
least_steps_at m (CopyLog x) = made_helping m.op (m.rounds == 0)
least_steps_at m LookAgain = made_helping m.op (m.rounds == 0)
least_steps_at m LoadOwnTicket = length m.op + 3
least_steps_at m LoadShape = length m.op + 4
least_steps_at m (LoadReply j) = length m.op + 4
least_steps_at m LoadAnnouncement = length m.op + 4
least_steps_at m LoadTicket = length m.op + 4
least_steps_at m (LoadScript j) = length m.op + 4
least_steps_at m (LoadCell a) = length m.op + 4
least_steps_at m RaiseOld = length m.op + 4
least_steps_at m (StoreLog x) = length m.op + 4
least_steps_at m (RaiseLog x) = length m.op + 4
least_steps_at m StoreRequest = length m.op + 4
least_steps_at m RaiseRequest = length m.op + 4
least_steps_at m ExchangeCurrent = length m.op + 4
least_steps_at m RaiseCurrent = made_applying m.op (m.rounds == 0) m.helps
least_steps_at m (LoadTarget j) = made_applying m.op (m.rounds == 0) m.helps
least_steps_at m (ExchangeTarget j f) = made_applying m.op (m.rounds == 0) m.helps
least_steps_at m (ReloadTarget j) = made_applying m.op (m.rounds == 0) m.helps
least_steps_at m (RaiseTarget j f) = made_applying m.op (m.rounds == 0) m.helps
least_steps_at m CloseRequest = made_applying m.op (m.rounds == 0) m.helps
least_steps_at m RaiseClosed = made_applying m.op (m.rounds == 0) m.helps

-- an answer names at least the steps that its call must make
abbrev pub TellsLeastSteps : Setup → List ℕ → Option Outcome → Type 0
TellsLeastSteps S op None = Unit {0}
TellsLeastSteps S op (Some (Answered s true raw steps)) = least_call op ≤ steps
TellsLeastSteps S op (Some (Answered s false raw steps)) = least_read S op ≤ steps
TellsLeastSteps S op (Some (Spent s)) = Unit {0}
TellsLeastSteps S op (Some (Lost s)) = Unit {0}

-- m has made at least the least steps of its place; if it is idle, it counts no steps, and its last
-- answer names at least the steps that its call must make
pub record HasMadeLeastSteps (S : Setup) (m : CallState) (p : Place) : Type 0 where
  pub steps : least_steps_at m p ≤ m.steps
  pub rests : p ≡ Idle → m.steps ≡ 0
  pub told : p ≡ Idle → TellsLeastSteps S m.op m.answer
