-- What a machine keeps of itself, so that its next step is a step on the table.
use Rattle.std.specs.Prelude.{◌≡◌, ℕ, ◌+◌, ◌*◌, ◌<◌, ◌≤◌, List, [], Bool, true, false, None, length}
use Rattle.std.specs.Vec.{vec_capacity}
use Rattle.std.specs.declared.vec.Vec.{Vec}
use Rattle.of_cell.specs.declared.word.TheConstants.{GREATEST_LIMIT}
use Rattle.of_cell.specs.Words.{payload_of}
use Rattle.of_core.specs.declared.place.Place.{Place}
use Rattle.of_core.specs.declared.place.Place.TheVariants.{Idle, TryCurrent, TryRequest, TryCell, StoreScript, StoreAnnouncement, LoadCurrent, LoadRequest, CopyLog, LookAgain, LoadOwnTicket, LoadShape, LoadReply, LoadAnnouncement, LoadTicket, LoadScript, LoadCell, RaiseOld, StoreLog, RaiseLog, StoreRequest, RaiseRequest, ExchangeCurrent, RaiseCurrent, LoadTarget, ExchangeTarget, ReloadTarget, RaiseTarget, CloseRequest, RaiseClosed}
use Rattle.of_mem.specs.CellMap.{value_for}
use Rattle.of_core.specs.Table.{most_entries, Setup, first_operation_cell, ticket_cell}
use Rattle.of_core.specs.Machine.{CallState, log_words}

-- the scan has come to a caller, and has run at most one call for each caller that it has passed;
-- its sequence is below the limit
pub record IsScanning (S : Setup) (m : CallState) : Type 0 where
  pub scan : m.scan < S.callers
  pub few : length m.calls ≤ m.scan
  pub under : m.seq < S.limit

-- no call that the scan has run so far has written the ticket cell of the next caller, the one that
-- the scan has come to
abbrev pub LeavesTicket : Setup → CallState → Type 0
LeavesTicket S m = value_for m.log (ticket_cell S m.scan) ≡ None

-- what must hold of a machine at this place, so that its next step is a step on the table
abbrev pub FitsPlace : Setup → CallState → Place → Type 0
FitsPlace S m Idle = Unit {0}
FitsPlace S m TryCurrent = Unit {0}
FitsPlace S m TryRequest = Unit {0}
FitsPlace S m (TryCell a) = a < S.cells
FitsPlace S m (StoreScript j) = j < length m.op
FitsPlace S m StoreAnnouncement = Unit {0}
FitsPlace S m LoadCurrent = Unit {0}
FitsPlace S m LoadRequest = Unit {0}
FitsPlace S m (CopyLog x) = (x < 2 * most_entries S + 1) × (length m.copy ≡ x)
FitsPlace S m LookAgain = Unit {0}
FitsPlace S m LoadOwnTicket = (m.scan ≡ 0) × (m.calls ≡ [])
FitsPlace S m LoadShape = Unit {0}
FitsPlace S m (LoadReply j) = j < S.instrs
FitsPlace S m LoadAnnouncement = IsScanning S m
FitsPlace S m LoadTicket = IsScanning S m × (payload_of m.heard ≤ S.instrs)
FitsPlace S m (LoadScript j) =
    IsScanning S m × (j < payload_of m.heard) × (payload_of m.heard ≤ S.instrs)
FitsPlace S m (LoadCell a) = IsScanning S m × (a < S.cells)
FitsPlace S m RaiseOld = m.seq < S.limit
FitsPlace S m (StoreLog x) =
    (x < length (log_words m.log)) × (m.seq < S.limit) × (length m.log ≤ most_entries S)
FitsPlace S m (RaiseLog x) =
    (x < length (log_words m.log)) × (m.seq < S.limit) × (length m.log ≤ most_entries S)
FitsPlace S m StoreRequest = m.seq < S.limit
FitsPlace S m RaiseRequest = m.seq < S.limit
FitsPlace S m ExchangeCurrent = m.seq < S.limit
FitsPlace S m RaiseCurrent = Unit {0}
FitsPlace S m (LoadTarget j) = j < length m.log
FitsPlace S m (ExchangeTarget j f) = j < length m.log
FitsPlace S m (ReloadTarget j) = j < length m.log
FitsPlace S m (RaiseTarget j f) = j < length m.log
FitsPlace S m CloseRequest = Unit {0}
FitsPlace S m RaiseClosed = Unit {0}

-- what holds of the machine's sizes and numbers at every place
pub record FitsSizes (many size : ℕ) (S : Setup) (m : CallState) : Type 0 where
  pub callers : many ≡ S.callers
  pub cells : size ≡ S.cells
  pub own_in : first_operation_cell S ≤ S.cells
  pub limit : S.limit ≤ GREATEST_LIMIT
  pub caller : m.caller < S.callers
  pub owner : m.owner < S.callers
  pub upto : m.seq ≤ S.limit
  pub words : length m.op ≤ S.instrs
  pub script : length m.script ≤ S.instrs
  pub known : length m.known ≡ S.cells
  pub place : FitsPlace S m m.place

-- whether the place is one of a scan, where a run sees the known cells with the writes of the batch
-- so far
abbrev pub is_scanning : Place → Bool
is_scanning LoadOwnTicket = true
is_scanning LoadAnnouncement = true
is_scanning LoadTicket = true
is_scanning (LoadScript j) = true
is_scanning (LoadCell a) = true
is_scanning p = false

-- whether the place is `TryCell`, where a try runs its operation; a run sees the known cells there
-- as they were loaded, with no writes of a batch
abbrev pub is_reading : Place → Bool
is_reading (TryCell a) = true
is_reading p = false

-- the list is empty and has room for this many items
abbrev pub IsEmptyWithRoom : {A G : Type 0} → ℕ → Vec A G → Type 0
IsEmptyWithRoom n v = (v.items ≡ []) × (n ≤ vec_capacity v)

-- the room that the machine's lists have, and the writes that a run sees over the known cells:
-- those of the log in a scan, and none in a try
pub record HasRoomInParts (S : Setup) (m : CallState) (logs words scripts copies runs : ℕ)
    (batch script : List (ℕ × ℕ)) : Type 0 where
  pub log : logs ≡ S.cells
  pub op : S.instrs ≤ words
  pub scripts_in : S.instrs ≤ scripts
  pub copy : 2 * most_entries S + 1 ≤ copies
  pub calls : S.callers ≤ runs
  pub scanning : is_scanning m.place ≡ true → batch ≡ m.log
  pub reading : is_reading m.place ≡ true → batch ≡ []
  pub empty : script ≡ []
