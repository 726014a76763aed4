-- A handle whose machine is lost: the calls of its number, and what becomes of them if a new machine
-- takes the lost one's place.
use Rattle.std.specs.Prelude.{◌≡◌, ◌≤◌, ◌<◌, ◌+◌, ◌⊎◌, ◌↔◌, ℕ, List, [], ◌∷◌, ◌++◌, length, IsTrue}
use Rattle.std.specs.Arc.{arc_value}
use mathlib.Core.List.{IsPrefix}
use Rattle.of_cell.specs.Cells.{request_cell}
use Rattle.of_mem.specs.Meaning.{Meaning}
use Rattle.of_core.specs.declared.place.Outcome.TheVariants.{Lost}
use Rattle.of_core.specs.Table.{Setup}
use Rattle.of_core.specs.Machine.{IsOpen, is_idle}
use Rattle.of_core.specs.Remains.{remains_of, announces_open_call}
use Rattle.of_core.specs.Events.{Event}
use Rattle.of_row.specs.declared.row.Row.{Row}
use Rattle.of_row.specs.declared.member.Member.{Member}
use Rattle.of_row.specs.declared.member.NotRevived.{NotRevived}
use Rattle.of_row.specs.declared.member.NotRevived.TheVariants.{NotYet, AtLimit, OutOfMemory}
use Rattle.of_row.specs.Views.{EndedCall, KnownCaller}
use Rattle.of_row.specs.Rule.{open_call_count}
use Rattle.of_row.specs.Rows.{setup_at, row_start, IsRowMember, view_of_member, number_of_member, calls_of_member, caller_kept_by}
use Rattle.of_row.specs.Passes.{HasEvicted}
use Rattle.of_row.specs.Replacing.{WasSoBetween, MayNotRevive, IsAtLimit}
use Rattle.of_caller.specs.Callers.{member_of}
use Rattle.of_cells.specs.declared.handle.CellHandle.{CellHandle}
use Rattle.of_cells.specs.declared.memory.CellMemory.{CellMemory}
use Rattle.of_cells.specs.declared.lost.LostHandle.{LostHandle}
use Rattle.of_cells.specs.Times.{calls_ended_in}
use Rattle.of_cells.specs.Sequences.{seq_known_to}
use Rattle.of_cells.specs.Memories.{callers_of}
use Rattle.of_cells.specs.Serving.{HasStartedIfOpen, made_before, events_known_to}
use Rattle.of_cells.specs.Handles.{home_of, number_of_handle, caller_of, made_by, HasCallOpen, HasOpen, last_operation_of, steps_so_far}

-- the row of the lost handle's memory
abbrev pub lost_home : {W : Type 0} → LostHandle W → Row W
lost_home h = arc_value h.row

-- the lost handle's number
abbrev pub number_of_lost : {W : Type 0} → LostHandle W → ℕ
number_of_lost h = h.number

-- what is kept of the number's calls
abbrev pub kept_by_lost : {W : Type 0} → LostHandle W → KnownCaller
kept_by_lost h = caller_kept_by h.member

-- the calls of the number that have ended since the memory was opened, in order
abbrev pub made_by_lost : {W : Type 0} → LostHandle W → List EndedCall
made_by_lost h = (kept_by_lost h).ended

-- how many calls of the number have made a step, those before its memory was opened included
abbrev pub calls_begun_by_lost : {W : Type 0} → LostHandle W → ℕ
calls_begun_by_lost h = calls_of_member h.member

-- how many calls of the handle's number have made a step, those before its memory was opened
-- included
abbrev pub calls_stepped_by : {W : Type 0} → CellHandle W → ℕ
calls_stepped_by h = calls_of_member (member_of (caller_of h))

-- the lost machine had an open call, of any operation
abbrev pub HasLostCall : {W : Type 0} → LostHandle W → Type 0
HasLostCall h = IsOpen (kept_by_lost h).machine.place

-- the operation of the lost machine's open call, or of its last call if none was open
abbrev pub operation_lost : {W : Type 0} → LostHandle W → List ℕ
operation_lost h = (kept_by_lost h).machine.op

-- the last sequence that the lost handle knows
abbrev pub seq_known_to_lost : {W : Type 0} → LostHandle W → ℕ
seq_known_to_lost h = h.seq

-- the events of the row that the lost handle knows
abbrev pub events_known_to_lost : {W : Type 0} → LostHandle W → List Event
events_known_to_lost h = (view_of_member h.member).past

-- The member serves the row with this number: it counts its calls, knows that as many of them have
-- ended as it keeps, and an open call that it keeps has made a step.
pub record ServesLost {W : Type 0} (meaning : W → Meaning) (r : Row W) (n : ℕ) (p : Member)
    : Type 0 where
  pub row : IsRowMember r p
  pub number : number_of_member p ≡ n
  pub counts : calls_of_member p
      ≡ made_before meaning r n + length (caller_kept_by p).ended
      + open_call_count (is_idle (caller_kept_by p).machine.place)
  pub told : length (caller_kept_by p).ended
      ≤ calls_ended_in (setup_at meaning r) (row_start meaning r) (view_of_member p).past n
  pub started : HasStartedIfOpen (caller_kept_by p)

-- the lost handle is one of some memory: its member serves the memory's row with its number
abbrev pub IsLostHandle : {W : Type 0} → (W → Meaning) → LostHandle W → Type 0
IsLostHandle meaning h = ServesLost meaning (lost_home h) (number_of_lost h) h.member

-- The handle h has given up its machine, and is the lost handle g now. Its calls are as they were,
-- but for an open call that had made no step: of this one nothing is left.
pub record GivesUp {W : Type 0} (h : CellHandle W) (g : LostHandle W) : Type 0 where
  pub home : lost_home g ≡ home_of h
  pub number : number_of_lost g ≡ number_of_handle h
  pub made : made_by_lost g ≡ made_by h
  pub open_call : HasCallOpen h → (steps_so_far h ≡ 0 → ⊥) → HasLostCall g
  pub only : HasLostCall g → HasOpen h (operation_lost g)
  pub begun : calls_begun_by_lost g ≡ calls_stepped_by h
  pub seq : seq_known_to_lost g ≡ seq_known_to h
  pub past : events_known_to_lost g ≡ events_known_to (caller_of h)

-- What a new machine leaves of calls. If none was open, none is, and no call is added to the ended
-- ones. An open call goes on, with the same operation, or it is added to the ended ones as lost.
pub record CallsGoOn (was_open : Type 0) (op : List ℕ) (before : List EndedCall) (now_open : Type 0)
    (now_op : List ℕ) (now : List EndedCall) : Type 0 where
  pub none : (was_open → ⊥) → (now_open → ⊥) × (now ≡ before)
  pub some : was_open
      → (now_open × (now_op ≡ op) × (now ≡ before))
      ⊎ ((now_open → ⊥)
      × ((s : ℕ) × (now ≡ before ++ record { op = op; outcome = Lost s } ∷ [])))

-- the table's words say that the call which caller i has announced is open: it is newer than the
-- call in the caller's ticket cell
abbrev pub AnnouncesOpenCall : Setup → (i : ℕ) → List ℕ → Type 0
AnnouncesOpenCall S i ws = IsTrue (announces_open_call (remains_of S ws i))

-- the new handle has an open call exactly if at some moment meanwhile the words said so
abbrev pub OpensIfAnnounced : {W : Type 0} → (W → Meaning) → LostHandle W → CellHandle W → Type 0
OpensIfAnnounced meaning g h =
    WasSoBetween (setup_at meaning (lost_home g)) (row_start meaning (lost_home g))
    (view_of_member g.member) (view_of_member (member_of (caller_of h)))
    (λ ws. HasCallOpen h
    ↔ AnnouncesOpenCall (setup_at meaning (lost_home g)) (number_of_lost g) ws)

-- the lost handle g has a new machine, and is the handle h now, which knows at least as much
pub record IsRevived {W : Type 0} (meaning : W → Meaning) (g : LostHandle W) (h : CellHandle W)
    : Type 0 where
  pub home : home_of h ≡ lost_home g
  pub number : number_of_handle h ≡ number_of_lost g
  pub seq : seq_known_to h ≡ seq_known_to_lost g
  pub open_if : OpensIfAnnounced meaning g h
  pub calls : CallsGoOn (HasLostCall g) (operation_lost g) (made_by_lost g)
      (HasCallOpen h) (last_operation_of h) (made_by h)
  pub past : IsPrefix (events_known_to_lost g) (events_known_to (caller_of h))

-- The lost handle g has got no machine, and is k now, which knows at least as much. Its calls are as
-- they were, or a new machine had taken the lost one's place and is lost too.
pub record StaysLost {W : Type 0} (g k : LostHandle W) : Type 0 where
  pub home : lost_home k ≡ lost_home g
  pub number : number_of_lost k ≡ number_of_lost g
  pub begun : calls_begun_by_lost k ≡ calls_begun_by_lost g
  pub seq : seq_known_to_lost k ≡ seq_known_to_lost g
  pub calls : CallsGoOn (HasLostCall g) (operation_lost g) (made_by_lost g)
      (HasLostCall k) (operation_lost k) (made_by_lost k)
  pub past : IsPrefix (events_known_to_lost g) (events_known_to_lost k)

-- Why the lost handle g, which is k now, has got no machine. `NotYet` comes only if at some moment
-- meanwhile the words did not allow a new machine, and `AtLimit` only if the sequence has come to
-- the limit. Memory may run out at any time.
abbrev pub IsReviveCause : {W : Type 0} → (W → Meaning) → (before now : LostHandle W) → NotRevived
    → Type 0
IsReviveCause meaning g k (NotYet reason) =
    WasSoBetween (setup_at meaning (lost_home g)) (row_start meaning (lost_home g))
    (view_of_member g.member) (view_of_member k.member)
    (MayNotRevive (setup_at meaning (lost_home g)) (number_of_lost g))
IsReviveCause meaning g k AtLimit =
    WasSoBetween (setup_at meaning (lost_home g)) (row_start meaning (lost_home g))
    (view_of_member g.member) (view_of_member k.member) (IsAtLimit (setup_at meaning (lost_home g)))
IsReviveCause meaning g k (OutOfMemory error) = Unit {0}

-- the memory has evicted the request of caller n, if it has this caller
abbrev pub EvictsRequest : {W : Type 0} → (n : ℕ) → (before now : CellMemory W) → Type 0
EvictsRequest n m k = n < callers_of m → HasEvicted (request_cell n) m.pass k.pass

-- if the memory has no caller n, it is as it was
abbrev pub EvictsNone : {W : Type 0} → (n : ℕ) → (before now : CellMemory W) → Type 0
EvictsNone n m k = callers_of m ≤ n → k ≡ m
