-- A caller whose machine is lost with its process, and the new machine that takes the lost one's
-- place.
use Rattle.std.specs.Prelude.{◌≡◌, ℕ, Option, Some, None}
use Rattle.of_row.specs.declared.member.NotRevived.{NotRevived}
use Rattle.of_row.specs.declared.member.NotRevived.TheVariants.{NotYet, AtLimit, OutOfMemory}
use Rattle.of_memory.specs.declared.handle.Handle.{Handle}
use Rattle.of_memory.specs.declared.lost.LostHandle.{LostHandle}
use Rattle.of_memory.specs.declared.memory.Memory.{Memory as TheMemory}
use Rattle.of_memory.specs.Handles.{calls_begun}
use Rattle.of_memory.specs.Lost.{calls_stepped_by, calls_begun_by_lost, GivesUp, IsRevived}
use Rattle.of_memory.specs.Lost.{StaysLost, IsReviveCause, EvictsRequest, EvictsNone}
use Rattle.of_c.specs.declared.codes.TheConstants.{NO_MEMORY, NOT_YET, SPENT}
use Rattle.of_c.specs.declared.held.Held.{Held}
use Rattle.of_c.specs.declared.held.Held.TheVariants.{Nothing, Memory, Caller, Lost, Saved}
use Rattle.of_c.specs.Slots.{HoldsHandle, HoldsMemory}

-- a caller is held, and its number has begun this many calls
pub record TellsBegun (held : Option Held) (begun : ℕ) : Type 0 where
  pub handle : Handle
  pub is : HoldsHandle held handle
  pub begun_is : begun ≡ calls_begun handle

-- the memory that is held has evicted the request of caller n; if it has no such caller, it is as it
-- was
pub record IsHeldEvicted (n : ℕ) (before now : Option Held) : Type 0 where
  pub memory : TheMemory
  pub was : HoldsMemory before memory
  pub next : TheMemory
  pub is : HoldsMemory now next
  pub evicted : EvictsRequest n memory next
  pub same : EvictsNone n memory next

-- if a caller is held, with a machine or without, its number has made a step of this many calls
abbrev pub HasSteppedBy : Held → (made : ℕ) → Type 0
HasSteppedBy Nothing made = Unit {0}
HasSteppedBy (Memory m) made = Unit {0}
HasSteppedBy (Caller s) made = made ≡ calls_stepped_by s.handle
HasSteppedBy (Lost v) made = made ≡ calls_begun_by_lost v.lost
HasSteppedBy (Saved d) made = Unit {0}

-- the same of a slot, which may be empty
abbrev pub HoldsSteppedBy : Option Held → (made : ℕ) → Type 0
HoldsSteppedBy None made = Unit {0}
HoldsSteppedBy (Some h) made = HasSteppedBy h made

-- what is held is this lost handle, or a caller that is this lost handle once it gives its machine
-- up
abbrev pub IsLostAs : Held → LostHandle → Type 0
IsLostAs Nothing g = ⊥
IsLostAs (Memory m) g = ⊥
IsLostAs (Caller s) g = GivesUp s.handle g
IsLostAs (Lost v) g = v.lost ≡ g
IsLostAs (Saved d) g = ⊥

-- the same of a slot
abbrev pub HoldsLostAs : Option Held → LostHandle → Type 0
HoldsLostAs None g = ⊥
HoldsLostAs (Some h) g = IsLostAs h g

-- the caller is held, with a new machine
pub record IsHeldRevived (before now : Option Held) : Type 0 where
  pub lost : LostHandle
  pub was : HoldsLostAs before lost
  pub handle : Handle
  pub is : HoldsHandle now handle
  pub revived : IsRevived lost handle

-- the code for the reason why there is no new machine
abbrev pub code_of_reason : NotRevived → ℕ
code_of_reason (NotYet reason) = NOT_YET
code_of_reason AtLimit = SPENT
code_of_reason (OutOfMemory error) = NO_MEMORY

-- what is held is this lost handle
abbrev pub HasLostHandle : Held → LostHandle → Type 0
HasLostHandle Nothing g = ⊥
HasLostHandle (Memory m) g = ⊥
HasLostHandle (Caller s) g = ⊥
HasLostHandle (Lost v) g = v.lost ≡ g
HasLostHandle (Saved d) g = ⊥

-- the same of a slot
abbrev pub HoldsLostHandle : Option Held → LostHandle → Type 0
HoldsLostHandle None g = ⊥
HoldsLostHandle (Some h) g = HasLostHandle h g

-- the caller is held without a machine, and the code says why
pub record IsHeldLost (before now : Option Held) (code : ℕ) : Type 0 where
  pub lost : LostHandle
  pub was : HoldsLostAs before lost
  pub next : LostHandle
  pub is : HoldsLostHandle now next
  pub stays : StaysLost lost next
  pub reason : NotRevived
  pub cause : IsReviveCause lost next reason
  pub code_is : code ≡ code_of_reason reason
