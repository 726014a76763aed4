-- What a slot holds.
use Rattle.std.specs.Prelude.{◌≡◌, Option, Some, None}
use Rattle.of_memory.specs.declared.memory.Memory.{Memory as TheMemory}
use Rattle.of_memory.specs.declared.handle.Handle.{Handle}
use Rattle.of_memory.specs.declared.saved.Saved.{Saved as TheSaved}
use Rattle.of_memory.specs.Memories.{IsFrom}
use Rattle.of_c.specs.declared.held.Held.{Held}
use Rattle.of_c.specs.declared.held.Held.TheVariants.{Nothing, Memory, Caller, Lost, Saved}

-- what is held is this memory
abbrev pub HasMemory : Held → TheMemory → Type 0
HasMemory Nothing m = ⊥
HasMemory (Memory h) m = h.memory ≡ m
HasMemory (Caller s) m = ⊥
HasMemory (Lost v) m = ⊥
HasMemory (Saved d) m = ⊥

-- what is held is a caller with this handle
abbrev pub HasHandle : Held → Handle → Type 0
HasHandle Nothing k = ⊥
HasHandle (Memory m) k = ⊥
HasHandle (Caller s) k = s.handle ≡ k
HasHandle (Lost v) k = ⊥
HasHandle (Saved d) k = ⊥

-- what is held is `s`, which a memory has left
abbrev pub HasSaved : Held → TheSaved → Type 0
HasSaved Nothing s = ⊥
HasSaved (Memory m) s = ⊥
HasSaved (Caller c) s = ⊥
HasSaved (Lost v) s = ⊥
HasSaved (Saved d) s = d.saved ≡ s

-- the slot holds this memory
abbrev pub HoldsMemory : Option Held → TheMemory → Type 0
HoldsMemory None m = ⊥
HoldsMemory (Some h) m = HasMemory h m

-- the slot holds a caller with this handle
abbrev pub HoldsHandle : Option Held → Handle → Type 0
HoldsHandle None k = ⊥
HoldsHandle (Some h) k = HasHandle h k

-- the slot holds `s`, which a memory has left
abbrev pub HoldsSaved : Option Held → TheSaved → Type 0
HoldsSaved None s = ⊥
HoldsSaved (Some h) s = HasSaved h s

-- if the first slot holds a memory and the second a caller, the caller is one of this memory
abbrev pub AreOfOne : Option Held → Option Held → Type 0
AreOfOne x y = (m : TheMemory) (k : Handle) → HoldsMemory x m → HoldsHandle y k → IsFrom m k
