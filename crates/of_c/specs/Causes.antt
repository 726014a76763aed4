-- Which code a call from C answers, and why. A call that allocates may run out of memory.
use Rattle.std.specs.Prelude.{◌≡◌, ◌≢◌, ◌⊎◌, ℕ, ◌<◌, ◌≤◌, List, [], ◌∷◌, Option, Some, None, length}
use Rattle.std.proofs.Common.{get_or}
use Rattle.of_cell.specs.declared.word.TheConstants.{GREATEST_LIMIT}
use Rattle.of_mem.specs.declared.work.TheConstants.{MOST_CALLERS}
use Rattle.of_mem.specs.declared.plot.TheConstants.{MOST_BLOCKS}
use Rattle.of_memory.specs.declared.memory.Memory.{Memory as TheMemory}
use Rattle.of_memory.specs.declared.saved.Saved.{Saved as TheSaved}
use Rattle.of_memory.specs.declared.error.WordsError.{WordsError}
use Rattle.of_memory.specs.declared.error.WordsError.TheVariants.{OutOfMemory, Callers, Blocks, Limit, Count, Unlawful, PastLimit}
use Rattle.of_memory.specs.Memories.{IsStill, TakesNone, RemembersAll, HasOrderOf, callers_of}
use Rattle.of_memory.specs.Saving.{saved_callers}
use Rattle.of_memory.specs.Tasks.{KnowsSame}
use Rattle.of_memory.specs.Texts.{IsNoLimitOf}
use Rattle.of_memory.specs.Words.{IsFaultIn, IsPastLimit, durable_count}
use Rattle.of_c.specs.declared.codes.TheConstants.{EMPTY, NO_MEMORY, NO_START, RANGE}
use Rattle.of_c.specs.declared.held.Held.{Held}
use Rattle.of_c.specs.declared.held.Held.TheVariants.{Nothing, Memory, Caller, Lost, Saved}
use Rattle.of_c.specs.Slots.{HoldsMemory, HoldsSaved}

-- the code is one of these
abbrev pub IsOneCode : List ℕ → (code : ℕ) → Type 0
IsOneCode [] code = ⊥
IsOneCode (c ∷ cs) code = (code ≡ c) ⊎ IsOneCode cs code

-- ---- what isn't held

abbrev pub IsNotMemory : Held → Type 0
IsNotMemory Nothing = Unit {0}
IsNotMemory (Memory m) = ⊥
IsNotMemory (Caller s) = Unit {0}
IsNotMemory (Lost v) = Unit {0}
IsNotMemory (Saved d) = Unit {0}

abbrev pub IsNotCaller : Held → Type 0
IsNotCaller Nothing = Unit {0}
IsNotCaller (Memory m) = Unit {0}
IsNotCaller (Caller s) = ⊥
IsNotCaller (Lost v) = Unit {0}
IsNotCaller (Saved d) = Unit {0}

abbrev pub IsNotSaved : Held → Type 0
IsNotSaved Nothing = Unit {0}
IsNotSaved (Memory m) = Unit {0}
IsNotSaved (Caller s) = Unit {0}
IsNotSaved (Lost v) = Unit {0}
IsNotSaved (Saved d) = ⊥

-- neither a caller is held, nor one without a machine
abbrev pub IsNotEnrolled : Held → Type 0
IsNotEnrolled Nothing = Unit {0}
IsNotEnrolled (Memory m) = Unit {0}
IsNotEnrolled (Caller s) = ⊥
IsNotEnrolled (Lost v) = ⊥
IsNotEnrolled (Saved d) = Unit {0}

-- the slot is empty, or what it holds is not of the kind that is wanted
abbrev pub HoldsNo : (Held → Type 0) → Option Held → Type 0
HoldsNo HasNone None = Unit {0}
HoldsNo HasNone (Some h) = HasNone h

-- ---- of memories

-- the number of callers, the number of blocks or the limit is out of its range
abbrev pub AreOutOfRange : (callers blocks limit : ℕ) → Type 0
AreOutOfRange callers blocks limit =
    ((callers ≡ 0) ⊎ (MOST_CALLERS < callers))
    ⊎ ((MOST_BLOCKS < blocks) ⊎ ((limit ≡ 0) ⊎ (GREATEST_LIMIT < limit)))

-- a memory is held, and P holds of it
pub record HoldsMemoryWith (P : TheMemory → Type 0) (held : Option Held) : Type 0 where
  pub memory : TheMemory
  pub is : HoldsMemory held memory
  pub so : P memory

-- the memory has no caller with this number
abbrev pub HasNoNumber : ℕ → TheMemory → Type 0
HasNoNumber n m = callers_of m ≤ n

-- a caller with this number is enrolled, so it is not in the memory
abbrev pub IsEnrolled : ℕ → TheMemory → Type 0
IsEnrolled n m = get_or m.cells.callers.items n None ≡ None

-- the memory is still the same: it has the same callers in it, knows of each number exactly the
-- ended calls and the open call that it knew, and forgets no ended call and no order of calls
pub record KnowsAll (m k : TheMemory) : Type 0 where
  pub still : IsStill m k
  pub none : TakesNone m k
  pub knows : (n : ℕ) → KnowsSame n m k
  pub orders : (j n x i y : ℕ) → HasOrderOf m j n x i y → HasOrderOf k j n x i y
  pub remembers : RemembersAll m k

-- what was held is still held: a memory still knows all that it knew, and anything else is
-- unchanged
abbrev pub KeepsHeld : (before now : Held) → Type 0
KeepsHeld (Memory h) now = HoldsMemoryWith (KnowsAll h.memory) (Some now)
KeepsHeld Nothing now = now ≡ Nothing
KeepsHeld (Caller s) now = now ≡ Caller s
KeepsHeld (Lost v) now = now ≡ Lost v
KeepsHeld (Saved d) now = now ≡ Saved d

-- the slot holds what it held: a memory still knows all that it knew, and anything else is
-- unchanged
abbrev pub KeepsSlot : (before now : Option Held) → Type 0
KeepsSlot None now = now ≡ None
KeepsSlot (Some h) None = ⊥
KeepsSlot (Some h) (Some k) = KeepsHeld h k

-- ---- of what a memory has left

-- something is held that a memory has left, and P holds of it
pub record HoldsSavedWith (P : TheSaved → Type 0) (held : Option Held) : Type 0 where
  pub left : TheSaved
  pub is : HoldsSaved held left
  pub so : P left

-- what a memory has left has no caller of this number
abbrev pub HasNoTicketOf : ℕ → TheSaved → Type 0
HasNoTicketOf n d = saved_callers d ≤ n

-- what a memory has left can't have this limit
abbrev pub RefusesLimit : ℕ → TheSaved → Type 0
RefusesLimit limit d = IsNoLimitOf d limit

-- nothing was read: the slot holds nothing that a memory has left, or the call was out of memory
abbrev pub IsUnread : Option Held → (code : ℕ) → Type 0
IsUnread held code = ((code ≡ EMPTY) × HoldsNo IsNotSaved held) ⊎ (code ≡ NO_MEMORY)

-- ---- of words

-- a count or the limit is out of its range, there are not as many words as such a memory has, or
-- the limit is below the sequence that the words hold
abbrev pub AreOutOfWords : (callers blocks limit : ℕ) → List ℕ → Type 0
AreOutOfWords callers blocks limit words =
    AreOutOfRange callers blocks limit
    ⊎ ((length words ≢ durable_count callers blocks)
    ⊎ ((seq : ℕ) × IsPastLimit limit words seq))

-- a cell is at fault in what recovery finds in the words
abbrev pub HasCellAtFault : (callers blocks : ℕ) → List ℕ → Type 0
HasCellAtFault callers blocks words = (cell : ℕ) × IsFaultIn callers blocks words cell

-- the code for the reason why nothing is found in durable words
abbrev pub words_code : WordsError → ℕ
words_code OutOfMemory = NO_MEMORY
words_code (Callers k) = RANGE
words_code (Blocks k) = RANGE
words_code (Limit k) = RANGE
words_code (Count k) = RANGE
words_code (Unlawful cell) = NO_START
words_code (PastLimit seq) = RANGE
