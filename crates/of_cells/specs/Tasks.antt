-- Tasks that work at once, each with a handle of its own.
use Rattle.std.specs.Prelude.{◌≡◌, ℕ, ◌+◌, ◌<◌, ◌≤◌, ◌⊎◌, List, Option, None, Some, length, get_or}
use Rattle.of_mem.specs.Meaning.{Meaning}
use Rattle.of_row.specs.Views.{EndedCall}
use Rattle.of_caller.specs.declared.caller.Caller.{Caller}
use Rattle.of_cells.specs.declared.error.EnrolError.{EnrolError}
use Rattle.of_cells.specs.declared.error.EnrolError.TheVariants.{OutOfMemory, NoCaller, Enrolled}
use Rattle.of_cells.specs.declared.memory.CellMemory.{CellMemory}
use Rattle.of_cells.specs.declared.handle.CellHandle.{CellHandle}
use Rattle.of_cells.specs.Serving.{KnowsMore}
use Rattle.of_cells.specs.Handles.{IsCellHandle, HasOpen, IsSame, caller_of, made_by, number_of_handle}
use Rattle.of_cells.specs.Memories.{HasMadeOf, HasOpenOf, HasOrderOf, IsFrom, RemembersAll, callers_of}
use Rattle.of_cells.specs.Telling.{KnowsOrdersOf, LeavesOrder, HearsMemory, TellsMemory}

-- the caller of the handle's number is in the memory, with exactly the calls that the handle has,
-- ended and open
pub record KnowsHandle {W : Type 0} (m : CellMemory W) (h : CellHandle W) : Type 0 where
  pub made : HasMadeOf m (number_of_handle h) (made_by h)
  pub only : (es : List EndedCall) → HasMadeOf m (number_of_handle h) es → made_by h ≡ es
  pub open_call : (op : List ℕ) → HasOpen h op → HasOpenOf m (number_of_handle h) op
  pub only_open : (op : List ℕ) → HasOpenOf m (number_of_handle h) op → HasOpen h op

-- of number n the memory knows exactly the ended calls and the open call that it knew before
pub record KnowsSame {W : Type 0} (n : ℕ) (m k : CellMemory W) : Type 0 where
  pub made : (es : List EndedCall) → HasMadeOf m n es → HasMadeOf k n es
  pub only : (es : List EndedCall) → HasMadeOf k n es → HasMadeOf m n es
  pub open_call : (op : List ℕ) → HasOpenOf m n op → HasOpenOf k n op
  pub only_open : (op : List ℕ) → HasOpenOf k n op → HasOpenOf m n op

-- of each number from `from` on the memory knows exactly the calls that it knew before
abbrev pub KnowsRest : {W : Type 0} → (from : ℕ) → (before now : CellMemory W) → Type 0
KnowsRest from m k = (n : ℕ) → from ≤ n → KnowsSame n m k

-- for each number from `from` on: if the number's caller in the memory knew that some calls had
-- ended before another call began, it still knows this
abbrev pub RestKnowsOrder : {W : Type 0} → (W → Meaning) → (from : ℕ)
    → (before now : CellMemory W) → Type 0
RestKnowsOrder meaning from m l =
    (j : ℕ) → from ≤ j → (n x k y : ℕ) → HasOrderOf meaning m j n x k y
    → HasOrderOf meaning l j n x k y

-- what a task promises of its work: a relation of the task and the handle before the work, and of
-- the task and the handle after it
abbrev pub TaskWork : Type 0 → Type 0 → Type 1
TaskWork W J = J → CellHandle W → J → CellHandle W → Type 0

-- the task can work with each handle of a memory
abbrev pub TakesAny : {W : Type 0} → (W → Meaning) → (May : CellHandle W → Type 0) → Type 0
TakesAny {W} meaning May = (h : CellHandle W) → IsCellHandle meaning h → May h

-- the handle that a task gives back is of the same memory, and has the same number, as the one it
-- was given
abbrev pub GivesBack : {W J : Type 0} → (W → Meaning) → TaskWork W J → Type 0
GivesBack {W} {J} meaning Does =
    (t u : J) (h k : CellHandle W) → IsCellHandle meaning h → Does t h u k
    → IsCellHandle meaning k × IsSame h k

-- a handle with its task, or nothing
abbrev pub Slot : Type 0 → Type 0 → Type 0
Slot W J = Option (CellHandle W × J)

-- a task has worked with its handle, and gives back a handle of the same memory and number
pub record HasWorked {W J : Type 0} (meaning : W → Meaning) (Does : TaskWork W J)
    (p q : CellHandle W × J) : Type 0 where
  pub handle : IsCellHandle meaning q.0
  pub same : IsSame p.0 q.0
  pub done : Does p.1 p.0 q.1 q.0

-- A task has worked with the handle of this number. The handle knew what the memory knew of the
-- number before, and had heard of all calls that the memory knew to have ended. The memory knows
-- what the handle knew when it left, and has heard of all calls of the handle.
pub record HasWorkedAs {W J : Type 0} (meaning : W → Meaning) (Does : TaskWork W J) (n : ℕ)
    (m k : CellMemory W) (x y : J) : Type 0 where
  pub begun : CellHandle W
  pub number : number_of_handle begun ≡ n
  pub from : IsFrom m begun
  pub handle : IsCellHandle meaning begun
  pub knew : KnowsHandle m begun
  pub knew_order : KnowsOrdersOf meaning m begun
  pub heard : HearsMemory meaning m begun
  pub left : CellHandle W
  pub worked : HasWorked meaning Does (begun, x) (left, y)
  pub knows : KnowsHandle k left
  pub order : LeavesOrder meaning left k
  pub told : TellsMemory meaning left k

-- each task has worked with the handle whose number is the index of the task in the list
pub record HaveWorked {W J : Type 0} (meaning : W → Meaning) (Does : TaskWork W J)
    (m k : CellMemory W) (xs ys : List J) : Type 0 where
  pub count : length ys ≡ length xs
  pub each : (n : ℕ) (d : J) → n < length xs
      → HasWorkedAs meaning Does n m k (get_or xs n d) (get_or ys n d)

-- why no task has worked: memory ran out, there are more tasks than callers, or a handle with the
-- number of a task is out
abbrev pub IsTaskCause : {W : Type 0} → CellMemory W → (count : ℕ) → EnrolError → Type 0
IsTaskCause m count (OutOfMemory e) = Unit {0}
IsTaskCause m count (NoCaller n) = (n ≡ callers_of m) × (n < count)
IsTaskCause m count (Enrolled n) = (n < count) × (get_or m.callers.items n None ≡ None)

-- ---- a task works

-- if the slot holds a handle, it is one of some memory
abbrev pub MayWork : {W J : Type 0} → (W → Meaning) → Slot W J → Type 0
MayWork {W} {J} meaning s = (p : CellHandle W × J) → s ≡ Some p → IsCellHandle meaning p.0

-- each handle in these slots is one of some memory
abbrev pub MayAllWork : {W J : Type 0} → (W → Meaning) → List (Slot W J) → Type 0
MayAllWork {W} {J} meaning ss =
    (i : ℕ) (s : Slot W J) → i < length ss → s ≡ get_or ss i s → MayWork meaning s

-- the task in the slot has worked with its handle, and both are still in the slot
abbrev pub WorksOn : {W J : Type 0} → (W → Meaning) → TaskWork W J → (before now : Slot W J)
    → Type 0
WorksOn {W} {J} meaning Does s t =
    (p : CellHandle W × J) → s ≡ Some p
    → (q : CellHandle W × J) × (t ≡ Some q) × HasWorked meaning Does p q

-- the task in each slot has worked with its handle, and both are still in the slot
abbrev pub AllWorkOn : {W J : Type 0} → (W → Meaning) → TaskWork W J
    → (before now : List (Slot W J)) → Type 0
AllWorkOn {W} {J} meaning Does ss ts =
    (i : ℕ) (d : Slot W J) → i < length ss
    → WorksOn meaning Does (get_or ss i d) (get_or ts i d)

-- ---- how handles are handed out and taken back

-- the memory had a caller of the handle's number, with the calls that the handle has
pub record WasIn {W : Type 0} (m : CellMemory W) (h : CellHandle W) : Type 0 where
  pub caller : Caller W
  pub here : get_or m.callers.items (number_of_handle h) None ≡ Some caller
  pub same : KnowsMore caller (caller_of h)

-- the memory has a caller of the handle's number, with the calls that the handle had
pub record IsBackIn {W : Type 0} (m : CellMemory W) (h : CellHandle W) : Type 0 where
  pub caller : Caller W
  pub here : get_or m.callers.items (number_of_handle h) None ≡ Some caller
  pub same : KnowsMore (caller_of h) caller

-- the handle of this pair was handed out for the pair's task, and the handle's number is the index
-- of this task in the list; the pair with the last task comes first
pub record IsHandedOut {W J : Type 0} (meaning : W → Meaning) (m : CellMemory W) (xs : List J)
    (i : ℕ) (p : CellHandle W × J) : Type 0 where
  pub place : number_of_handle p.0 + i + 1 ≡ length xs
  pub task : (d : J) → get_or xs (number_of_handle p.0) d ≡ p.1
  pub handle : IsCellHandle meaning p.0
  pub from : IsFrom m p.0
  pub was : WasIn m p.0
  pub heard : HearsMemory meaning m p.0

-- Handles were handed out for the last tasks of xs, and each is in a pair with its task. The tasks
-- `left` are the first tasks of xs, for which no handle was handed out. All other callers are in
-- the memory as before, and the memory still knows of each ended call that it knew of.
pub record HasHandedOut {W J : Type 0} (meaning : W → Meaning) (m k : CellMemory W)
    (xs left : List J) (ss : List (Slot W J)) : Type 0 where
  pub count : length left + length ss ≡ length xs
  pub first : (i : ℕ) (d : J) → i < length left → get_or left i d ≡ get_or xs i d
  pub pairs : (i : ℕ) → i < length ss
      → (p : CellHandle W × J) × (get_or ss i None ≡ Some p) × IsHandedOut meaning m xs i p
  pub rest : (i : ℕ) → (i < length left) ⊎ (length xs ≤ i)
      → get_or k.callers.items i None ≡ get_or m.callers.items i None
  pub remembers : RemembersAll meaning m k

-- the handle of pair i is one of this memory, and its number is the index of the pair's task, if
-- there are `count` tasks and pair 0 has the last one
pub record MayLeave {W J : Type 0} (meaning : W → Meaning) (m : CellMemory W) (count i : ℕ)
    (p : CellHandle W × J) : Type 0 where
  pub place : number_of_handle p.0 + i + 1 ≡ count
  pub handle : IsCellHandle meaning p.0
  pub from : IsFrom m p.0

-- each slot has a pair whose handle may leave (`MayLeave`), if there are `first` tasks before those
-- of the pairs
abbrev pub MayAllLeave : {W J : Type 0} → (W → Meaning) → CellMemory W → (first : ℕ)
    → List (Slot W J) → Type 0
MayAllLeave {W} {J} meaning m first ss =
    (i : ℕ) → i < length ss
    → (p : CellHandle W × J) × (get_or ss i None ≡ Some p)
    × MayLeave meaning m (first + length ss) i p

-- the handle of this pair has left, its task is in zs at the index that is the handle's number, and
-- the memory knows of all calls that the handle knew of
pub record HasLeft {W J : Type 0} (meaning : W → Meaning) (k : CellMemory W) (zs : List J)
    (p : CellHandle W × J) : Type 0 where
  pub task : (d : J) → get_or zs (number_of_handle p.0) d ≡ p.1
  pub known : IsBackIn k p.0
  pub told : TellsMemory meaning p.0 k

-- For each pair in ss from index `from` on: the pair's handle has left, and its task is in zs at
-- the index that is the handle's number. The list zs begins with the tasks xs. The callers of the
-- numbers below `length xs`, and from `length xs + length ss` on, are in the memory as before. The
-- memory still knows of each ended call that it knew of.
pub record HasTakenBack {W J : Type 0} (meaning : W → Meaning) (m k : CellMemory W) (xs zs : List J)
    (from : ℕ) (ss : List (Slot W J)) : Type 0 where
  pub count : length zs + from ≡ length xs + length ss
  pub low : from ≤ length ss
  pub first : (i : ℕ) (d : J) → i < length xs → get_or zs i d ≡ get_or xs i d
  pub pairs : (i : ℕ) → from ≤ i → i < length ss
      → (p : CellHandle W × J) × (get_or ss i None ≡ Some p) × HasLeft meaning k zs p
  pub rest : (i : ℕ) → (i < length xs) ⊎ (length xs + length ss ≤ i)
      → get_or k.callers.items i None ≡ get_or m.callers.items i None
  pub remembers : RemembersAll meaning m k
