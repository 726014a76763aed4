-- What the calls of a queue do to the store for which the cells stand.
use Rattle.std.specs.Prelude.{◌≡◌, ◌<◌, ℕ, Result, IfOk, Bool, true, false, ltb, List, [], ◌∷◌, ◌++◌, Option, Some, None}
use Rattle.of_mem.specs.Programs.{with_value}
use Rattle.of_mem.specs.declared.part.Need.{Need}
use Rattle.of_mem.specs.declared.plot.Plot.{Plot}
use Rattle.of_mem.specs.declared.plot.TheConstants.{QUEUES}
use Rattle.of_mem.specs.Numbers.{IsNumber}
use Rattle.of_mem.specs.Part.{Part}
use Rattle.of_mem.specs.Stores.{CellStore, thing_count}
use Rattle.of_mem.specs.Calls.{ActsOnStore}

-- q is the number of a queue, and v is a number of scripts and stores, below 2 ^ 31
abbrev pub IsItem : ℕ → ℕ → Type 0
IsItem q v = (q < QUEUES) × IsNumber v

abbrev pub with_items : CellStore → ℕ → List ℕ → CellStore
with_items s q items = record s { queues = with_value s.queues q items }

-- whether the store keeps fewer keys and items than there are blocks
abbrev pub has_room : ℕ → CellStore → Bool
has_room blocks s = ltb (thing_count s) blocks

abbrev pub push_store : CellStore → ℕ → ℕ → Bool → CellStore
push_store s q v true = with_items s q (s.queues q ++ v ∷ [])
push_store s q v false = s

-- the store after a push: item v is the last of queue q, if there was room
abbrev pub after_push : ℕ → ℕ → ℕ → CellStore → CellStore
after_push blocks q v s = push_store s q v (has_room blocks s)

-- If the call answered, it put item v at the end of queue q, or found no room. If it found no room,
-- it answered false and wrote nothing.
pub record PushesItem (plot : Plot) (before after : Part) (q v : ℕ) (result : Result Bool Need)
    : Type 0 where
  pub acts : ActsOnStore plot before after result
      (has_room plot.blocks) (after_push plot.blocks q v)
  pub full : IfOk result (λ r. r ≡ false → after ≡ before)

abbrev pub front_of : List ℕ → Option ℕ
front_of [] = None
front_of (v ∷ items) = Some v

-- the first item of queue q; None if the queue is empty
abbrev pub front_item : ℕ → CellStore → Option ℕ
front_item q s = front_of (s.queues q)

abbrev pub pop_store : CellStore → ℕ → List ℕ → CellStore
pop_store s q [] = s
pop_store s q (v ∷ items) = with_items s q items

-- the store after a pop: the first item of queue q is gone, if there was one
abbrev pub after_pop : ℕ → CellStore → CellStore
after_pop q s = pop_store s q (s.queues q)
