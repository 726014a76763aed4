use Rattle.std.proofs.Common.{◌≡◌, ℕ, ◌≤◌, ◌<◌, ◌+◌, length, get_or, None, vec_len, vec_capacity}
use Rattle.of_cells.specs.Memories.{IsCellMemory, IsStill}
use Rattle.of_cells.specs.Tasks.{HasTakenBack}
use Rattle.of_cells.proofs.memory.CellMemory.take_back.Given as goal

abbrev pub invariant-loop-slot : goal.invariant-loop-slot
invariant-loop-slot g l = record {
  memory : IsCellMemory g.W.Work.meaning l.self;
  still : IsStill l.fn.self l.self;
  back : HasTakenBack g.W.Work.meaning l.fn.self l.self l.fn.tasks.items l.tasks.items (length l.slots.items) l.fn.slots.items;
  front : (i : ℕ) → i < length l.slots.items → get_or l.slots.items i None ≡ get_or l.fn.slots.items i None;
  room : vec_len l.tasks + vec_len l.slots ≤ vec_capacity l.tasks;
}

abbrev pub decreases-loop-slot : goal.decreases-loop-slot
decreases-loop-slot g l = vec_len l.slots
