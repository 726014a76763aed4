use Rattle.std.proofs.Common.{◌≡◌, ◌≤◌, ◌+◌, vec_len, vec_capacity}
use Rattle.of_cells.specs.Memories.{IsCellMemory, IsStill}
use Rattle.of_cells.specs.Tasks.{HasHandedOut}
use Rattle.of_cells.proofs.memory.CellMemory.hand_out.Given as goal

abbrev pub invariant-loop-task : goal.invariant-loop-task
invariant-loop-task g l = record {
  memory : IsCellMemory g.W.Work.meaning l.self;
  still : IsStill l.fn.self l.self;
  out : HasHandedOut g.W.Work.meaning l.fn.self l.self l.fn.tasks.items l.tasks.items l.slots.items;
  count : vec_len l.tasks + vec_len l.slots ≡ vec_len l.fn.tasks;
  slots_room : vec_capacity l.fn.slots ≤ vec_capacity l.slots;
  tasks_room : vec_capacity l.fn.tasks ≤ vec_capacity l.tasks;
}

abbrev pub decreases-loop-task : goal.decreases-loop-task
decreases-loop-task g l = vec_len l.tasks
