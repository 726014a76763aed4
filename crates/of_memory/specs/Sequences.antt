-- Up to which sequence a handle or a memory knows of commits, and how many sequences come after it.
use Rattle.std.specs.Prelude.{ℕ, Result}
use Rattle.of_plan.specs.declared.answer.Answer.{Answer}
use Rattle.of_cells.specs.declared.error.RunError.{RunError}
use Rattle.of_cells.specs.Sequences as generic
use Rattle.of_memory.specs.declared.handle.Handle.{Handle}
use Rattle.of_memory.specs.declared.memory.Memory.{Memory}
use Rattle.of_memory.specs.declared.saved.Saved.{Saved}
use Rattle.of_memory.specs.Called.{without_reply}

-- the last sequence that the handle knows
abbrev pub seq_known_to : Handle → ℕ
seq_known_to h = generic.seq_known_to h.cells

-- the last sequence that the memory knows
abbrev pub seq_known_in : Memory → ℕ
seq_known_in m = generic.seq_known_in m.cells

-- the handle knows the sequence of the call with this result, if the call has ended; otherwise it
-- knows the sequence that it knew
abbrev pub KnowsSeqOf : Result Answer RunError → (before now : Handle) → Type 0
KnowsSeqOf result h k = generic.KnowsSeqOf (without_reply result) h.cells k.cells

-- the handle knows the sequence that it knew before
abbrev pub KnowsSameSeq : (before now : Handle) → Type 0
KnowsSameSeq h k = generic.KnowsSameSeq h.cells k.cells

-- how many sequences there are after the last one that the handle knows, up to the limit
abbrev pub left_of_handle : Handle → ℕ
left_of_handle h = generic.left_of_handle h.cells

-- how many sequences there are after the last one that the memory knows, up to the limit
abbrev pub left_of_memory : Memory → ℕ
left_of_memory m = generic.left_of_memory m.cells

-- how many sequences there are after the last one committed in what is saved, up to its limit
abbrev pub left_of_saved : Saved → ℕ
left_of_saved d = generic.left_of_saved d.cells
