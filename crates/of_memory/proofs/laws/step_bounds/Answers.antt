use Rattle.std.proofs.Common.{◌≡◌, ℕ, ◌∙◌, arith}
use Rattle.of_cell.specs.Cells.{step_bound}
use Rattle.of_mem.specs.Places.{base_of, cells_at}
use Rattle.of_mem.proofs.BucketPlaces.{few_behind}
use Rattle.of_script.specs.declared.instr.TheConstants.{MOST_INSTRS}
use Rattle.of_row.specs.Rows.{key_of}
use Rattle.of_memory.specs.declared.handle.Handle.{Handle}
use Rattle.of_memory.specs.Handles.{IsHandle, IsOfSizes, home_of, step_bound_of}
use Rattle.of_memory.proofs.laws.step_bounds.Goals as goal

bound_is : (h : Handle) (callers blocks n : ℕ) → IsHandle h → IsOfSizes h callers blocks → cells_at (base_of callers MOST_INSTRS) blocks ≡ n → step_bound_of h ≡ step_bound callers MOST_INSTRS n
bound_is h callers blocks n is sizes size =
    let cells : (key_of (home_of h)).cells ≡ n = is.row.cells ∙ (λ i. cells_at (base_of (sizes.callers_are i) MOST_INSTRS) (sizes.blocks_are i)) ∙ size in
    let many : (key_of (home_of h)).callers ≡ callers = is.row.callers ∙ sizes.callers_are in
    λ i. step_bound (many i) MOST_INSTRS (cells i)

pub returns : goal.returns
returns c = record {
  smallest = λ h is sizes. bound_is h 1 0 81 is sizes (omega (arith, few_behind 0 (omega arith))) ∙ c.smallest.ensures.steps;
  largest = λ h is sizes. bound_is h 16 512 1887 is sizes (omega (arith, few_behind 512 (omega arith))) ∙ c.largest.ensures.steps;
}
