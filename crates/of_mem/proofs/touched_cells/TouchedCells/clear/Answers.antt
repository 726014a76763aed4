use Rattle.std.proofs.Common.{length, sym, ◌∙◌, ap}
use Rattle.of_mem.specs.TouchedCells.{TouchedCells, no_cells}
use Rattle.of_mem.proofs.Held.{cells_size}
use Rattle.of_mem.proofs.touched_cells.TouchedCells.clear.Goals as goal

pub returns : goal.returns
returns c =
    rw c.clear.ensures
    (ap no_cells (sym (cells_size c.self.inside.index.room c.self.inside.index.entries c.self.inside.held.items) ∙ ap (λ (t : TouchedCells). length t.known) c.self.view_is))
