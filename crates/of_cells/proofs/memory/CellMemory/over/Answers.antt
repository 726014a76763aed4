use Rattle.std.specs.Vec.{vec_capacity}
use Rattle.std.proofs.Common.{refl, ◌∙◌, ◌≤◌, subst}
use Rattle.of_cell.specs.Cells.{durable_cells}
use Rattle.of_row.specs.Rows.{key_of}
use Rattle.of_cells.proofs.Seats.{serve_new}
use Rattle.of_cells.proofs.Holding.{is_memory, none_made, none_open}
use Rattle.of_cells.proofs.memory.CellMemory.over.Goals as goal

pub returns-clause-memory : goal.returns-clause-memory
returns-clause-memory g c =
    let r = c.args.row in
    let seats = c.in_ok-callers.ensures in
    is_memory g.W.Work.meaning _ r c.in_ok-row.ensures.ok seats.pass seats.first seats.each (serve_new g.W.Work.meaning r (key_of r).callers c.in_ok-callers.callers.items seats.each seats.new) refl
    (c.in_ok-room.ensures.items, subst (λ n. n ≤ vec_capacity c.in_ok-room.room) (c.durable_cells.ensures.value ∙ (λ i. durable_cells (c.shape.ensures.callers i) (c.shape.ensures.cells i))) c.in_ok-room.ensures.capacity)

pub returns-clause-none : goal.returns-clause-none
returns-clause-none g c = none_made g.W.Work.meaning _ c.args.row c.in_ok-row.ensures.ok c.in_ok-callers.ensures.new

pub returns-clause-idle : goal.returns-clause-idle
returns-clause-idle g c = let seats = c.in_ok-callers.ensures in none_open g.W.Work.meaning _ c.args.row seats.each seats.new
