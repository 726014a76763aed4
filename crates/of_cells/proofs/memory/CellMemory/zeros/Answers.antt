use Rattle.std.proofs.Common.{ap, ◌∙◌, replicate}
use Rattle.std.proofs.lemmas.List.{length-replicate}
use Rattle.of_row.specs.Rows.{key_of}
use Rattle.of_cells.specs.Serving.{cells_at_start, made_before}
use Rattle.of_cells.proofs.Holding.{zero_cells, zero_tickets, zeros_read, began_lawful}
use Rattle.of_cells.proofs.memory.CellMemory.zeros.Goals as goal

pub returns-clause-zeros : goal.returns-clause-zeros
returns-clause-zeros g c =
    ap (cells_at_start g.W.Work.meaning) c.in_ok-memory.ensures.row
    ∙ zero_cells g.W.Work.meaning c.in_ok-row.row c.in_ok-row.ensures.start (g.W.Work.size c.args.work) (c.in_ok-row.ensures.row.1 ∙ c.shape_for.ensures.cells)

pub returns-clause-tickets : goal.returns-clause-tickets
returns-clause-tickets g c n =
    ap (λ r. made_before g.W.Work.meaning r n) c.in_ok-memory.ensures.row ∙ zero_tickets g.W.Work.meaning c.in_ok-row.row c.in_ok-row.ensures.start n

pub returns-clause-size : goal.returns-clause-size
returns-clause-size g c = ap (λ r. (key_of r).cells) c.in_ok-memory.ensures.row ∙ c.in_ok-row.ensures.row.1 ∙ c.shape_for.ensures.cells

pub returns-clause-lawful : goal.returns-clause-lawful
returns-clause-lawful g c =
    let laws = g.met.W.Work in
    let w = c.args.work in
    let n = g.W.Work.size w in
    let long = length-replicate n 0 in
    began_lawful g.W.Work.meaning g.W.Work.size g.W.Work.lawful _ w (replicate n 0) (ap (λ r. (key_of r).work) c.in_ok-memory.ensures.row ∙ c.in_ok-row.ensures.row.3) (returns-clause-zeros g c) long
    ((laws.sound w).zeros (replicate n 0) long (λ a. zeros_read n a))
