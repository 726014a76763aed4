use Rattle.std.proofs.Common.{ap, ◌∙◌}
use Rattle.std.proofs.lemmas.List.{length-map}
use Rattle.of_cell.specs.Words.{payload_of}
use Rattle.of_row.specs.Rows.{key_of, start_for}
use Rattle.of_cells.specs.Serving.{cells_at_start, made_before}
use Rattle.of_cells.specs.Saving.{saved_cells}
use Rattle.of_cells.proofs.Holding.{cells_on, tickets_on, began_lawful}
use Rattle.of_cells.proofs.memory.CellMemory.reopen.Goals as goal

pub returns-clause-goes_on : goal.returns-clause-goes_on
returns-clause-goes_on g c =
    let d = c.args.saved.now in
    ap (cells_at_start g.W.Work.meaning) c.in_ok-memory.ensures.row
    ∙ cells_on g.W.Work.meaning c.in_ok-row.row (start_for d.shape d.row.items) (c.in_ok-row.ensures.start ∙ ap (start_for d.shape) c.deref.ensures.value)

pub returns-clause-tickets : goal.returns-clause-tickets
returns-clause-tickets g c n =
    let d = c.args.saved.now in
    ap (λ r. made_before g.W.Work.meaning r n) c.in_ok-memory.ensures.row
    ∙ tickets_on g.W.Work.meaning c.in_ok-row.row (start_for d.shape d.row.items) (c.in_ok-row.ensures.start ∙ ap (start_for d.shape) c.deref.ensures.value) n

pub returns-clause-size : goal.returns-clause-size
returns-clause-size g c = ap (λ r. (key_of r).cells) c.in_ok-memory.ensures.row ∙ c.in_ok-row.ensures.row.1 ∙ c.requires.cells

pub returns-clause-lawful : goal.returns-clause-lawful
returns-clause-lawful g c =
    let d = c.args.saved.now in
    let may = c.requires.row.may_start in
    began_lawful g.W.Work.meaning g.W.Work.size g.W.Work.lawful _ d.work (saved_cells d) (ap (λ r. (key_of r).work) c.in_ok-memory.ensures.row ∙ c.in_ok-row.ensures.row.3) (returns-clause-goes_on g c)
    (length-map (start_for d.shape d.row.items).cells payload_of ∙ may.start.size ∙ c.requires.cells) may.lawful
