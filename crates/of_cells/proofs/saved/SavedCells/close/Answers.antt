use Rattle.of_cells.proofs.Closing.{saved_so, history_so, own_so}
use Rattle.of_cells.proofs.saved.SavedCells.close.Goals as goal

pub returns-clause-saved : goal.returns-clause-saved
returns-clause-saved g c =
    let shape = c.shape-shape in
    saved_so g.W.Work.many g.W.Work.size g.W.Work.meaning g.W.Work.lawful c.args.row.now c.args.pass c.requires.row _ c.load_durable.ensures.words
    _ c.work-work.ensures c.limit-limit.ensures.is c.limit-limit.ensures.small shape.ensures.callers shape.ensures.instrs shape.ensures.cells shape.ensures.work
    c.rows_hold_history.ensures c.recover_words.ensures.row

pub returns-clause-lawful : goal.returns-clause-lawful
returns-clause-lawful g c = (returns-clause-saved g c).row.may_start.lawful

pub returns-clause-leads : goal.returns-clause-leads
returns-clause-leads g c =
    let shape = c.shape-shape in
    history_so g.W.Work.many g.W.Work.size g.W.Work.meaning g.W.Work.lawful c.args.row.now c.args.pass c.requires.row _ c.load_durable.ensures.words
    _ c.work-work.ensures c.limit-limit.ensures.is c.limit-limit.ensures.small shape.ensures.callers shape.ensures.instrs shape.ensures.cells shape.ensures.work
    c.rows_hold_history.ensures c.recover_words.ensures.row

pub returns-clause-own : goal.returns-clause-own
returns-clause-own g c =
    let shape = c.shape-shape in
    own_so g.W.Work.many g.W.Work.size g.W.Work.meaning g.W.Work.lawful c.args.row.now c.args.pass c.requires.row _ c.load_durable.ensures.words
    (record { work = c.work-work.result; shape = c.shape-shape.result; limit = c.limit-limit.result; row = c.recover_words.new.words }) c.work-work.ensures c.limit-limit.ensures.is c.limit-limit.ensures.small shape.ensures.callers shape.ensures.instrs shape.ensures.cells shape.ensures.work
    c.rows_hold_history.ensures c.recover_words.ensures.row
