use Rattle.std.proofs.Common.{refl, arith, ◌≤◌}
use Rattle.of_cells.proofs.Renumbering.{begins_anew, numbers_anew}
use Rattle.of_cells.proofs.saved.SavedCells.renumbered.Goals as goal

pub returns-clause-saved : goal.returns-clause-saved
returns-clause-saved g c =
    let laws = g.met.W.Work in
    let d = c.args.self in
    let h = c.requires in
    let some : 1 ≤ d.shape.callers = omega (arith, h.callers, (laws.fits d.work).some) in
    record {
      callers = h.callers;
      instrs = h.instrs;
      cells = h.cells;
      few_limit = h.few_limit;
      row = begins_anew g.W.Work.meaning g.W.Work.lawful d.shape d.limit d.work some d.row.items c.renumber_words.new.words.items c.renumber_words.ensures h.row;
    }

pub returns-clause-same : goal.returns-clause-same
returns-clause-same g c =
    let d = c.args.self in
    record { work = refl; callers = refl; cells = numbers_anew d.shape.callers d.shape.cells d.row.items c.renumber_words.new.words.items c.requires.row.long c.renumber_words.ensures }
