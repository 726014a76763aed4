use Rattle.std.proofs.Common.{refl, sym, subst, ◌∙◌}
use Rattle.of_mem.proofs.Lists.{same_some}
use Rattle.of_cells.specs.declared.handle.CellHandle.{CellHandle}
use Rattle.of_cells.specs.Tasks.{HasWorked}
use Rattle.of_cells.proofs.at_once.work_with.Goals as goal

pub work-task-requires : goal.work-task-requires
work-task-requires g c = c.requires.may c.in-Some.handle (c.requires.slot (c.in-Some.handle, c.in-Some.task) (sym c.take.ensures.value ∙ c.in-Some.is))

pub returns-in-Some : goal.returns-in-Some
returns-in-Some g c p is =
    let w = c.work-task in
    let old : CellHandle g.row.W.Denot × g.row.J.Denot = (c.in-Some.handle, c.in-Some.task) in
    let new : CellHandle g.row.W.Denot × g.row.J.Denot = (w.result.1, w.result.0) in
    let same = same_some old p c.args.slot.now (sym c.take.ensures.value ∙ c.in-Some.is) is in
    let given = c.requires.slot old (sym c.take.ensures.value ∙ c.in-Some.is) in
    let back = c.requires.gives c.in-Some.task w.result.0 c.in-Some.handle w.result.1 given w.ensures in
    let worked : HasWorked g.W.Work.meaning g.J.CellTask.does old new = record { handle = back.0; same = back.1; done = w.ensures } in
    (new, refl, subst (λ x. HasWorked g.W.Work.meaning g.J.CellTask.does x new) same worked)
