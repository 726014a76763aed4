use Rattle.std.proofs.Common.{refl, sym, subst, ◌∙◌}
use Rattle.of_mem.proofs.Lists.{same_some}
use Rattle.of_eval.specs.declared.scripts.Scripts.{Scripts}
use Rattle.of_eval.specs.Scripts.{scripts_meaning}
use Rattle.of_cells.specs.declared.handle.CellHandle.{CellHandle}
use Rattle.of_cells.specs.Tasks.{HasWorked}
use Rattle.of_memory.specs.Tasks.{WorksWith}
use Rattle.of_memory.proofs.at_once.work_with.Goals as goal

pub work-requires : goal.work-requires
work-requires g c = c.requires (c.in-Some.handle, c.in-Some.task) (sym c.take.ensures.value ∙ c.in-Some.is)

pub returns-in-Some : goal.returns-in-Some
returns-in-Some g c p is =
    let w = c.work in
    let old : CellHandle Scripts × g.row.J.Denot = (c.in-Some.handle, c.in-Some.task) in
    let new : CellHandle Scripts × g.row.J.Denot = (w.new.handle.cells, w.new.self) in
    let same = same_some old p c.args.slot.now (sym c.take.ensures.value ∙ c.in-Some.is) is in
    let e = w.ensures in
    let worked : HasWorked scripts_meaning (WorksWith g.J.Task.does) old new = record { handle = e.handle.handle; same = e.same; done = record { handle = e.handle; same = e.same; done = e.done } } in
    (new, refl, subst (λ x. HasWorked scripts_meaning (WorksWith g.J.Task.does) x new) same worked)
