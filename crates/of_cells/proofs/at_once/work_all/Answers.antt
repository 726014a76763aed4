use Rattle.std.proofs.Common.{◌∙◌, sym}
use Rattle.of_cells.proofs.at_once.work_all.Goals as goal

pub for_each_mut-requires-clause-accepts : goal.for_each_mut-requires-clause-accepts
for_each_mut-requires-clause-accepts g c κs within i p lt at = (c.requires.may, c.requires.gives, c.requires.slots i p.now lt at)

pub returns : goal.returns
returns g c i d lt p is =
    let e = (c.for_each_mut.ensures i d lt).1 in
    let worked = e.call p (e.argument_is ∙ is) in
    (worked.0, sym e.left ∙ worked.1, worked.2)
