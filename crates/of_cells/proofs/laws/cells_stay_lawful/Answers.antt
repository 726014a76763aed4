use Rattle.of_cells.proofs.Still.{stay_lawful}
use Rattle.of_cells.proofs.laws.cells_stay_lawful.Goals as goal

pub returns : goal.returns
returns g c =
    let laws = g.met.W.Work in
    let w = c.args.work in
    stay_lawful (g.W.Work.meaning w) (g.W.Work.lawful w) _ (g.W.Work.size w) (laws.sound w)
