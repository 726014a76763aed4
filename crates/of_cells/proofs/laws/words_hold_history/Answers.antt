use Rattle.of_cells.proofs.AnyMoment.{words_always}
use Rattle.of_cells.proofs.laws.words_hold_history.Goals as goal

pub returns : goal.returns
returns g c =
    words_always g.W.Work.many g.W.Work.size g.W.Work.meaning g.W.Work.lawful c.args.memory.now _ _ c.work.ensures c.limit.ensures c.shape-shape.ensures c.rows_hold_history.ensures
