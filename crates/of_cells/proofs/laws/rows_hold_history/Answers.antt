use Rattle.of_cells.proofs.Closing.{rows_hold}
use Rattle.of_cells.proofs.laws.rows_hold_history.Goals as goal

pub returns : goal.returns
returns g c =
    let laws = g.met.W.Work in
    rows_hold (g.W.Work.many c.args.work) (g.W.Work.size c.args.work) c.args.limit (g.W.Work.meaning c.args.work) (g.W.Work.lawful c.args.work) (laws.fits c.args.work)
    c.step_kept.ensures.start c.every_moment.ensures.runs c.step_kept.ensures.grounds c.step_kept.ensures.sound c.histories.ensures.first c.stops_lose_nothing.ensures.stops
