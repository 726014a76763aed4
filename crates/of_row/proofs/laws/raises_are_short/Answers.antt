use Rattle.of_core.specs.Laws.{setup_for}
use Rattle.of_row.proofs.Events.{prompt_replace_none}
use Rattle.of_row.proofs.ShortRaises.{short_raises}
use Rattle.of_row.proofs.laws.raises_are_short.Goals as goal

pub returns-clause-moments : goal.returns-clause-moments
returns-clause-moments g c B s r es reached stay =
    let S = setup_for g.W.Work.many g.W.Work.size g.W.Work.meaning c.args.limit c.args.work in
    let n = c.step_kept.ensures in
    let k = c.raises_are_short.ensures in
    short_raises S (g.W.Work.lawful c.args.work) n.start c.every_moment.ensures.runs n.grounds n.loads k.evictions k.undisturbed k.loads B r.from es reached.schedule stay

pub returns-clause-runs : goal.returns-clause-runs
returns-clause-runs g c B ws v es h =
    let S = setup_for g.W.Work.many g.W.Work.size g.W.Work.meaning c.args.limit c.args.work in
    let n = c.step_kept.ensures in
    let k = c.raises_are_short.ensures in
    short_raises S (g.W.Work.lawful c.args.work) n.start c.every_moment.ensures.runs n.grounds n.loads k.evictions k.undisturbed k.loads B h.from es h.schedule (prompt_replace_none es h.prompt)
