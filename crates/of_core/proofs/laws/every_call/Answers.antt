use Rattle.std.proofs.Common.{arith}
use Rattle.of_core.proofs.laws.every_call.Goals as goal
use Rattle.of_core.specs.Laws.{setup_for}
use Rattle.of_core.proofs.CallEvents.{calls_kept}
use Rattle.of_core.proofs.EveryCall.{every_call, every_turn}

pub returns-clause-calls : goal.returns-clause-calls
returns-clause-calls g c =
    let laws = g.met.W.Work in
    let S = setup_for g.W.Work.many g.W.Work.size g.W.Work.meaning c.args.limit c.args.work in
    let fits = laws.fits c.args.work in
    λ B may total room es s i member. every_call S (g.W.Work.lawful c.args.work) (laws.sound c.args.work) B i member may fits.some (omega (arith, fits.few)) fits.own total room (omega arith) (omega (arith, fits.small)) es s

pub returns-clause-turns : goal.returns-clause-turns
returns-clause-turns g c =
    let laws = g.met.W.Work in
    let S = setup_for g.W.Work.many g.W.Work.size g.W.Work.meaning c.args.limit c.args.work in
    let fits = laws.fits c.args.work in
    λ B may total room es s i member. every_turn S (g.W.Work.lawful c.args.work) (laws.sound c.args.work) B i member may fits.some (omega (arith, fits.few)) fits.own total room (omega arith) (omega (arith, fits.small)) es s

pub returns-clause-kept : goal.returns-clause-kept
returns-clause-kept g c =
    let laws = g.met.W.Work in
    let S = setup_for g.W.Work.many g.W.Work.size g.W.Work.meaning c.args.limit c.args.work in
    λ B w h i before member ops outs k e may. calls_kept S (g.W.Work.lawful c.args.work) (laws.sound c.args.work) B w h before i member ops outs k e may
