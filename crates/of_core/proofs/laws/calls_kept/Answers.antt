use Rattle.std.proofs.Common.{arith}
use Rattle.of_core.proofs.laws.calls_kept.Goals as goal
use Rattle.of_core.specs.Laws.{setup_for}
use Rattle.of_core.proofs.CallEvents.{step_calls, begin_calls, raise_calls, beside_calls}
use Rattle.of_core.proofs.EveryCall.{no_calls}

pub returns : goal.returns
returns g c =
    let laws = g.met.W.Work in
    let S = setup_for g.W.Work.many g.W.Work.size g.W.Work.meaning c.args.limit c.args.work in
    let L = g.W.Work.lawful c.args.work in
    let sound = laws.sound c.args.work in
    let fits = laws.fits c.args.work in
    record {
      start = λ B may n room i member. no_calls S L sound B i member may fits.some (omega (arith, fits.few)) fits.own n room (omega arith) (omega (arith, fits.small));
      steps = step_calls S L sound;
      begins = begin_calls S L sound;
      raises = λ B w h e l i member. raise_calls S L B w h e l i;
      beside = λ B w h x v far i member. beside_calls S L B w h x v far i;
    }
