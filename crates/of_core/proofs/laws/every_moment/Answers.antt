use Rattle.std.proofs.Common.{arith}
use Rattle.of_core.proofs.laws.every_moment.Goals as goal
use Rattle.of_core.specs.Laws.{setup_for}
use Rattle.of_core.proofs.Happenings.{event_good}
use Rattle.of_core.specs.Events.{opening_moment, after_events}
use Rattle.of_core.proofs.Openings.{start_good}
use Rattle.of_core.proofs.Moments.{run_good, run_now, every_moment}
use Rattle.of_core.proofs.HeldWords.{every_durable}

pub returns : goal.returns
returns g c =
    let laws = g.met.W.Work in
    let S = setup_for g.W.Work.many g.W.Work.size g.W.Work.meaning c.args.limit c.args.work in
    let fits = laws.fits c.args.work in
    let L = g.W.Work.lawful c.args.work in
    let sound = laws.sound c.args.work in
    record {
      kept = λ B w h e may. event_good S L B w h sound e may;
      runs = λ B w h es s. run_good S L sound B es w h s;
      durables = λ B may total room es s. every_durable S L sound B may fits.some (omega (arith, fits.few)) fits.own total room (omega arith) (omega (arith, fits.small)) es s;
      never = λ B may total room es s e happens k l u.
          let g1 = run_good S L sound B es (opening_moment S B total) (start_good S L sound B may fits.some (omega (arith, fits.few)) fits.own total room (omega arith) (omega (arith, fits.small))) s in
          run_now S L sound B (after_events S (opening_moment S B total) es) g1 e happens k l u;
      sound = λ B may total room. every_moment S L sound B may fits.some (omega (arith, fits.few)) fits.own total room (omega arith) (omega (arith, fits.small));
    }
