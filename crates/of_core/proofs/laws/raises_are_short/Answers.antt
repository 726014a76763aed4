use Rattle.std.proofs.Common.{arith}
use Rattle.of_core.proofs.laws.raises_are_short.Goals as goal
use Rattle.of_core.specs.Laws.{setup_for}
use Rattle.of_core.proofs.ShortRaises.{raise_held, raise_short, eviction_short}
use Rattle.of_core.proofs.LevelCells.{settles, undisturbed, raises_stand, evicts_undisturbed}

pub returns : goal.returns
returns g c =
    let laws = g.met.W.Work in
    let S = setup_for g.W.Work.many g.W.Work.size g.W.Work.meaning c.args.limit c.args.work in
    let L = g.W.Work.lawful c.args.work in
    let sound = laws.sound c.args.work in
    let fits = laws.fits c.args.work in
    record {
      held = raise_held S L sound;
      calls = raise_short S L sound;
      evictions = eviction_short S L sound;
      level = λ B may total room es s kept. settles S L sound B may fits.some (omega (arith, fits.few)) fits.own total room (omega arith) (omega (arith, fits.small)) es s kept;
      undisturbed = λ B may total room es s kept. undisturbed S L sound B may fits.some (omega (arith, fits.few)) fits.own total room (omega arith) (omega (arith, fits.small)) es s kept;
      stand = λ B may total room es s kept. raises_stand S L sound B may fits.some (omega (arith, fits.few)) fits.own total room (omega arith) (omega (arith, fits.small)) es s kept;
      loads = λ B may total room es s kept. evicts_undisturbed S L sound B may fits.some (omega (arith, fits.few)) fits.own total room (omega arith) (omega (arith, fits.small)) es s kept;
    }
