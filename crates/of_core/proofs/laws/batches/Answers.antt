use Rattle.std.proofs.Common.{arith}
use Rattle.of_core.proofs.laws.batches.Goals as goal
use Rattle.of_core.specs.Laws.{setup_for}
use Rattle.of_core.proofs.BatchLogs.{logs_are_writes, owners_take_part}
use Rattle.of_core.proofs.Rising.{cells_rise}

pub returns : goal.returns
returns g c =
    let laws = g.met.W.Work in
    let S = setup_for g.W.Work.many g.W.Work.size g.W.Work.meaning c.args.limit c.args.work in
    let fits = laws.fits c.args.work in
    let L = g.W.Work.lawful c.args.work in
    let sound = laws.sound c.args.work in
    record {
      logs = λ B may total room es s. logs_are_writes S L sound B may fits.some (omega (arith, fits.few)) fits.own total room (omega arith) (omega (arith, fits.small)) es s;
      owners = λ B may total room es s. owners_take_part S L sound B may fits.some (omega (arith, fits.few)) fits.own total room (omega arith) (omega (arith, fits.small)) es s;
      rise = λ B w h es s a l. cells_rise S L sound B a l es w h s;
    }
