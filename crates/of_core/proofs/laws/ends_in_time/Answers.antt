use Rattle.std.proofs.Common.{arith}
use Rattle.of_core.proofs.laws.ends_in_time.Goals as goal
use Rattle.of_core.specs.Events.{opening_moment}
use Rattle.of_core.specs.Laws.{setup_for}
use Rattle.of_core.proofs.InTime.{ends_in_time}
use Rattle.of_core.proofs.Footprints.{by_footprint}
use Rattle.of_core.proofs.TouchedMoments.{by_touch}
use Rattle.of_core.proofs.GivenUp.{given_up}
use Rattle.of_core.proofs.Lost.{has_lost}
use Rattle.of_core.proofs.Openings.{start_good}
use Rattle.of_core.proofs.TwoCommits.{done_in_schedule}
use Rattle.of_core.proofs.SpentRounds.{spent_in_round}
use Rattle.of_core.proofs.OpenLogs.{copies_open}
use Rattle.of_core.proofs.BatchLogs.{loads_needed}

pub returns : goal.returns
returns g c =
    let laws = g.met.W.Work in
    let S = setup_for g.W.Work.many g.W.Work.size g.W.Work.meaning c.args.limit c.args.work in
    let L = g.W.Work.lawful c.args.work in
    let sound = laws.sound c.args.work in
    let fits = laws.fits c.args.work in
    record {
      in_time = ends_in_time S L sound;
      footprint = λ B w h i op may es s o x y u. by_footprint S L sound B w h i op may es s o x y u;
      touched = λ B may n room es s. by_touch S L sound B may fits.some (omega (arith, fits.few)) fits.own n room (omega arith) (omega (arith, fits.small)) es s;
      two_commits = λ B may n room es s k i member new more.
          done_in_schedule S L sound B (opening_moment S B n) (start_good S L sound B may fits.some (omega (arith, fits.few)) fits.own n room (omega arith) (omega (arith, fits.small))) es s k i member new more;
      given_up = λ B w h i m l e n f. given_up S L B w h.core i m l e n f;
      needed = λ B may n room es s. loads_needed S L sound B may fits.some (omega (arith, fits.few)) fits.own n room (omega arith) (omega (arith, fits.small)) es s;
      helped = λ B w h i m l e n f o q. copies_open S w m n f o q;
      spent = λ B w h i m l e n f x o d q. spent_in_round S L B w h i m l e n x o d q;
      lost = λ B w h es s i member rest live. has_lost S L sound B w h es s i member rest live;
    }
