use Rattle.std.proofs.Common.{arith}
use Rattle.of_core.proofs.laws.step_kept.Goals as goal
use Rattle.of_core.specs.Laws.{setup_for}
use Rattle.of_core.proofs.StepKept.{step_kept, step_moves, loaded_stays}
use Rattle.of_core.proofs.Raises.{rises}
use Rattle.of_core.proofs.StepTaken.{step_taken, opened_reads}
use Rattle.of_core.proofs.NewCalls.{new_calls}
use Rattle.of_core.proofs.Durables.{step_durables}
use Rattle.of_core.proofs.Blind.{step_blind}
use Rattle.of_core.proofs.Happenings.{begin_kept, rests_not, load_kept, evict_kept, evict_stays}
use Rattle.of_core.proofs.Beside.{beside_kept, beside_stays}
use Rattle.of_core.proofs.Openings.{start_good, idle_rests}
use Rattle.of_core.proofs.Claims.{is_sound}
use Rattle.of_core.proofs.Grounds.{has_grounds}

pub returns : goal.returns
returns g c =
    let laws = g.met.W.Work in
    let S = setup_for g.W.Work.many g.W.Work.size g.W.Work.meaning c.args.limit c.args.work in
    let L = g.W.Work.lawful c.args.work in
    let sound = laws.sound c.args.work in
    let fits = laws.fits c.args.work in
    record {
      kept = step_kept S L sound;
      moves = step_moves S L sound;
      taken = λ B w h i m l e o n f. step_taken S L B w h i m l e o n f;
      durables = λ B w h i m l e n f. step_durables S L B w h.core i m l e n f;
      blind = λ B w h i m l e. step_blind S L B w h.core i m l e;
      new_calls = λ B w h i m l e n f. new_calls S L sound B w h i m l e n f;
      begins = λ B w h i m l e r d p op s f t. (begin_kept S L B w h i m l e r d p op s f t, rests_not S L B w h i m l e r d p op s f t, opened_reads S d op);
      loads = load_kept S L;
      stays = loaded_stays S L sound;
      raises = λ B w h e l. (evict_kept S L B w h e l, evict_stays S L B w h e l);
      rises = λ B w h e l. rises S L B w.words w.batches h.core.shared e.0 e.1 l;
      beside = λ B w h c v f. (beside_kept S L B w h c v f, beside_stays S L B w h c v f);
      start = λ B may n room. (start_good S L sound B may fits.some (omega (arith, fits.few)) fits.own n room (omega arith) (omega (arith, fits.small)), idle_rests S);
      sound = λ B w h. is_sound S L sound B w h.core h.within h.late h.order;
      grounds = has_grounds S L;
    }
