use Rattle.std.proofs.Common.{◌+◌, arith, refl, sym}
use Rattle.std.proofs.lemmas.List.{get_or-set_other}
use Rattle.of_core.proofs.laws.taken_over_stands.Goals as goal
use Rattle.of_core.specs.Machine.{no_machine}
use Rattle.of_core.specs.Remains.{remains_of, revived_machine, after_revival}
use Rattle.of_core.specs.Laws.{setup_for}
use Rattle.of_core.proofs.StepKept.{step_moves}
use Rattle.of_core.proofs.RaiseSteps.{moves_raise}
use Rattle.of_core.proofs.CallEvents.{quiet}
use Rattle.of_core.proofs.Idle.{revived_rests}
use Rattle.of_core.proofs.Revived.{stays, leaves, revived_core, revived_good, open_counts, counts_on, has_run, has_not_run}

pub returns : goal.returns
returns g c =
    let laws = g.met.W.Work in
    let S = setup_for g.W.Work.many g.W.Work.size g.W.Work.meaning c.args.limit c.args.work in
    let L = g.W.Work.lawful c.args.work in
    let sound = laws.sound c.args.work in
    record {
      core = λ B w h i made member may. revived_core h.core i member may made;
      kept = λ B w h i made member may older. revived_good h i member may made older;
      newest = λ B w h i made member may e under. open_counts h i member may made e under;
      counted = λ B w h i made member may e under. counts_on h i member may made e under;
      rests = revived_rests S;
      ran = λ B w h i made member may. (has_run h.core i member may, has_not_run h.core i member may);
      others = λ B w h i made member may older j inside away.
          quiet S L B w h (after_revival S i made w) (revived_good h i member may made older) (omega arith) refl refl j (get_or-set_other w.machines i j (revived_machine S (remains_of S w.words i) i made) no_machine (λ e. away (sym e)));
      steps = λ B w h j m l e n f i member away may. leaves h.core.shared (step_moves S L sound B w h j m l e n f) i member away may;
      request = λ B w h j m l e n f i member away may. stays h.core.shared (step_moves S L sound B w h j m l e n f) i member away may;
      raises = λ B w h e l i member may. leaves h.core.shared (moves_raise w.words w.batches h.core.shared e.0 e.1 l (i + 1)) i member (λ z. omega arith) may;
    }
