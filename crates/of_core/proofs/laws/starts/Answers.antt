use Rattle.std.proofs.Common.{arith}
use Rattle.of_core.proofs.laws.starts.Goals as goal
use Rattle.of_core.specs.Events.{start_ticket}
use Rattle.of_core.specs.Laws.{setup_for}
use Rattle.of_core.proofs.Starts.{words_hold, zeros_start, zero_words, zero_ticket}
use Rattle.of_core.proofs.Openings.{idles_length, idle_at}
use Rattle.of_core.proofs.Claims.{is_sound}
use Rattle.of_core.proofs.RecoveredRow.{start_is, restarts}
use Rattle.of_core.proofs.Midway.{restarts_midway, same_numbers, renumbers_midway}

pub returns : goal.returns
returns g c =
    let laws = g.met.W.Work in
    let S = setup_for g.W.Work.many g.W.Work.size g.W.Work.meaning c.args.limit c.args.work in
    let L = g.W.Work.lawful c.args.work in
    let sound = laws.sound c.args.work in
    let fits = laws.fits c.args.work in
    record {
      words = λ B start n room. words_hold S B start n (omega (arith, room));
      machines = λ B n. (idles_length S (start_ticket S B) 0 S.callers, idle_at S (start_ticket S B));
      zeros = zeros_start S L sound fits.some;
      zero_words = λ n room. zero_words S n (omega (arith, room));
      zero_tickets = zero_ticket S;
      midway = λ B w h row durable made. restarts_midway S L B w h (is_sound S L sound B w h.core h.within h.late h.order) row durable made;
      renumbered = λ row is_row made. (renumbers_midway S L row is_row made, same_numbers S L row is_row made);
      restarts = λ B w h row durable. let s = is_sound S L sound B w h.core h.within h.late h.order in (restarts S L B w h s row durable, start_is S L B w h s row durable);
    }
