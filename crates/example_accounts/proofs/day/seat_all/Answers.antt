use Rattle.std.proofs.Common.{◌≡◌, refl, ap, ◌∙◌, arith, length, ◌∷◌, [], length-append}
use Rattle.example_accounts.specs.declared.teller.Teller.{Teller}
use Rattle.example_accounts.specs.Days.{job_of_teller}
use Rattle.example_accounts.proofs.Tellers.{one_less, seat_more, new_teller}
use Rattle.example_accounts.proofs.day.seat_all.Goals as goal

pub loop-job-preserved : goal.loop-job-preserved
loop-job-preserved c =
    let inv = c.loop-job.invariant in
    let front = c.pop.new.self.items in
    let ts = c.loop-job.tellers.items in
    let e = c.in_ok-handle.ensures in
    let long = ap length c.in-Some.ensures.items ∙ length-append front (c.in-Some.job ∷ []) in
    let at : c.len-in-Some.result ≡ length front = omega (arith, c.len-in-Some.ensures, c.pop.new.self.ok) in
    let t : Teller = record { handle = c.in_ok-handle.handle; job = c.in-Some.job; last_steps = c.if-is_empty.last_steps; answers = c.in_ok-answers.answers } in
    let empty = c.in_ok-answers.ensures.items in
    let was = inv.none c.len-in-Some.result (omega (arith, at, long)) in
    record {
      memory = c.enrol.ensures.memory;
      still = c.enrol.ensures.still ∙ inv.still;
      few = omega (arith, inv.few, long);
      count = omega (arith, inv.count, long, ap length c.in_ok-push.ensures.items, length-append ts (t ∷ []));
      none = λ n lt. c.enrol.ensures.others n [] (omega (arith, lt, at)) (inv.none n (omega (arith, lt, long)));
      tellers = seat_more c.loop-job.memory _ _ ts _ t c.enrol.ensures.still inv.tellers c.in_ok-push.ensures.items
          (new_teller _ _ (length ts) t e.handle e.from (e.made [] was) empty (omega (arith, e.number, at, inv.count, long)));
      jobs = one_less job_of_teller _ front _ ts _ c.in-Some.job t inv.jobs c.in-Some.ensures.items c.in_ok-push.ensures.items refl;
    }
