use Rattle.std.proofs.Common.{◌≡◌, refl, ap, map, length, ◌∙◌, ◌∷◌, [], arith, length-append}
use Rattle.std.proofs.lemmas.List.{map-append}
use Rattle.of_cells.specs.Handles.{number_of_handle}
use Rattle.example_accounts.specs.declared.day.Log.{Log}
use Rattle.example_accounts.specs.Days.{job_of, job_of_teller}
use Rattle.example_accounts.proofs.Tellers.{one_leaves, one_less, log_more, seated_still}
use Rattle.example_accounts.proofs.day.gather.Goals as goal

pub leave-requires-clause-handle : goal.leave-requires-clause-handle
leave-requires-clause-handle c = (one_leaves c.loop-teller.memory _ c.loop-teller.tellers.items c.pop.new.self.items c.in-Some.teller c.in-Some.ensures.items c.loop-teller.invariant.tellers).1.serves.handle

pub leave-requires-clause-from : goal.leave-requires-clause-from
leave-requires-clause-from c = (one_leaves c.loop-teller.memory _ c.loop-teller.tellers.items c.pop.new.self.items c.in-Some.teller c.in-Some.ensures.items c.loop-teller.invariant.tellers).1.from

pub loop-teller-preserved : goal.loop-teller-preserved
loop-teller-preserved c =
    let inv = c.loop-teller.invariant in
    let t = c.in-Some.teller in
    let front = c.pop.new.self.items in
    let ls = c.loop-teller.logs.items in
    let l : Log = record { number = c.number-number.result; job = t.job; answers = t.answers } in
    let left = one_leaves c.loop-teller.memory (length c.args.tellers.items) c.loop-teller.tellers.items front t c.in-Some.ensures.items inv.tellers in
    let long = ap length c.in-Some.ensures.items ∙ length-append front (t ∷ []) in
    let at : number_of_handle t.handle ≡ length ls = omega (arith, left.1.number, inv.count, long) in
    record {
      memory = c.leave.ensures.memory;
      still = c.leave.ensures.still ∙ inv.still;
      count = omega (arith, inv.count, long, ap length c.in_ok-push.ensures.items, length-append ls (l ∷ []));
      tellers = seated_still c.loop-teller.memory c.leave.new.memory (length c.args.tellers.items) front c.leave.ensures.still left.0;
      logs = log_more c.loop-teller.memory c.leave.new.memory t ls c.push.new.self.items l at left.1.serves c.leave.ensures.others c.leave.ensures.made c.number-number.ensures refl refl c.in_ok-push.ensures.items inv.logs;
      jobs = one_less job_of _ (map job_of_teller front) _ ls c.push.new.self.items t.job l inv.jobs (ap (map job_of_teller) c.in-Some.ensures.items ∙ map-append job_of_teller front (t ∷ [])) c.in_ok-push.ensures.items refl;
    }
