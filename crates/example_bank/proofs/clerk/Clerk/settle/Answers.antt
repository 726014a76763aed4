use Rattle.std.proofs.Common.{◌≡◌, ◌+◌, ◌<◌, Some, inr, sym, ap, subst, ◌∙◌, arith}
use Rattle.std.proofs.lemmas.Bool.Decides.{nat_tests}
use Rattle.of_cells.specs.declared.error.RunError.TheVariants.{Stopped}
use Rattle.of_memory.specs.Saving.{saved_ticket}
use Rattle.example_bank.specs.Clerks.{CountsReply, SettlesEnd, IsFinished}
use Rattle.example_bank.proofs.clerk.Clerk.settle.Goals as goal

pub returns : goal.returns
returns c =
    let y = c.args.self.now in
    let z = c.count.new.self in
    let count = c.count.ensures in
    let late : saved_ticket c.args.before.now c.args.number + y.answered < saved_ticket c.args.after.now c.args.number = grind (arith, nat_tests) in
    let finished : IsFinished c.args.number c.args.before.now c.args.after.now y z = record {
      ticket = late;
      one = λ r holds. subst (λ q. CountsReply q y z) (c.in-Some-last_reply.ensures.only r holds) (record { made = count.counts.made; aborted = count.counts.aborted });
      more = count.one;
      pending = count.pending;
    } in
    let stopped : y.end ≡ Some (Stopped c.in-Stopped.asked) = c.in-Some.is ∙ ap (λ e. Some e) c.in-Stopped.is in
    record {
      job = count.job;
      answered = count.answered;
      end = count.end;
      counts = subst (SettlesEnd c.args.number c.args.before.now c.args.after.now y z) (sym stopped) (inr finished);
    }
