use Rattle.std.proofs.Common.{refl, ap}
use Rattle.of_core.specs.declared.bank.Turn.TheVariants.{Ended}
use Rattle.of_core.specs.declared.place.Outcome.TheVariants.{Answered}
use Rattle.of_play.proofs.PlaysNotes.{notes_more, notes_spent, pushed_at}
use Rattle.of_play.proofs.schedule_run.ScheduleRun.note_end.Goals as goal

pub returns-in-Spent : goal.returns-in-Spent
returns-in-Spent c = notes_spent c.args.caller (Ended c.args.outcome) c.args.self.now _ refl c.in-Spent.seq (ap Ended c.in-Spent.is) refl

pub returns-in_ok-push-in-Answered : goal.returns-in_ok-push-in-Answered
returns-in_ok-push-in-Answered c =
    let w = c.in-Answered in
    notes_more c.args.caller (Ended c.args.outcome) c.args.self.now _ refl (Answered w.seq w.announced w.raw w.steps) (ap Ended w.is)
    (record { seq = w.seq; announced = w.announced; reply = c.in-Some.reply; steps = w.steps }) (refl, refl, c.in-Some.ensures.some, refl) c.requires.answers
    (pushed_at (λ v. v.items) c.args.self.now.answers.items c.args.caller c.index_mut.result.now c.push.new.self _ c.requires.answers c.index_mut.ensures.value c.in_ok-push-in-Answered.ensures.items)
