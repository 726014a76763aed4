use Rattle.std.proofs.Common.{rules, false, [], None, refl, arith}
use Rattle.of_plan.specs.declared.answer.Answer.{Answer}
use Rattle.of_eval.specs.Shapes.{IsWhole}
use Rattle.of_report.specs.Report.{HasWholeReply}
use Rattle.std.proofs.lemmas.List.Elements.{All-same, All-push, All-get_or}
use Rattle.of_report.proofs.Entries.{one_more_answer}
use Rattle.of_report.proofs.make.answer_entries.Goals as goal

-- an answer that stands at no place
no_answer : Answer
no_answer = record { seq = 0; announced = false; reply = record { len = 0; values = []; abort = None }; steps = 0 }

pub loop-index-preserved : goal.loop-index-preserved
unfolding no_answer
loop-index-preserved c = record {
  count = search rules;
  whole = All-same HasWholeReply _ _ c.in_ok-push.ensures.items (All-push HasWholeReply c.loop-index.entries.items _ c.loop-index.invariant.whole (All-get_or (λ (a : Answer). IsWhole a.reply) c.args.answers.now c.loop-index.index no_answer (omega arith) c.requires.whole));
  entries = one_more_answer c.args.caller c.args.first c.args.answers.now c.loop-index.index no_answer c.loop-index.entries.items c.push.new.self.items _ (omega arith) c.loop-index.invariant.entries c.in_ok-push.ensures.items refl;
}
