use Rattle.std.proofs.Common.{refl}
use Rattle.of_tool.specs.Commands.{word_bytes}
use Rattle.of_tool.specs.Statuses.{To, Done, Refused}
use Rattle.of_tool.proofs.CommandLemmas.{unread_of}
use Rattle.of_tool.proofs.Refused.{told}
use Rattle.of_tool.proofs.Telling.{refusal_undone}
use Rattle.of_tool.proofs.Carried.{carries, carries_nothing, makes}
use Rattle.of_tool.proofs.commands.output_for.Goals as goal

pub returns-in-Ok-clause-answered : goal.returns-in-Ok-clause-answered
returns-in-Ok-clause-answered g c = To c.in-Some.command c.in-Some.ensures (Done refl (makes _ _ _ c.in-Some.command c.in-Ok.ran c.in-Ok.ensures.made))

pub returns-in-Ok-clause-carries : goal.returns-in-Ok-clause-carries
returns-in-Ok-clause-carries g c = carries _ _ _ (word_bytes c.args.words.now) c.in-Ok.ran c.in-Some.command c.in-Some.ensures c.in-Ok.ensures.made

pub returns-in-Ok-clause-unread : goal.returns-in-Ok-clause-unread
returns-in-Ok-clause-unread g c = λ none. c.in-Ok.ensures.unread (unread_of (word_bytes c.args.words.now) c.in-Some.command c.in-Some.ensures none)

pub returns-in_ok-answer-in-Err-clause-answered : goal.returns-in_ok-answer-in-Err-clause-answered
returns-in_ok-answer-in-Err-clause-answered g c =
    To c.in-Some.command c.in-Some.ensures (Refused (told c.in-Some.command _ c.in_ok-answer-in-Err.field-0 c.in-Err.failure c.in_ok-answer-in-Err.ensures c.in-Err.ensures.made))

pub returns-in_ok-answer-in-Err-clause-carries : goal.returns-in_ok-answer-in-Err-clause-carries
returns-in_ok-answer-in-Err-clause-carries g c =
    carries_nothing _ _ _ (word_bytes c.args.words.now) _ (refusal_undone c.in-Some.command _ _ _ (told c.in-Some.command _ c.in_ok-answer-in-Err.field-0 c.in-Err.failure c.in_ok-answer-in-Err.ensures c.in-Err.ensures.made))

pub returns-in_ok-answer-in-Err-clause-unread : goal.returns-in_ok-answer-in-Err-clause-unread
returns-in_ok-answer-in-Err-clause-unread g c = λ none. c.in-Err.ensures.unread (unread_of (word_bytes c.args.words.now) c.in-Some.command c.in-Some.ensures none)

pub returns-in_err-answer-in-Err-clause-unread : goal.returns-in_err-answer-in-Err-clause-unread
returns-in_err-answer-in-Err-clause-unread g c = λ none. c.in-Err.ensures.unread (unread_of (word_bytes c.args.words.now) c.in-Some.command c.in-Some.ensures none)
