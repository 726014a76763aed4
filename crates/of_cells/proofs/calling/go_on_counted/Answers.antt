use Rattle.std.proofs.Common.{◌∙◌, ap, refl, Err}
use Rattle.of_cells.proofs.Called.{serves_on, open_counts, made_answered, made_spent, made_none, none_after_answer, none_after_spent, open_after_stop, answers_within, stops_within, keeps_answered, keeps_stopped, keeps_over, answered_some, stopped_some, spent_some, rises_within, rises_as_given, rises_by_touch, spent_at_limit, opens_none, kept_fresh, next_call}
use Rattle.of_cells.proofs.Meant.{meant_answer}
use Rattle.of_cells.proofs.calling.go_on_counted.Goals as goal

pub answer_of-requires : goal.answer_of-requires
answer_of-requires g c = c.in-Ok.ensures.told.result.0

pub returns-in-Ok-clause-serves : goal.returns-in-Ok-clause-serves
returns-in-Ok-clause-serves g c n s =
    serves_on g.W.Work.meaning c.args.row.now _ n c.args.caller.now c.go_on.new.self _ _ _ _ refl (open_counts g.W.Work.meaning c.args.row.now n c.args.caller.now s c.requires.open_call) c.in-Ok.ensures.told c.in-Ok.ensures.caller s

pub returns-in-Err-Stopped-clause-serves : goal.returns-in-Err-Stopped-clause-serves
returns-in-Err-Stopped-clause-serves g c n s =
    serves_on g.W.Work.meaning c.args.row.now _ n c.args.caller.now c.go_on.new.self _ _ _ _ refl (open_counts g.W.Work.meaning c.args.row.now n c.args.caller.now s c.requires.open_call) c.go_on.ensures.told c.go_on.ensures.caller s

pub returns-clause-serves : goal.returns-clause-serves
returns-clause-serves g c n s =
    serves_on g.W.Work.meaning c.args.row.now _ n c.args.caller.now c.go_on.new.self _ _ _ _ refl (open_counts g.W.Work.meaning c.args.row.now n c.args.caller.now s c.requires.open_call) c.go_on.ensures.told c.go_on.ensures.caller s

pub returns-in-Ok-clause-made : goal.returns-in-Ok-clause-made
returns-in-Ok-clause-made g c =
    let told = c.in-Ok.ensures.told in
    made_answered _ _ _ _ _ _ _ _ _ _ told c.in-Ok.outcome c.answer_of.result c.answer_of.ensures told.result

pub returns-in-Err-Stopped-clause-made : goal.returns-in-Err-Stopped-clause-made
returns-in-Err-Stopped-clause-made g c =
    made_none _ _ _ _ _ _ _ _ _ _ c.go_on.ensures.told c.in-Err-Stopped.asked (c.in-Err-Stopped.is ∙ ap (λ e. Err e) c.in-Err-Stopped.field-0-is)

pub returns-clause-made : goal.returns-clause-made
returns-clause-made g c =
    made_spent _ _ _ _ _ _ _ _ _ _ c.go_on.ensures.told c.in-Err-Spent.seq (c.in-Err-Spent.is ∙ ap (λ e. Err e) c.in-Err-Spent.field-0-is)

pub returns-in-Ok-clause-means : goal.returns-in-Ok-clause-means
returns-in-Ok-clause-means g c =
    let told = c.in-Ok.ensures.told in
    meant_answer g.W.Work.meaning c.args.row.now _ _ _ _ _ _ _ _ told c.in-Ok.outcome c.answer_of.result c.answer_of.ensures told.result

pub returns-in-Ok-clause-open_call : goal.returns-in-Ok-clause-open_call
returns-in-Ok-clause-open_call g c =
    let told = c.in-Ok.ensures.told in
    none_after_answer _ _ _ _ _ _ _ _ _ _ told c.in-Ok.outcome told.result

pub returns-in-Err-Stopped-clause-open_call : goal.returns-in-Err-Stopped-clause-open_call
returns-in-Err-Stopped-clause-open_call g c =
    let told = c.go_on.ensures.told in (
      open_after_stop _ _ _ _ _ _ _ _ _ _ told c.in-Err-Stopped.asked (c.in-Err-Stopped.is ∙ ap (λ e. Err e) c.in-Err-Stopped.field-0-is),
      told.op,
    )

pub returns-clause-open_call : goal.returns-clause-open_call
returns-clause-open_call g c =
    none_after_spent _ _ _ _ _ _ _ _ _ _ c.go_on.ensures.told c.in-Err-Spent.seq (c.in-Err-Spent.is ∙ ap (λ e. Err e) c.in-Err-Spent.field-0-is)

pub returns-in-Ok-clause-bound : goal.returns-in-Ok-clause-bound
returns-in-Ok-clause-bound g c =
    let told = c.in-Ok.ensures.told in
    answers_within _ _ _ _ _ _ _ _ _ _ told c.in-Ok.outcome c.answer_of.result c.answer_of.ensures told.result

pub returns-in-Err-Stopped-clause-bound : goal.returns-in-Err-Stopped-clause-bound
returns-in-Err-Stopped-clause-bound g c =
    stops_within _ _ _ _ _ _ _ _ _ _ c.go_on.ensures.told c.in-Err-Stopped.asked (c.in-Err-Stopped.is ∙ ap (λ e. Err e) c.in-Err-Stopped.field-0-is)

pub returns-in-Ok-clause-stop : goal.returns-in-Ok-clause-stop
returns-in-Ok-clause-stop g c stop told_stop =
    let told = c.in-Ok.ensures.told in
    keeps_answered _ _ _ _ _ _ _ _ _ _ told stop _ told_stop _ c.in-Ok.ensures.left c.in-Ok.outcome c.answer_of.result c.answer_of.ensures told.result

pub returns-in-Err-Stopped-clause-stop : goal.returns-in-Err-Stopped-clause-stop
returns-in-Err-Stopped-clause-stop g c stop told_stop =
    keeps_stopped _ _ _ _ _ _ _ _ _ _ c.go_on.ensures.told stop _ told_stop c.go_on.ensures.stop c.in-Err-Stopped.asked (c.in-Err-Stopped.is ∙ ap (λ e. Err e) c.in-Err-Stopped.field-0-is)

pub returns-clause-stop : goal.returns-clause-stop
returns-clause-stop g c stop told_stop = keeps_over _ _ _ _ _ _ _ _ _ _ c.go_on.ensures.told stop _

pub returns-in-Ok-clause-given : goal.returns-in-Ok-clause-given
returns-in-Ok-clause-given g c stop told_stop = rises_as_given _ _ _ _ _ _ _ _ _ _ c.in-Ok.ensures.told stop _ _ told_stop c.in-Ok.ensures.left

pub returns-in-Ok-clause-rise : goal.returns-in-Ok-clause-rise
returns-in-Ok-clause-rise g c = rises_within _ _ _ _ _ _ _ _ _ _ c.in-Ok.ensures.told

pub returns-in-Ok-clause-touched : goal.returns-in-Ok-clause-touched
returns-in-Ok-clause-touched g c = rises_by_touch _ _ _ _ _ _ _ _ _ _ c.in-Ok.ensures.told

pub returns-in-Ok-clause-only : goal.returns-in-Ok-clause-only
returns-in-Ok-clause-only g c = opens_none c.args.caller.now c.go_on.new.self c.requires.open_call c.in-Ok.ensures.told.op

pub returns-in-Ok-clause-next : goal.returns-in-Ok-clause-next
returns-in-Ok-clause-next g c begun none started =
    let told = c.in-Ok.ensures.told in
    next_call g.W.Work.meaning c.args.row.now _ c.args.caller.now c.go_on.new.self _ _ _ _ told refl (kept_fresh g.W.Work.meaning c.args.row.now c.args.caller.now c.requires.caller begun none)
    (answered_some _ _ _ _ _ _ _ _ _ _ told c.in-Ok.outcome told.result)

pub returns-in-Err-Stopped-clause-given : goal.returns-in-Err-Stopped-clause-given
returns-in-Err-Stopped-clause-given g c stop told_stop = rises_as_given _ _ _ _ _ _ _ _ _ _ c.go_on.ensures.told stop _ _ told_stop c.go_on.ensures.left

pub returns-in-Err-Stopped-clause-rise : goal.returns-in-Err-Stopped-clause-rise
returns-in-Err-Stopped-clause-rise g c = rises_within _ _ _ _ _ _ _ _ _ _ c.go_on.ensures.told

pub returns-in-Err-Stopped-clause-touched : goal.returns-in-Err-Stopped-clause-touched
returns-in-Err-Stopped-clause-touched g c = rises_by_touch _ _ _ _ _ _ _ _ _ _ c.go_on.ensures.told

pub returns-in-Err-Stopped-clause-only : goal.returns-in-Err-Stopped-clause-only
returns-in-Err-Stopped-clause-only g c = opens_none c.args.caller.now c.go_on.new.self c.requires.open_call c.go_on.ensures.told.op

pub returns-in-Err-Stopped-clause-next : goal.returns-in-Err-Stopped-clause-next
returns-in-Err-Stopped-clause-next g c begun none started =
    let told = c.go_on.ensures.told in
    next_call g.W.Work.meaning c.args.row.now _ c.args.caller.now c.go_on.new.self _ _ _ _ told refl (kept_fresh g.W.Work.meaning c.args.row.now c.args.caller.now c.requires.caller begun none)
    (stopped_some _ _ _ _ _ _ _ _ _ _ told c.in-Err-Stopped.asked (c.in-Err-Stopped.is ∙ ap (λ e. Err e) c.in-Err-Stopped.field-0-is) started)

pub returns-clause-given : goal.returns-clause-given
returns-clause-given g c stop told_stop = rises_as_given _ _ _ _ _ _ _ _ _ _ c.go_on.ensures.told stop _ _ told_stop c.go_on.ensures.left

pub returns-clause-rise : goal.returns-clause-rise
returns-clause-rise g c = rises_within _ _ _ _ _ _ _ _ _ _ c.go_on.ensures.told

pub returns-clause-touched : goal.returns-clause-touched
returns-clause-touched g c = rises_by_touch _ _ _ _ _ _ _ _ _ _ c.go_on.ensures.told

pub returns-clause-only : goal.returns-clause-only
returns-clause-only g c = opens_none c.args.caller.now c.go_on.new.self c.requires.open_call c.go_on.ensures.told.op

pub returns-clause-next : goal.returns-clause-next
returns-clause-next g c begun none started =
    let told = c.go_on.ensures.told in
    next_call g.W.Work.meaning c.args.row.now _ c.args.caller.now c.go_on.new.self _ _ _ _ told refl (kept_fresh g.W.Work.meaning c.args.row.now c.args.caller.now c.requires.caller begun none)
    (spent_some _ _ _ _ _ _ _ _ _ _ told c.in-Err-Spent.seq (c.in-Err-Spent.is ∙ ap (λ e. Err e) c.in-Err-Spent.field-0-is))

pub returns-clause-spent : goal.returns-clause-spent
returns-clause-spent g c = spent_at_limit _ _ _ _ _ _ _ _ _ _ c.go_on.ensures.told c.in-Err-Spent.seq (c.in-Err-Spent.is ∙ ap (λ e. Err e) c.in-Err-Spent.field-0-is)
