use Rattle.std.proofs.Common.{sym, ◌∙◌, ap, Some}
use Rattle.of_eval.proofs.Looks.{looks_get, looks_put, looks_del, looks_need}
use Rattle.of_eval.proofs.step.word_seeks.Goals as goal

pub returns-in-Get : goal.returns-in-Get
returns-in-Get c = looks_get c.args.word c.in-Get.key (sym c.in_ok-key.ensures.value ∙ ap Some c.in-Get.is)

pub returns-in-Put : goal.returns-in-Put
returns-in-Put c = looks_put c.args.word c.in-Put.key c.in-Put.value (sym c.in_ok-key.ensures.value ∙ ap Some c.in-Put.is)

pub returns-in-Del : goal.returns-in-Del
returns-in-Del c = looks_del c.args.word c.in-Del.key (sym c.in_ok-key.ensures.value ∙ ap Some c.in-Del.is)

pub returns-in-Need : goal.returns-in-Need
returns-in-Need c = looks_need c.args.word c.in-Need.key c.in-Need.value (sym c.in_ok-key.ensures.value ∙ ap Some c.in-Need.is)
