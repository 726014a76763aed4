use Rattle.std.proofs.Common.{◌∙◌}
use Rattle.std.proofs.lemmas.Result.{on_ok_weaker}
use Rattle.of_eval.proofs.FillSteps.{push_run}
use Rattle.of_eval.proofs.lawful_cells.fill.push.Goals as goal

pub returns : goal.returns
returns c = on_ok_weaker c.apply.result (λ h. h ∙ push_run c.args.store.now c.args.q c.args.item c.requires.room) c.apply.ensures
