use Rattle.std.proofs.Common.{◌∙◌}
use Rattle.std.proofs.lemmas.Result.{on_ok_weaker}
use Rattle.of_eval.proofs.FillSteps.{put_run}
use Rattle.of_eval.proofs.lawful_cells.fill.put.Goals as goal

pub returns : goal.returns
returns c = on_ok_weaker c.apply.result (λ h. h ∙ put_run c.args.store.now c.args.key c.args.value c.requires.new c.requires.room) c.apply.ensures
