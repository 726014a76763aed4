use Rattle.std.proofs.Common.{List, ◌∙◌, ap}
use Rattle.of_script.specs.declared.instr.Instr.{Instr}
use Rattle.of_store.specs.Store.{run}
use Rattle.of_eval.proofs.FillSteps.{one}
use Rattle.of_eval.proofs.lawful_cells.fill.apply.Goals as goal

pub new-requires : goal.new-requires
new-requires c = one c.args.instr c.requires

pub returns : goal.returns
returns c = c.in_ok-run.ensures.store ∙ ap (λ (l : List Instr). (run c.args.store.now l).0) c.new.ensures
