use Rattle.std.proofs.Common.{sym, ◌∙◌}
use Rattle.std.proofs.lemmas.Bool.{false≢true}
use Rattle.of_eval.proofs.Endings.{lost, stand_for, unmet_none, none_unmet}
use Rattle.of_eval.proofs.lawful_cells.walk.all_met.Goals as goal

pub returns-then-all_owned-clause-ok : goal.returns-then-all_owned-clause-ok
returns-then-all_owned-clause-ok c = λ s h. stand_for c.args.plot.now c.args.cells.now c.args.owners.now s h (unmet_none c.args.owners.now (c.all_owned.ensures.0 c.if-all_owned.true))

pub returns-clause-err : goal.returns-clause-err
returns-clause-err c = λ s h. lost c.args.plot.now c.args.cells.now c.args.owners.now s h c.fresh.result c.fresh.ensures
    (λ e. false≢true (sym c.if-all_owned.false ∙ c.all_owned.ensures.1 (none_unmet c.args.owners.now e)))
