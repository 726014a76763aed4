use Rattle.of_row.proofs.Gathered.{gathered_still}
use Rattle.of_row.proofs.row.Row.load_durable.Goals as goal

pub load_all-requires-clause-gathered : goal.load_all-requires-clause-gathered
load_all-requires-clause-gathered g c = gathered_still _ _ _ c.learn_all.ensures.learns.learnt record { first = c.requires.first; none = c.args.pass.now.none; keeps = c.requires.keeps }
