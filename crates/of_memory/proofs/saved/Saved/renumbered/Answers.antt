use Rattle.of_memory.proofs.Saving.{saves_same}
use Rattle.of_memory.proofs.saved.Saved.renumbered.Goals as goal

pub returns-clause-same : goal.returns-clause-same
returns-clause-same c = saves_same c.args.self (record { cells = c.renumbered.result }) c.renumbered.ensures.same
