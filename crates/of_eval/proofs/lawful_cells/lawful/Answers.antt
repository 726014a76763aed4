use Rattle.of_eval.proofs.Exact.{only_store}
use Rattle.of_eval.proofs.lawful_cells.lawful.Goals as goal

pub returns-clause-only : goal.returns-clause-only
returns-clause-only c = only_store c.args.plot.now c.args.cells.now c.read_store.result c.read_store.ensures.ok c.read_store.ensures.unlawful
