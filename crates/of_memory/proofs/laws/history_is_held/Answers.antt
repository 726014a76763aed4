use Rattle.of_memory.proofs.Histories.{holds_history}
use Rattle.of_memory.proofs.laws.history_is_held.Goals as goal

pub returns : goal.returns
returns c = holds_history c.args.work c.args.limit c.rows_hold_history.ensures
