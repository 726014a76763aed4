use Rattle.of_memory.proofs.Histories.{words_hold}
use Rattle.of_memory.proofs.laws.words_hold_history.Goals as goal

pub returns : goal.returns
returns c = words_hold c.args.work c.args.limit c.rows_hold_history.ensures
