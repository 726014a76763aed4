use Rattle.of_eval.proofs.OneStore.{one_store}
use Rattle.of_eval.proofs.laws.one_store.Goals as goal

pub returns : goal.returns
returns c = one_store
