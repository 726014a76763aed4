use Rattle.of_eval.proofs.Meanings.{means_words}
use Rattle.of_eval.proofs.laws.operations_mean_words.Goals as goal

pub returns : goal.returns
returns c = means_words c.args.work
