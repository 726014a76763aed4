use Rattle.of_eval.proofs.Meanings.{words_mean_script}
use Rattle.of_eval.proofs.laws.words_mean_script.Goals as goal

pub returns : goal.returns
returns c = words_mean_script
