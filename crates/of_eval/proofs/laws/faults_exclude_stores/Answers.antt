use Rattle.of_eval.proofs.FaultLaws.{first_excludes}
use Rattle.of_eval.proofs.laws.faults_exclude_stores.Goals as goal

pub returns : goal.returns
returns c = first_excludes
