use Rattle.of_row.proofs.Members.{runs_first, runs_on}
use Rattle.of_row.proofs.laws.machines.Goals as goal

pub returns-clause-first : goal.returns-clause-first
returns-clause-first g c = runs_first

pub returns-clause-begun : goal.returns-clause-begun
returns-clause-begun g c = runs_on
