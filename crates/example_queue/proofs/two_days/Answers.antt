use Rattle.example_queue.proofs.Workers.{days_join}
use Rattle.example_queue.proofs.two_days.Goals as goal

pub returns-clause-both : goal.returns-clause-both
returns-clause-both g c =
    λ s holds. let one = c.in_ok-noon.ensures.works s holds in days_join c.histories_join.ensures s c.in_ok-noon.noon c.in_ok-evening.evening one.0 one.1 c.in_ok-evening.ensures.works
