use Rattle.example_queue.proofs.Filling.{loses_none_of_twelve}
use Rattle.example_queue.proofs.twelve_jobs.Goals as goal

pub returns-clause-noon : goal.returns-clause-noon
returns-clause-noon g c = loses_none_of_twelve c.in_ok-saved.saved c.in_ok-noon.noon c.in_ok-saved.ensures.jobs c.in_ok-noon.ensures.noon

pub returns-clause-evening : goal.returns-clause-evening
returns-clause-evening g c = loses_none_of_twelve c.in_ok-saved.saved c.in_ok-noon.evening c.in_ok-saved.ensures.jobs c.in_ok-noon.ensures.both
