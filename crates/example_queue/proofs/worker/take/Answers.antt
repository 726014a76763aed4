use Rattle.example_queue.proofs.Workers.{takes_on}
use Rattle.example_queue.proofs.worker.take.Goals as goal

pub returns-clause-takes : goal.returns-clause-takes
returns-clause-takes c =
    let ran = c.run_within-answer.ensures in
    takes_on c.args.script.now c.run_within-answer.result c.args.handle.now c.run_within-answer.new.self c.requires.script ran.made ran.only
