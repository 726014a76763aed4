use Rattle.of_queue.proofs.Wholes.{lens_on}
use Rattle.of_queue.proofs.len.Goals as goal

pub returns-clause-answers : goal.returns-clause-answers
returns-clause-answers g c = lens_on c.args.plot.now c.args.queue c.requires.queue _ (g.C.Cells.run c.get.new.self) c.get.result c.get.ensures.part (rw c.length.ensures at c.get.ensures.runs)
