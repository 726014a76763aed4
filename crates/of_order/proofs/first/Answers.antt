use Rattle.of_order.proofs.Asking.{ran_answers}
use Rattle.of_order.proofs.first.Goals as goal

pub returns-clause-answers : goal.returns-clause-answers
returns-clause-answers g c = ran_answers c.args.plot.now 0 _ (g.C.Cells.run c.least.new.cells) c.least.result c.least.ensures.part c.least.ensures.runs
