use Rattle.std.proofs.Common.{ℕ, ◌+◌, subst}
use Rattle.of_mem.specs.Calls.{AnswersOfStore}
use Rattle.of_order.specs.Means.{least_from}
use Rattle.of_order.proofs.Asking.{ran_answers}
use Rattle.of_order.proofs.next.Goals as goal

pub returns-clause-answers : goal.returns-clause-answers
returns-clause-answers g c =
    subst (λ (k : ℕ). AnswersOfStore c.args.plot.now (g.C.Cells.run c.least.new.cells).part c.least.result (λ s. least_from s.map (k + 1))) c.from.ensures
    (ran_answers c.args.plot.now (c.from.result + 1) _ (g.C.Cells.run c.least.new.cells) c.least.result c.least.ensures.part c.least.ensures.runs)
