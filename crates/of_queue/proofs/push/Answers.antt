use Rattle.std.proofs.Common.{Some, Ok, false, rules}
use Rattle.of_mem.specs.Plots.{base}
use Rattle.of_mem.proofs.OnDemand.{runs_both}
use Rattle.of_alloc.specs.BlockPrograms.{take}
use Rattle.of_queue.specs.QueuePrograms.{push_new}
use Rattle.of_queue.proofs.AppendsOn.{may_take, may_append, pushes_on, only_pushed}
use Rattle.of_queue.proofs.push.Goals as goal

pub take-requires : goal.take-requires
take-requires g c = may_take c.args.plot.now c.args.queue c.args.value _ c.requires.may

pub append-requires : goal.append-requires
append-requires g c = may_append c.args.plot.now c.args.queue c.args.value _ c.requires.may c.requires.item.0 (g.C.Cells.run c.take.new.cells) _ c.in-Some.block c.in_ok-take.ensures.runs c.in-Some.is

pub returns-in-None-clause-pushes : goal.returns-in-None-clause-pushes
returns-in-None-clause-pushes g c = record {
  acts = pushes_on c.args.plot.now c.args.queue c.args.value c.requires.item (g.C.Cells.run c.args.cells.now) (g.C.Cells.run c.take.new.cells) (Ok false) (search rules);
  full = λ _. c.in_ok-take.ensures.takes.none c.in-None.is;
}

pub returns-in-Some-clause-runs : goal.returns-in-Some-clause-runs
returns-in-Some-clause-runs g c = runs_both (take c.args.plot.now) (push_new (base c.args.plot.now) c.args.queue c.args.value) _ (g.C.Cells.run c.take.new.cells) (g.C.Cells.run c.append.new.cells) _ (Some c.in-Some.block) c.append.result c.in_ok-take.ensures.runs c.in-Some.is c.append.ensures.runs

pub returns-in-Some-clause-pushes : goal.returns-in-Some-clause-pushes
returns-in-Some-clause-pushes g c = record {
  acts = pushes_on c.args.plot.now c.args.queue c.args.value c.requires.item _ (g.C.Cells.run c.append.new.cells) c.append.result (returns-in-Some-clause-runs g c);
  full = only_pushed _ c.append.result c.append.ensures.pushed;
}
