use Rattle.of_mem.specs.Calls.{HasStore}
use Rattle.of_mem.proofs.OnDemand.{goes_further}
use Rattle.of_order.specs.OrderPrograms as program
use Rattle.of_order.proofs.Asking.{may_still, came_still}
use Rattle.of_order.proofs.pass_bucket.Goals as goal

pub pass_block-requires-clause-may : goal.pass_block-requires-clause-may
pass_block-requires-clause-may g c =
    let h = c.loop-step.invariant in
    may_still (program.least c.args.plot.now c.args.low) (HasStore c.args.plot.now) _ (g.C.Cells.run c.loop-step.cells) c.requires.may h.same h.goes

pub keep_walk_to-requires : goal.keep_walk_to-requires
keep_walk_to-requires g c = came_still c.args.plot.now c.args.low c.loop-step.here (g.C.Cells.run c.loop-step.cells) (g.C.Cells.run c.pass_block.new.cells) c.in-Err.ensures.part c.in-Err.ensures.goes c.loop-step.invariant.came

pub returns-in-Err-clause-goes : goal.returns-in-Err-clause-goes
returns-in-Err-clause-goes g c = rw c.keep_walk_to.ensures (goes_further _ (g.C.Cells.run c.loop-step.cells) (g.C.Cells.run c.pass_block.new.cells) c.loop-step.invariant.goes c.in-Err.ensures.goes)

pub returns-in-Ok-None-clause-goes : goal.returns-in-Ok-None-clause-goes
returns-in-Ok-None-clause-goes g c = goes_further _ (g.C.Cells.run c.loop-step.cells) (g.C.Cells.run c.pass_block.new.cells) c.loop-step.invariant.goes c.in-Ok-None.ensures.goes
