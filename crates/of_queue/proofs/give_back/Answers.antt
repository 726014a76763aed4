use Rattle.std.proofs.Common.{refl}
use Rattle.of_mem.specs.Plots.{base}
use Rattle.of_mem.proofs.OnDemand.{runs_both}
use Rattle.of_alloc.specs.BlockPrograms.{give}
use Rattle.of_queue.specs.QueuePrograms.{item_after_give}
use Rattle.of_queue.proofs.PopsOn.{may_count_down}
use Rattle.of_queue.proofs.give_back.Goals as goal

pub count_down-requires : goal.count_down-requires
count_down-requires g c = may_count_down c.args.plot.now c.args.queue c.args.block c.args.item _ (g.C.Cells.run c.give.new.cells) c.requires c.in_ok-give.ensures.runs

pub returns : goal.returns
returns g c = runs_both (give c.args.plot.now c.args.block) (item_after_give (base c.args.plot.now) c.args.queue c.args.item) _ (g.C.Cells.run c.give.new.cells) (g.C.Cells.run c.count_down.new.cells) tt tt c.count_down.result c.in_ok-give.ensures.runs refl c.count_down.ensures
