use Rattle.std.proofs.Common.{refl}
use Rattle.of_mem.specs.Plots.{base}
use Rattle.of_mem.proofs.OnDemand.{runs_both}
use Rattle.of_alloc.specs.BlockPrograms.{give}
use Rattle.of_map.specs.MapPrograms.{value_after_give}
use Rattle.of_map.proofs.DelsOn.{may_count_down}
use Rattle.of_map.proofs.give_back.Goals as goal

pub count_down-requires : goal.count_down-requires
count_down-requires g c = may_count_down c.args.plot.now c.args.block c.args.value _ c.requires (g.C.Cells.run c.give.new.cells) c.in_ok-give.ensures.runs

pub returns : goal.returns
returns g c = runs_both (give c.args.plot.now c.args.block) (value_after_give (base c.args.plot.now) c.args.value) _ (g.C.Cells.run c.give.new.cells) (g.C.Cells.run c.count_down.new.cells) tt tt c.count_down.result c.in_ok-give.ensures.runs refl c.count_down.ensures
