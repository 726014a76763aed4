use Rattle.std.proofs.Common.{Some}
use Rattle.of_mem.specs.Plots.{base}
use Rattle.of_mem.proofs.OnDemand.{runs_both}
use Rattle.of_alloc.specs.BlockPrograms.{take}
use Rattle.of_map.specs.MapPrograms.{put_new}
use Rattle.of_map.proofs.PutsOn.{may_take, may_fill}
use Rattle.of_map.proofs.insert.Goals as goal

pub take-requires : goal.take-requires
take-requires g c = may_take c.args.plot.now c.args.key c.args.value _ c.requires

pub fill-requires : goal.fill-requires
fill-requires g c = may_fill c.args.plot.now c.args.key c.args.value _ c.requires (g.C.Cells.run c.take.new.cells) _ c.in-Some.block c.in_ok-take.ensures.runs c.in-Some.is

pub returns-in-Some-clause-runs : goal.returns-in-Some-clause-runs
returns-in-Some-clause-runs g c = runs_both (take c.args.plot.now) (put_new (base c.args.plot.now) c.args.plot.now.blocks c.args.key c.args.value) _ (g.C.Cells.run c.take.new.cells) (g.C.Cells.run c.fill.new.cells) _ (Some c.in-Some.block) c.fill.result c.in_ok-take.ensures.runs c.in-Some.is c.fill.ensures.runs
