use Rattle.std.proofs.Common.{Some, None, Ok}
use Rattle.std.proofs.lemmas.Result.{err_from_is_err_and}
use Rattle.of_mem.specs.Plots.{base}
use Rattle.of_mem.proofs.OnDemand.{runs_both, runs_done, lacks_first, only_read_on}
use Rattle.of_map.specs.MapPrograms.{seek, get_at}
use Rattle.of_map.proofs.GetsOn.{may_seek, may_at_block, place_below, gets_on}
use Rattle.of_map.proofs.get.Goals as goal

pub seek-requires : goal.seek-requires
seek-requires g c = may_seek c.args.plot.now c.args.key (get_at (base c.args.plot.now)) _ c.requires

pub returns-in_err-seek-clause-runs : goal.returns-in_err-seek-clause-runs
returns-in_err-seek-clause-runs g c =
    let p = err_from_is_err_and c.from_residual.result c.from_residual.ensures.1 in
    rw (p.1, p.2) (lacks_first (seek c.args.plot.now c.args.key) (get_at (base c.args.plot.now)) _ (g.C.Cells.run c.seek.new.cells) c.in_err-seek.field-0.0 c.in_err-seek.ensures.runs)

pub read_value-requires-clause-run : goal.read_value-requires-clause-run
read_value-requires-clause-run g c = may_at_block c.args.plot.now c.args.key (get_at (base c.args.plot.now)) _ c.requires (g.C.Cells.run c.seek.new.cells) _ c.in_ok-seek.ensures.part c.in_ok-seek.ensures.runs c.in-Some.place c.in-Some.is

pub read_value-requires-clause-block : goal.read_value-requires-clause-block
read_value-requires-clause-block g c = place_below c.args.plot.now c.args.key (get_at (base c.args.plot.now)) _ c.requires (g.C.Cells.run c.seek.new.cells) _ c.in_ok-seek.ensures.part c.in_ok-seek.ensures.runs c.in-Some.place c.in-Some.is

pub returns-in-None-clause-runs : goal.returns-in-None-clause-runs
returns-in-None-clause-runs g c = runs_both (seek c.args.plot.now c.args.key) (get_at (base c.args.plot.now)) _ (g.C.Cells.run c.seek.new.cells) (g.C.Cells.run c.seek.new.cells) _ None (Ok None) c.in_ok-seek.ensures.runs c.in-None.is (runs_done (g.C.Cells.run c.seek.new.cells) None c.in_ok-seek.ensures.runs.goes.knows)

pub returns-in-None-clause-answers : goal.returns-in-None-clause-answers
returns-in-None-clause-answers g c = gets_on c.args.plot.now c.args.key _ (g.C.Cells.run c.seek.new.cells) (Ok None) c.in_ok-seek.ensures.part (returns-in-None-clause-runs g c)

pub returns-in-Some-clause-runs : goal.returns-in-Some-clause-runs
returns-in-Some-clause-runs g c = runs_both (seek c.args.plot.now c.args.key) (get_at (base c.args.plot.now)) _ (g.C.Cells.run c.seek.new.cells) (g.C.Cells.run c.read_value.new.cells) _ (Some c.in-Some.place) c.read_value.result c.in_ok-seek.ensures.runs c.in-Some.is c.read_value.ensures.runs

pub returns-in-Some-clause-answers : goal.returns-in-Some-clause-answers
returns-in-Some-clause-answers g c = gets_on c.args.plot.now c.args.key _ (g.C.Cells.run c.read_value.new.cells) c.read_value.result (only_read_on (g.C.Cells.run c.args.cells.now).part (g.C.Cells.run c.seek.new.cells).part (g.C.Cells.run c.read_value.new.cells).part c.in_ok-seek.ensures.part c.read_value.ensures.part) (returns-in-Some-clause-runs g c)
