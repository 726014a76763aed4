use Rattle.std.proofs.Common.{Some, None, Ok}
use Rattle.std.proofs.lemmas.Result.{err_from_is_err_and}
use Rattle.of_mem.specs.Plots.{base}
use Rattle.of_mem.proofs.OnDemand.{runs_both, runs_done, lacks_first}
use Rattle.of_map.specs.MapPrograms.{seek, del_found}
use Rattle.of_map.proofs.GetsOn.{may_seek, may_at_place}
use Rattle.of_map.proofs.DelsOn.{dels_on}
use Rattle.of_map.proofs.del.Goals as goal

pub seek-requires : goal.seek-requires
seek-requires g c = may_seek c.args.plot.now c.args.key (del_found (base c.args.plot.now)) _ c.requires

pub returns-in_err-seek-clause-runs : goal.returns-in_err-seek-clause-runs
returns-in_err-seek-clause-runs g c =
    let p = err_from_is_err_and c.from_residual.result c.from_residual.ensures.1 in
    rw (p.1, p.2) (lacks_first (seek c.args.plot.now c.args.key) (del_found (base c.args.plot.now)) _ (g.C.Cells.run c.seek.new.cells) c.in_err-seek.field-0.0 c.in_err-seek.ensures.runs)

pub unlink-requires : goal.unlink-requires
unlink-requires g c = may_at_place c.args.plot.now c.args.key (del_found (base c.args.plot.now)) _ c.requires (g.C.Cells.run c.seek.new.cells) _ c.in_ok-seek.ensures.part c.in_ok-seek.ensures.runs c.in-Some.place c.in-Some.is

pub returns-in-None-clause-runs : goal.returns-in-None-clause-runs
returns-in-None-clause-runs g c = runs_both (seek c.args.plot.now c.args.key) (del_found (base c.args.plot.now)) _ (g.C.Cells.run c.seek.new.cells) (g.C.Cells.run c.seek.new.cells) _ None (Ok None) c.in_ok-seek.ensures.runs c.in-None.is (runs_done (g.C.Cells.run c.seek.new.cells) None c.in_ok-seek.ensures.runs.goes.knows)

pub returns-in-None-clause-acts : goal.returns-in-None-clause-acts
returns-in-None-clause-acts g c = dels_on c.args.plot.now c.args.key _ (g.C.Cells.run c.seek.new.cells) (Ok None) (returns-in-None-clause-runs g c)

pub returns-in-Some-clause-runs : goal.returns-in-Some-clause-runs
returns-in-Some-clause-runs g c = runs_both (seek c.args.plot.now c.args.key) (del_found (base c.args.plot.now)) _ (g.C.Cells.run c.seek.new.cells) (g.C.Cells.run c.unlink.new.cells) _ (Some c.in-Some.place) c.unlink.result c.in_ok-seek.ensures.runs c.in-Some.is c.unlink.ensures

pub returns-in-Some-clause-acts : goal.returns-in-Some-clause-acts
returns-in-Some-clause-acts g c = dels_on c.args.plot.now c.args.key _ (g.C.Cells.run c.unlink.new.cells) c.unlink.result (returns-in-Some-clause-runs g c)
