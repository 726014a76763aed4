use Rattle.std.proofs.Common.{Some, None}
use Rattle.std.proofs.lemmas.Result.{err_from_is_err_and}
use Rattle.of_mem.specs.Plots.{base}
use Rattle.of_mem.proofs.OnDemand.{runs_both, lacks_first}
use Rattle.of_map.specs.MapPrograms.{seek, put_found}
use Rattle.of_map.proofs.GetsOn.{may_seek, may_after_seek, may_at_block, place_below}
use Rattle.of_map.proofs.PutsOn.{puts_on, only_over, full_behind}
use Rattle.of_map.proofs.put.Goals as goal

pub seek-requires : goal.seek-requires
seek-requires g c = may_seek c.args.plot.now c.args.key (put_found (base c.args.plot.now) c.args.plot.now.blocks c.args.key c.args.value) _ c.requires.may

pub returns-in_err-place-clause-runs : goal.returns-in_err-place-clause-runs
returns-in_err-place-clause-runs g c =
    let p = err_from_is_err_and c.from_residual.result c.from_residual.ensures.1 in
    rw (p.1, p.2) (lacks_first (seek c.args.plot.now c.args.key) (put_found (base c.args.plot.now) c.args.plot.now.blocks c.args.key c.args.value) _ (g.C.Cells.run c.seek.new.cells) c.in_err-place.field-0.0 c.in_err-place.ensures.runs)

pub change-requires-clause-may : goal.change-requires-clause-may
change-requires-clause-may g c = may_at_block c.args.plot.now c.args.key (put_found (base c.args.plot.now) c.args.plot.now.blocks c.args.key c.args.value) _ c.requires.may (g.C.Cells.run c.seek.new.cells) _ c.in_ok-place.ensures.part c.in_ok-place.ensures.runs c.in-Some.place c.in-Some.is

pub change-requires-clause-block : goal.change-requires-clause-block
change-requires-clause-block g c = place_below c.args.plot.now c.args.key (put_found (base c.args.plot.now) c.args.plot.now.blocks c.args.key c.args.value) _ c.requires.may (g.C.Cells.run c.seek.new.cells) _ c.in_ok-place.ensures.part c.in_ok-place.ensures.runs c.in-Some.place c.in-Some.is

pub insert-requires : goal.insert-requires
insert-requires g c = may_after_seek c.args.plot.now c.args.key (put_found (base c.args.plot.now) c.args.plot.now.blocks c.args.key c.args.value) _ c.requires.may (g.C.Cells.run c.seek.new.cells) _ c.in_ok-place.ensures.part c.in_ok-place.ensures.runs None c.in-None.is

pub returns-in-Some-clause-runs : goal.returns-in-Some-clause-runs
returns-in-Some-clause-runs g c = runs_both (seek c.args.plot.now c.args.key) (put_found (base c.args.plot.now) c.args.plot.now.blocks c.args.key c.args.value) _ (g.C.Cells.run c.seek.new.cells) (g.C.Cells.run c.change.new.cells) _ (Some c.in-Some.place) c.change.result c.in_ok-place.ensures.runs c.in-Some.is c.change.ensures.runs

pub returns-in-Some-clause-puts : goal.returns-in-Some-clause-puts
returns-in-Some-clause-puts g c = record {
  acts = puts_on c.args.plot.now c.args.key c.args.value c.requires.pair _ (g.C.Cells.run c.change.new.cells) c.change.result (returns-in-Some-clause-runs g c);
  full = only_over _ c.change.result c.change.ensures.over;
}

pub returns-in-None-clause-runs : goal.returns-in-None-clause-runs
returns-in-None-clause-runs g c = runs_both (seek c.args.plot.now c.args.key) (put_found (base c.args.plot.now) c.args.plot.now.blocks c.args.key c.args.value) _ (g.C.Cells.run c.seek.new.cells) (g.C.Cells.run c.insert.new.cells) _ None c.insert.result c.in_ok-place.ensures.runs c.in-None.is c.insert.ensures.runs

pub returns-in-None-clause-puts : goal.returns-in-None-clause-puts
returns-in-None-clause-puts g c = record {
  acts = puts_on c.args.plot.now c.args.key c.args.value c.requires.pair _ (g.C.Cells.run c.insert.new.cells) c.insert.result (returns-in-None-clause-runs g c);
  full = full_behind (g.C.Cells.run c.args.cells.now) (g.C.Cells.run c.seek.new.cells) (g.C.Cells.run c.insert.new.cells) c.insert.result c.in_ok-place.ensures.part c.insert.ensures.full;
}
