use Rattle.std.proofs.Common.{refl, arith}
use Rattle.of_mem.proofs.OnDemand.{goes_nowhere}
use Rattle.of_map.proofs.WalkingOn.{may_look, may_keep, lacks_there, ends_there, finds_there, walks_past, walked_all}
use Rattle.of_map.proofs.seek.Goals as goal

pub loop-passed-init : goal.loop-passed-init
loop-passed-init g c = record {
  same = refl;
  goes = goes_nowhere (g.C.Cells.run c.args.cells.now) c.requires.knows;
  few = omega (arith, c.walk_to-start.ensures.0);
  passes = c.walk_to-start.ensures.1;
}

pub look-requires : goal.look-requires
look-requires g c = may_look c.args.plot.now c.args.key _ (g.C.Cells.run c.loop-passed.cells) c.loop-passed.passed c.loop-passed.cell c.requires c.loop-passed.invariant c.loop-passed-test.true

pub keep_walk_to-requires : goal.keep_walk_to-requires
keep_walk_to-requires g c = may_keep c.args.plot.now c.args.key _ (g.C.Cells.run c.loop-passed.cells) c.loop-passed.passed c.loop-passed.cell c.loop-passed.invariant c.loop-passed-test.true (g.C.Cells.run c.look.new.cells) c.in-Err.ensures.part c.in-Err.ensures.goes

pub returns-in-Err-clause-runs : goal.returns-in-Err-clause-runs
returns-in-Err-clause-runs g c = rw c.keep_walk_to.ensures (lacks_there c.args.plot.now c.args.key _ (g.C.Cells.run c.loop-passed.cells) c.loop-passed.passed c.loop-passed.cell c.loop-passed.invariant c.loop-passed-test.true (g.C.Cells.run c.look.new.cells) c.in-Err.ensures.part c.in-Err.ensures.goes c.in-Err.need c.in-Err.ensures.looks)

pub keep_walk_to-requires-in-Ok-End : goal.keep_walk_to-requires-in-Ok-End
keep_walk_to-requires-in-Ok-End g c = may_keep c.args.plot.now c.args.key _ (g.C.Cells.run c.loop-passed.cells) c.loop-passed.passed c.loop-passed.cell c.loop-passed.invariant c.loop-passed-test.true (g.C.Cells.run c.look.new.cells) c.in-Ok-End.ensures.part c.in-Ok-End.ensures.goes

pub returns-in-Ok-End-clause-runs : goal.returns-in-Ok-End-clause-runs
returns-in-Ok-End-clause-runs g c = rw c.keep_walk_to-in-Ok-End.ensures (ends_there c.args.plot.now c.args.key _ (g.C.Cells.run c.loop-passed.cells) c.loop-passed.passed c.loop-passed.cell c.loop-passed.invariant c.loop-passed-test.true (g.C.Cells.run c.look.new.cells) c.in-Ok-End.ensures.part c.in-Ok-End.ensures.goes _ c.in-Ok-End.field-0-is c.in-Ok-End.ensures.looks)

pub keep_walk_to-requires-in-Ok-Here : goal.keep_walk_to-requires-in-Ok-Here
keep_walk_to-requires-in-Ok-Here g c = may_keep c.args.plot.now c.args.key _ (g.C.Cells.run c.loop-passed.cells) c.loop-passed.passed c.loop-passed.cell c.loop-passed.invariant c.loop-passed-test.true (g.C.Cells.run c.look.new.cells) c.in-Ok-Here.ensures.part c.in-Ok-Here.ensures.goes

pub returns-in-Ok-Here-clause-runs : goal.returns-in-Ok-Here-clause-runs
returns-in-Ok-Here-clause-runs g c = rw c.keep_walk_to-in-Ok-Here.ensures (finds_there c.args.plot.now c.args.key _ (g.C.Cells.run c.loop-passed.cells) c.loop-passed.passed c.loop-passed.cell c.loop-passed.invariant c.loop-passed-test.true (g.C.Cells.run c.look.new.cells) c.in-Ok-Here.ensures.part c.in-Ok-Here.ensures.goes _ c.in-Ok-Here.block c.in-Ok-Here.field-0-is c.in-Ok-Here.ensures.looks)

pub loop-passed-preserved : goal.loop-passed-preserved
loop-passed-preserved g c = walks_past c.args.plot.now c.args.key _ (g.C.Cells.run c.loop-passed.cells) c.loop-passed.passed c.loop-passed.cell c.loop-passed.invariant c.loop-passed-test.true (g.C.Cells.run c.look.new.cells) c.in-Ok-Past.ensures.part c.in-Ok-Past.ensures.goes _ c.in-Ok-Past.link c.in-Ok-Past.field-0-is c.in-Ok-Past.ensures.looks

pub returns-clause-runs : goal.returns-clause-runs
returns-clause-runs g c = walked_all c.args.plot.now c.args.key _ (g.C.Cells.run c.loop-passed.cells) c.loop-passed.passed c.loop-passed.cell c.loop-passed.invariant (omega (arith, c.loop-passed-test.false))
