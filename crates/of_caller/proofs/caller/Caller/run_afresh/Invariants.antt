use Rattle.std.specs.Prelude.{Some}
use Rattle.of_caller.specs.Fronts.{front_now}
use Rattle.of_caller.proofs.caller.Caller.run_afresh.Given as goal

abbrev pub ghosts-run : goal.ghosts-run
ghosts-run g a = record { front = Some (front_now g.W.Work.meaning a.cells.now.row.now g.K.RunKind.scans a.cells.now.caller a.cells.now.brake a.cells.now.steps) }
