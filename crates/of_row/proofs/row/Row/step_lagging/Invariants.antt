use Rattle.std.specs.Prelude.{Some}
use Rattle.of_core.specs.Lagging.{at_place}
use Rattle.of_row.specs.Rows.{row_start}
use Rattle.of_row.proofs.row.Row.step_lagging.Given as goal

abbrev pub ghosts-make_lagging : goal.ghosts-make_lagging
ghosts-make_lagging g a = record { machine = Some (at_place a.machine.now a.place a.more); start = row_start g.W.Work.meaning a.self.now }
