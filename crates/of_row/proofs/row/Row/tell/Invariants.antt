use Rattle.of_row.specs.Rows.{setup_at, row_start}
use Rattle.of_row.proofs.row.Row.tell.Given as goal

abbrev pub ghosts-recall : goal.ghosts-recall
ghosts-recall g a = record { setup = setup_at g.W.Work.meaning a.self.now; start = row_start g.W.Work.meaning a.self.now; number = 0 }
