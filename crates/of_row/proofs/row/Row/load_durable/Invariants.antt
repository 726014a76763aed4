use Rattle.std.specs.Prelude.{Some}
use Rattle.of_row.specs.Rows.{key_of}
use Rattle.of_row.proofs.row.Row.load_durable.Given as goal

abbrev pub ghosts-learn_all : goal.ghosts-learn_all
ghosts-learn_all g a = record { key = Some (key_of a.self.now) }

abbrev pub ghosts-load_all : goal.ghosts-load_all
ghosts-load_all g a = record { key = Some (key_of a.self.now) }
