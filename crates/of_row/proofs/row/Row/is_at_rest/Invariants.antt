use Rattle.std.specs.Prelude.{Some}
use Rattle.of_row.specs.Rows.{key_of}
use Rattle.of_row.proofs.row.Row.is_at_rest.Given as goal

abbrev pub ghosts-look_up : goal.ghosts-look_up
ghosts-look_up g a = record { key = Some (key_of a.self.now) }
