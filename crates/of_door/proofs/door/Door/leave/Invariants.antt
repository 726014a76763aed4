use Rattle.std.specs.Prelude.{Some}
use Rattle.of_door.specs.Doors.{row_of_door, number_of_door}
use Rattle.of_door.proofs.door.Door.leave.Given as goal

abbrev pub ghosts-take : goal.ghosts-take
ghosts-take g a = record { at_row = Some (row_of_door a.self.now); number = number_of_door a.self.now }
