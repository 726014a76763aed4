use Rattle.std.proofs.Common.{arith}
use Rattle.of_door.specs.Rule.{IsMemberAtDoor}
use Rattle.of_door.specs.Doors.{row_of_door, number_of_door}
use Rattle.of_door.proofs.Moves.{doubles}
use Rattle.of_door.proofs.door.Door.split.Goals as goal

pub split_seat-seat-requires : goal.split_seat-seat-requires
split_seat-seat-requires g c =
    (c.requires, omega (arith, c.args.self.now.counts.0), doubles (IsMemberAtDoor (row_of_door c.args.self.now) (number_of_door c.args.self.now)) c.args.hand.now.seat.id c.args.hand.now.seat.me.0 c.args.hand.now.free.1)
