use Rattle.std.proofs.Common.{◌≡◌, ◌∙◌, arith, Some}
use Rattle.of_door.specs.Rule.{IsMemberAtDoor}
use Rattle.of_door.specs.Doors.{row_of_door, number_of_door}
use Rattle.of_door.proofs.Moves.{puts_for, parted_rests}
use Rattle.of_door.proofs.door.Door.leave.Goals as goal

pub store-requires : goal.store-requires
store-requires g c =
    let d = c.args.self.now in
    let hit : c.take-found.result ≡ 0 = omega (arith, c.if-found-ne-NOBODY.false) in
    let t = c.take-found.ensures.taken.0 hit in
    let p = c.part-member in
    let stands = parted_rests (row_of_door d) c.args.row.now (number_of_door d) c.args.member p.result.0 c.requires.row c.requires.number c.requires.idle p.ensures.row.0 p.ensures.member p.ensures.number.0 in (
      c.exchange.ensures.0 ∙ c.take-found.ensures.hand ∙ c.requires.hand,
      omega (arith, d.counts.0),
      puts_for (IsMemberAtDoor (row_of_door d) (number_of_door d)) _ d.counts.1 c.exchange.new.seat.id 1 c.take-found.result c.args.hand.now.seat.me c.take-found.new.seat.me c.exchange.new.seat.me t.0 (Some p.result.0) c.args.hand.now.free.0 t.2 c.exchange.ensures.3 (omega arith) stands,
    )
