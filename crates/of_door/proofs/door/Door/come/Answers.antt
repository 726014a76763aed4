use Rattle.std.proofs.Common.{◌≡◌, ◌∙◌, arith, None}
use Rattle.of_door.specs.Rule.{IsMemberAtDoor}
use Rattle.of_door.specs.Doors.{row_of_door, number_of_door}
use Rattle.of_door.proofs.Moves.{puts_for, nobody_there}
use Rattle.of_door.proofs.door.Door.come.Goals as goal

pub store-requires : goal.store-requires
store-requires g c =
    let d = c.args.self.now in
    let hit : c.take-found.result ≡ 1 = omega (arith, c.if-found-ne-MEMBER.false) in
    let t = c.take-found.ensures.taken.0 hit in (
      c.exchange-stood.ensures.0 ∙ c.take-found.ensures.hand ∙ c.requires.hand,
      omega (arith, d.counts.0),
      puts_for (IsMemberAtDoor (row_of_door d) (number_of_door d)) _ d.counts.1 c.exchange-stood.new.seat.id 0 c.take-found.result c.args.hand.now.seat.me c.take-found.new.seat.me c.exchange-stood.new.seat.me t.0 None c.args.hand.now.free.0 t.2 c.exchange-stood.ensures.3 (omega arith) (nobody_there (IsMemberAtDoor (row_of_door d) (number_of_door d))),
    )
