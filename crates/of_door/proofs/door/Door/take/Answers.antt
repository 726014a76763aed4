use Rattle.std.proofs.Common.{arith, ℕ, sym, subst, Option}
use Rattle.of_row.specs.declared.row.Row.{Row}
use Rattle.of_door.specs.Rule.{IsMemberAtToldDoor, TakesSlot}
use Rattle.of_door.specs.Doors.{row_of_door, number_of_door}
use Rattle.of_door.proofs.Moves.{takes_for}
use Rattle.of_door.proofs.door.Door.take.Goals as goal

pub compare_exchange-requires : goal.compare_exchange-requires
compare_exchange-requires g c =
    let d = c.args.self.now in (
      c.requires.hand,
      omega (arith, d.counts.0),
      takes_for (row_of_door d) (number_of_door d) _ (sym c.requires.row) _ (sym c.requires.number) _ d.counts.1 c.args.seat.now.id c.args.old c.args.seat.now.me c.requires.old c.requires.free,
    )

pub returns-clause-taken : goal.returns-clause-taken
returns-clause-taken g c =
    subst (λ (z : Option (Row _) × ℕ). TakesSlot (IsMemberAtToldDoor z.0 z.1) c.args.old c.args.seat.now.me c.compare_exchange.result c.compare_exchange.new.seat.me) (λ i. (c.requires.row i, c.requires.number i)) c.compare_exchange.ensures.2
