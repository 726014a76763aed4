use Rattle.std.proofs.Common.{◌<◌, Some, length, ap, arith}
use Rattle.of_mem.specs.TouchedCells.{TouchedCells}
use Rattle.of_mem.proofs.Held.{cells_size, held_fits, known_none, newest_none, both_first}
use Rattle.of_mem.proofs.touched_cells.TouchedCells.meet.Goals as goal

pub enter-requires : goal.enter-requires
enter-requires c = omega (arith, c.requires, ap (λ (t : TouchedCells). length t.known) c.self.view_is, cells_size c.self.inside.index.room c.self.inside.index.entries c.self.inside.held.items)

pub push_reserved-requires : goal.push_reserved-requires
push_reserved-requires c =
    let inside : c.args.addr < c.self.inside.index.room = omega (arith, c.requires, ap (λ (t : TouchedCells). length t.known) c.self.view_is, cells_size c.self.inside.index.room c.self.inside.index.entries c.self.inside.held.items) in
    omega (arith, held_fits c.self.inside.index c.self.inside.held.items c.in-None.ensures.map c.self.invariant.0 c.args.addr c.in-None.ensures.place inside, c.self.invariant.1, c.self.inside.held.ok.0)

pub returns-in-Some : goal.returns-in-Some
returns-in-Some c = rw c.in-Some.ensures.entries c.self.view_is

pub returns-in-None : goal.returns-in-None
returns-in-None c =
    let inside : c.args.addr < c.self.inside.index.room = omega (arith, c.requires, ap (λ (t : TouchedCells). length t.known) c.self.view_is, cells_size c.self.inside.index.room c.self.inside.index.entries c.self.inside.held.items) in
    rw (c.in-None.ensures.entries, c.push_reserved.ensures.items, ← c.self.view_is)
    (known_none c.self.inside.index c.self.inside.held.items c.in-None.ensures.map c.self.invariant.0 c.args.addr c.in-None.ensures.place inside, newest_none c.self.inside.index c.self.inside.held.items c.in-None.ensures.map c.self.invariant.0 c.args.addr c.in-None.ensures.place inside, both_first c.self.inside.index c.self.inside.held.items c.in-None.ensures.map c.self.invariant.0 c.args.addr c.in-None.ensures.place inside 0 (Some c.args.value, Some c.args.value))
