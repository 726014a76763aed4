use Rattle.std.proofs.Common.{◌<◌, ℕ, Option, length, set, ◌∙◌, ap, arith}
use Rattle.of_mem.specs.TouchedCells.{TouchedCells, cells_of}
use Rattle.of_mem.proofs.Held.{cells_size, held_fits, newest_first, newest_again}
use Rattle.of_mem.proofs.touched_cells.TouchedCells.hold.Goals as goal

pub enter-requires : goal.enter-requires
enter-requires c = omega (arith, c.requires, ap (λ (t : TouchedCells). length t.known) c.self.view_is, cells_size c.self.inside.index.room c.self.inside.index.entries c.self.inside.held.items)

pub push_reserved-requires : goal.push_reserved-requires
push_reserved-requires c =
    let inside : c.args.addr < c.self.inside.index.room = omega (arith, c.requires, ap (λ (t : TouchedCells). length t.known) c.self.view_is, cells_size c.self.inside.index.room c.self.inside.index.entries c.self.inside.held.items) in
    omega (arith, held_fits c.self.inside.index c.self.inside.held.items c.in-None.ensures.map c.self.invariant.0 c.args.addr c.in-None.ensures.place inside, c.self.invariant.1, c.self.inside.held.ok.0)

pub returns-in-Some : goal.returns-in-Some
returns-in-Some c =
    let inside : c.args.addr < c.self.inside.index.room = omega (arith, c.requires, ap (λ (t : TouchedCells). length t.known) c.self.view_is, cells_size c.self.inside.index.room c.self.inside.index.entries c.self.inside.held.items) in
    rw (c.in-Some.ensures.entries, ← c.self.view_is)
    (ap (λ (h : Option ℕ × Option ℕ). cells_of c.self.inside.index.room c.self.inside.index.entries (set c.self.inside.held.items c.in-Some.place (h.0, c.args.newest))) c.index_mut.ensures.value
    ∙ newest_again c.self.inside.index c.self.inside.held.items c.in-Some.ensures.map c.self.invariant.0 c.args.addr c.in-Some.place c.in-Some.ensures.place c.index_mut.result.now c.args.newest inside)

pub returns-in-None : goal.returns-in-None
returns-in-None c =
    let inside : c.args.addr < c.self.inside.index.room = omega (arith, c.requires, ap (λ (t : TouchedCells). length t.known) c.self.view_is, cells_size c.self.inside.index.room c.self.inside.index.entries c.self.inside.held.items) in
    rw (c.in-None.ensures.entries, c.push_reserved.ensures.items, ← c.self.view_is)
    (newest_first c.self.inside.index c.self.inside.held.items c.in-None.ensures.map c.self.invariant.0 c.args.addr c.in-None.ensures.place inside 0 c.args.newest)
