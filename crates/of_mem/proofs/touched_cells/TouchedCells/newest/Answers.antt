use Rattle.std.proofs.Common.{◌<◌, ℕ, Option, length, sym, ◌∙◌, ap, arith}
use Rattle.of_mem.specs.TouchedCells.{TouchedCells}
use Rattle.of_mem.proofs.Held.{cells_size, newest_none, newest_there}
use Rattle.of_mem.proofs.touched_cells.TouchedCells.newest.Goals as goal

pub returns-in_err-place : goal.returns-in_err-place
returns-in_err-place c =
    let inside : c.args.addr < c.self.inside.index.room = omega (arith, c.requires, ap (λ (t : TouchedCells). length t.known) c.self.view_is, cells_size c.self.inside.index.room c.self.inside.index.entries c.self.inside.held.items) in
    rw (← c.self.view_is) (c.from_residual.ensures ∙ sym (newest_none c.self.inside.index c.self.inside.held.items c.in_err-place.ensures.map c.self.invariant.0 c.args.addr c.in_err-place.ensures.place inside))

pub returns : goal.returns
returns c =
    let inside : c.args.addr < c.self.inside.index.room = omega (arith, c.requires, ap (λ (t : TouchedCells). length t.known) c.self.view_is, cells_size c.self.inside.index.room c.self.inside.index.entries c.self.inside.held.items) in
    rw (← c.self.view_is)
    (ap (λ (h : Option ℕ × Option ℕ). h.1) c.index.ensures
    ∙ sym (newest_there c.self.inside.index c.self.inside.held.items c.in_ok-place.ensures.map c.self.invariant.0 c.args.addr c.in_ok-place.place c.in_ok-place.ensures.place c.index.result.now inside))
