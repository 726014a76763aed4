use Rattle.std.proofs.Common.{◌≡◌, ◌<◌, length, get_or, is_some, false, None, sym, rules}
use Rattle.of_mem.proofs.Newest.{cells_learnt}
use Rattle.of_mem.proofs.Unread.{unknown_there}
use Rattle.of_mem.proofs.Walks.{kept_learnt}
use Rattle.of_mem.proofs.part.Part.learn_under.Goals as goal

pub invariant_of-self : goal.invariant_of-self
invariant_of-self c =
    let below : c.args.addr < length c.self.inside.cells.known = search rules in (
      rw (c.set.ensures, c.or.ensures, c.or-over.ensures, c.get.ensures, c.get-2.ensures) (cells_learnt c.self.inside.cells c.self.inside.batch c.self.inside.script c.args.addr c.args.value below c.self.invariant.0),
      λ kept. absurd cc,
    )

pub invariant_of-self-else-before : goal.invariant_of-self-else-before
invariant_of-self-else-before c =
    let below : c.args.addr < length c.self.inside.cells.known = search rules in
    let unknown : is_some (get_or c.self.inside.cells.known c.args.addr None) ≡ false = rw (← c.known.ensures) (sym c.if-before.ensures) in (
      rw (c.set.ensures, c.or.ensures, c.or-over.ensures, c.get.ensures, c.get-2.ensures) (cells_learnt c.self.inside.cells c.self.inside.batch c.self.inside.script c.args.addr c.args.value below c.self.invariant.0),
      rw c.set.ensures (kept_learnt _ _ _ _ (unknown_there _ unknown) c.self.invariant.1),
    )
