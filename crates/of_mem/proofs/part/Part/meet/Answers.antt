use Rattle.std.proofs.Common.{◌<◌, length, true, rules}
use Rattle.of_mem.specs.TouchedCells.{Meets}
use Rattle.of_mem.proofs.Newest.{cells_met}
use Rattle.of_mem.proofs.Walks.{kept_learnt}
use Rattle.of_mem.proofs.part.Part.meet.Goals as goal

pub invariant_of-self : goal.invariant_of-self
invariant_of-self c =
    let below : c.args.addr < length c.self.inside.cells.known = search rules in
    let met : Meets c.self.inside.cells c.meet.new.self c.args.addr c.args.value true = c.if-meet.ensures in (
      cells_met c.self.inside.cells c.meet.new.self c.self.inside.batch c.self.inside.script c.args.addr c.args.value below met c.self.invariant.0,
      rw met.2 (kept_learnt _ _ _ _ met.0 c.self.invariant.1),
    )
