use Rattle.std.proofs.Common.{arith}
use Rattle.std.specs.Mem.Slots.{slots_items}
use Rattle.of_row.proofs.Closes.{part_copied}
use Rattle.of_row.proofs.row.copy_out.Goals as goal

pub returns : goal.returns
returns c =
    let inv = c.loop-i.invariant in
    part_copied (slots_items c.args.closed.now.words) c.loop-i.room.items c.args.first c.args.count (omega (arith, c.requires.part, c.args.closed.now.words.ok.0)) (omega (arith, inv.long, inv.within, c.loop-i-test.false)) (λ k l. inv.same k (omega (arith, l, inv.long, inv.within, c.loop-i-test.false)))
