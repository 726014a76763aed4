use Rattle.std.proofs.Common.{◌≡◌, ◌<◌, length, None, get_or, ◌∙◌, ap, arith}
use Rattle.std.specs.Option.{option_or}
use Rattle.of_mem.specs.CellMap.{value_for, entry_address}
use Rattle.of_mem.specs.Part.{Part}
use Rattle.of_mem.specs.Newest.{part_of}
use Rattle.of_mem.specs.TouchedCells.{TouchedCells}
use Rattle.of_mem.proofs.Newest.{newest_undone}
use Rattle.of_mem.proofs.part.take_back.Goals as goal

pub loop-i-preserved : goal.loop-i-preserved
loop-i-preserved c =
    let p : Part = part_of c.args.cells.now c.args.batch.now c.args.script.now in
    let here : c.loop-i.i < length p.script = omega (arith, c.len-i-end.ensures.value) in
    let at : c.entry-addr.result.0 ≡ entry_address p.script c.loop-i.i = cc in
    let room : c.args.script.now.room ≡ length p.known = c.requires.script in
    let below : entry_address p.script c.loop-i.i < length p.known = omega (arith, c.entry-addr.ensures.below, room, at) in
    let held : c.or-under.result ≡ option_or (value_for p.batch (entry_address p.script c.loop-i.i)) (get_or p.known (entry_address p.script c.loop-i.i) None) = cc in
    record {
      newest = rw (c.hold.ensures, held, at) (newest_undone p c.args.script.now.room c.loop-i.cells.newest c.loop-i.i c.len-i-end.ensures.map here below c.loop-i.invariant.newest);
      batch = cc;
      script = cc;
      known = ap (λ (t : TouchedCells). t.known) c.hold.ensures ∙ c.loop-i.invariant.known;
    }
