use Rattle.std.proofs.Common.{◌≡◌, ◌<◌, length, ap, rules}
use Rattle.of_mem.specs.CellMap.{put_pair}
use Rattle.of_mem.specs.WriteSet.{WriteSet}
use Rattle.of_mem.specs.Newest.{HoldsNewest, part_of}
use Rattle.of_mem.specs.Part.{Part, write}
use Rattle.of_mem.proofs.Newest.{newest_wrote}
use Rattle.of_mem.proofs.part.Part.write.Goals as goal
use Rattle.of_mem.proofs.part.Part.write.Goals.{then-self, else-self}

pub invariant_of-self : goal.invariant_of-self
unfolding write
invariant_of-self c =
    let holds : HoldsNewest c.if-self.self-inside.cells c.if-self.self-inside.batch c.if-self.self-inside.script = elim c.if-self.branch [ then-self w ↦ rw w.self-inside-is w.take_back.ensures.newest | else-self w ↦ rw w.self-inside-is c.self.invariant.0 ] in
    let p : Part = part_of c.if-self.self-inside.cells c.if-self.self-inside.batch c.if-self.self-inside.script in
    let below : c.args.addr < length p.known = elim c.if-self.branch [ then-self w ↦ rw (w.self-inside-is, w.take_back.ensures.known) (search rules) | else-self w ↦ rw w.self-inside-is (search rules) ] in
    let entries : c.put.new.self.entries ≡ put_pair p.script c.args.addr c.args.value = ap (λ (w : WriteSet). w.entries) c.put.ensures in (
      rw (c.hold.ensures, c.put.ensures) (record {
        batch = holds.batch;
        script = holds.script;
        newest = newest_wrote p _ c.args.addr c.args.value below holds.newest;
      }),
      λ kept. absurd cc,
    )
