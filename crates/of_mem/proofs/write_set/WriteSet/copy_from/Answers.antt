use Rattle.std.proofs.Common.{ℕ, ◌<◌, List, length, get_or, ◌∙◌, ap, refl, arith}
use Rattle.of_mem.specs.CellMap.{put_pair}
use Rattle.of_mem.specs.WriteSet.{WriteSet}
use Rattle.of_mem.proofs.Writes.{put_next}
use Rattle.of_mem.proofs.write_set.WriteSet.copy_from.Goals as goal

pub loop-i-preserved : goal.loop-i-preserved
loop-i-preserved c =
    let es : List (ℕ × ℕ) = c.args.other.now.entries in
    let i : ℕ = c.loop-i.i in
    let here : i < length es = omega (arith, c.len-i-end.ensures.value) in
    let entry = c.entry-addr.ensures.value in
    record {
      copied = ap (λ (w : WriteSet). w.entries) c.put.ensures ∙ ap (λ (e : ℕ × ℕ). put_pair c.loop-i.self.entries e.0 e.1) entry ∙ ap (λ (ds : List (ℕ × ℕ)). put_pair ds (get_or es i (0, 0)).0 (get_or es i (0, 0)).1) c.loop-i.invariant.copied ∙ put_next es c.len-i-end.ensures.map.once i here;
      room = ap (λ (w : WriteSet). w.room) c.put.ensures ∙ c.loop-i.invariant.room;
      other = refl;
    }
