use Rattle.std.proofs.Common.{ℕ, ◌<◌, List, length, get_or, ◌∙◌, ap, refl, arith}
use Rattle.of_mem.specs.Newest.{part_of}
use Rattle.of_mem.specs.Part.{Part, write}
use Rattle.of_mem.proofs.Writes.{put_next}
use Rattle.of_mem.proofs.part.Part.write_anew.Goals as goal

pub loop-i-preserved : goal.loop-i-preserved
unfolding write
loop-i-preserved c =
    let es : List (ℕ × ℕ) = c.args.writes.now.entries in
    let i : ℕ = c.loop-i.i in
    let here : i < length es = omega (arith, c.len-i-end.ensures.value) in
    let p : Part = part_of c.take_back.new.cells c.self.inside.batch c.take_back.new.script in
    record {
      written = c.write.ensures.writes
          ∙ ap (λ (e : ℕ × ℕ). write c.loop-i.self e.0 e.1) c.entry-addr.ensures.value
          ∙ ap (λ (q : Part). write q (get_or es i (0, 0)).0 (get_or es i (0, 0)).1) c.loop-i.invariant.written
          ∙ ap (λ (ds : List (ℕ × ℕ)). record p { script = ds }) (put_next es c.len-i-end.ensures.map.once i here);
      writes = refl;
    }
