use Rattle.std.proofs.Common.{◌+◌, ◌<◌, ℕ, List, length, get_or, ◌∙◌, ap, sym, arith}
use Rattle.of_mem.specs.Part.{Part}
use Rattle.of_mem.specs.CellMap.{put_pair}
use Rattle.of_core.proofs.Puts.{put_listed, wrote_script}
use Rattle.of_core.proofs.machine.logs.put_reply.Goals as goal

pub loop-j-preserved : goal.loop-j-preserved
loop-j-preserved g c =
    let j : ℕ = c.loop-j.j in
    let vs : List ℕ = c.args.raw.now.values in
    let here : j < length vs = omega arith in
    let more = put_listed c.args.part.now.script (c.args.row + 2) vs j here in
    let wrote = ap (λ (p : Part). p.script) c.write.ensures.writes ∙ wrote_script c.loop-j.part (c.args.row + 2 + j) (get_or vs j 0) in
    record {
      script = wrote ∙ ap (λ (es : List (ℕ × ℕ)). put_pair es (c.args.row + 2 + j) (get_or vs j 0)) c.loop-j.invariant.script ∙ sym more;
      known = c.write.ensures.known ∙ c.loop-j.invariant.known;
      batch = c.write.ensures.batch ∙ c.loop-j.invariant.batch;
    }
