use Rattle.std.proofs.Common.{◌≡◌, ◌<◌, ℕ, List, length, get_or, ◌∙◌, ap, sym, arith}
use Rattle.of_mem.specs.Part.{Part}
use Rattle.of_mem.specs.WriteSet.{WriteSet}
use Rattle.of_mem.specs.CellMap.{put_pair}
use Rattle.of_mem.proofs.CellPlaces.{put_all_take}
use Rattle.of_core.proofs.machine.logs.hand_to_log.Goals as goal

pub loop-i-preserved : goal.loop-i-preserved
loop-i-preserved g c =
    let script : List (ℕ × ℕ) = c.args.part.now.script in
    let i : ℕ = c.loop-i.i in
    let same : c.part-written.result.now.script ≡ script = ap (λ (p : Part). p.script) c.part-written.ensures in
    let here : i < length script = omega (arith, c.pending_len-i-end.ensures.value, ap length same) in
    let added : c.put.new.self.entries ≡ put_pair c.loop-i.log.entries (get_or script i (0, 0)).0 (get_or script i (0, 0)).1 =
    ap (λ (p : WriteSet). p.entries) c.put.ensures ∙ ap (λ (e : ℕ × ℕ). put_pair c.loop-i.log.entries e.0 e.1) (c.pending-addr.ensures.value ∙ ap (λ (es : List (ℕ × ℕ)). get_or es i (0, 0)) same)
    in
    record {
      entries = added ∙ ap (λ (ds : List (ℕ × ℕ)). put_pair ds (get_or script i (0, 0)).0 (get_or script i (0, 0)).1) c.loop-i.invariant.entries ∙ sym (put_all_take c.args.log.now.entries script i (0, 0) here);
      room = ap (λ (p : WriteSet). p.room) c.put.ensures ∙ c.loop-i.invariant.room;
      written = c.part-written.ensures;
    }
