use Rattle.std.proofs.Common.{◌≡◌, ◌<◌, ℕ, List, [], length, get_or, take, ◌∙◌, ap, sym, arith}
use Rattle.std.proofs.lemmas.List.{take_all}
use Rattle.of_mem.specs.Part.{Part}
use Rattle.of_mem.specs.CellMap.{put_pair, put_all}
use Rattle.of_mem.proofs.CellPlaces.{put_all_take}
use Rattle.of_core.proofs.Puts.{wrote_script}
use Rattle.of_core.proofs.OwedRuns.{put_whole, wrote_part}
use Rattle.of_core.proofs.machine.logs.put_writes.Goals as goal

pub loop-i-preserved : goal.loop-i-preserved
loop-i-preserved g c =
    let es : List (ℕ × ℕ) = c.args.writes.now.entries in
    let i : ℕ = c.loop-i.i in
    let here : i < length es = omega (arith, c.len-i-end.ensures.value) in
    record {
      part = wrote_part c.args.part.now c.loop-i.part c.write.new.self es i _ _ c.loop-i.invariant.part c.write.ensures.writes c.entry-addr.ensures.value here;
    }

pub returns : goal.returns
returns g c =
    let es : List (ℕ × ℕ) = c.args.writes.now.entries in
    let all : take c.loop-i.i es ≡ es = take_all c.loop-i.i es (omega (arith, c.len-i-end.ensures.value)) in
    c.loop-i.invariant.part ∙ ap (λ (ds : List (ℕ × ℕ)). record c.args.part.now { script = put_all [] ds }) all ∙ ap (λ (ds : List (ℕ × ℕ)). record c.args.part.now { script = ds }) (put_whole c.args.writes.now c.len-i-end.ensures.map)
