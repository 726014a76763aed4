use Rattle.std.proofs.Common.{◌≡◌, ◌∙◌, ap, refl, sym, subst, ℕ, ◌<◌, ◌+◌, List, [], ◌∷◌, length, get_or, take, arith}
use Rattle.std.proofs.lemmas.Bool.Decides.{nat_tests}
use Rattle.of_mem.specs.CellMap.{put_pair, put_all}
use Rattle.of_mem.specs.WriteSet.{WriteSet}
use Rattle.of_mem.specs.Meaning.{HasDistinctCells}
use Rattle.of_mem.specs.Newest.{HasNewest, part_of}
use Rattle.of_mem.specs.Part.{Part, keep}
use Rattle.of_mem.proofs.CellPlaces.{put_all_take}
use Rattle.std.proofs.lemmas.List.{take_all}
use Rattle.of_mem.proofs.Writes.{put_all_once}
use Rattle.of_mem.proofs.Newest.{newest_kept}
use Rattle.of_mem.proofs.part.Part.keep.Goals as goal

pub loop-i-preserved : goal.loop-i-preserved
loop-i-preserved c =
    let script : List (ℕ × ℕ) = c.self.inside.script.entries in
    let first : List (ℕ × ℕ) = c.self.inside.batch.entries in
    let here : c.loop-i.i < length script = omega (arith, c.len-count.ensures.value, c.loop-i-test.true) in
    let more : put_all first (take (c.loop-i.i + 1) script) ≡ put_pair (put_all first (take c.loop-i.i script)) (get_or script c.loop-i.i (0, 0)).0 (get_or script c.loop-i.i (0, 0)).1 = put_all_take first script c.loop-i.i (0, 0) here in
    let entry : c.entry-addr.result ≡ get_or script c.loop-i.i (0, 0) = c.entry-addr.ensures.value ∙ ap (λ (w : WriteSet). get_or w.entries c.loop-i.i (0, 0)) c.loop-i.invariant.script in
    record {
      written = ap (λ (w : WriteSet). w.entries) c.put.ensures ∙ ap (λ (e : ℕ × ℕ). put_pair c.loop-i.self-inside.batch.entries e.0 e.1) entry
          ∙ ap (λ (ds : List (ℕ × ℕ)). put_pair ds (get_or script c.loop-i.i (0, 0)).0 (get_or script c.loop-i.i (0, 0)).1) c.loop-i.invariant.written ∙ sym more;
      batch = ap (λ (w : WriteSet). w.room) c.put.ensures ∙ c.loop-i.invariant.batch;
      script = c.loop-i.invariant.script;
      cells = c.loop-i.invariant.cells;
      undone = c.loop-i.invariant.undone;
      last = c.loop-i.invariant.last;
    }

pub invariant_of-self-2 : goal.invariant_of-self-2
invariant_of-self-2 c =
    let p : Part = part_of c.self.inside.cells c.self.inside.batch c.self.inside.script in
    let all : take c.loop-i.i p.script ≡ p.script = take_all c.loop-i.i p.script (omega (arith, c.len-count.ensures.value, c.loop-i-test.false)) in
    let batch : c.loop-i.self-inside.batch.entries ≡ put_all p.batch p.script = c.loop-i.invariant.written ∙ ap (put_all p.batch) all in
    let empty : c.clear.new.self.entries ≡ [] = ap (λ (w : WriteSet). w.entries) c.clear.ensures in (
      record {
        batch = rw c.loop-i.invariant.cells (c.loop-i.invariant.batch ∙ c.self.invariant.0.batch);
        script = rw (c.clear.ensures, c.loop-i.invariant.script, c.loop-i.invariant.cells) c.self.invariant.0.script;
        newest = rw (empty, batch, c.loop-i.invariant.cells) (newest_kept p c.self.inside.script.room _ c.len-count.ensures.map c.self.invariant.0.newest);
      },
      rw c.loop-i.invariant.last (λ kept. absurd cc),
    )

-- over an empty batch the script's entries are all
swapped : (p : Part) → HasDistinctCells p.script → p.batch ≡ [] → put_all p.batch p.script ≡ p.script
swapped p once none = ap (λ (es : List (ℕ × ℕ)). put_all es p.script) none ∙ put_all_once p.script once

none_there : (es : List (ℕ × ℕ)) → length es ≡ 0 → es ≡ []
none_there [] e = refl
none_there (e ∷ es) q = absurd (omega (arith, q))

pub invariant_of-self : goal.invariant_of-self
invariant_of-self c =
    let p : Part = part_of c.self.inside.cells c.self.inside.batch c.self.inside.script in
    let none : p.batch ≡ [] = none_there p.batch (grind (arith, nat_tests, c.is_empty.ensures, c.if-is_empty.true)) in
    let kept : HasNewest (keep p) c.self.inside.cells.newest = newest_kept p c.self.inside.script.room _ c.len-count.ensures.map c.self.invariant.0.newest in
    let held : HasNewest (record p { batch = p.script; script = [] }) c.self.inside.cells.newest = subst (λ (es : List (ℕ × ℕ)). HasNewest (record p { batch = es; script = [] }) c.self.inside.cells.newest) (swapped p c.len-count.ensures.map.once none) kept in
    rw (c.swap.ensures.x_after, c.swap.ensures.y_after) (
      record {
        batch = c.self.invariant.0.script;
        script = c.self.invariant.0.batch;
        newest = subst (λ (es : List (ℕ × ℕ)). HasNewest (record p { batch = p.script; script = es }) c.self.inside.cells.newest) (sym none) held;
      },
      λ kept. absurd cc,
    )

pub returns-then-is_empty : goal.returns-then-is_empty
returns-then-is_empty c =
    let p : Part = part_of c.self.inside.cells c.self.inside.batch c.self.inside.script in
    let none : p.batch ≡ [] = none_there p.batch (grind (arith, nat_tests, c.is_empty.ensures, c.if-is_empty.true)) in
    let all : put_all p.batch p.script ≡ p.script = swapped p c.len-count.ensures.map.once none in
    rw (← c.self.view_is, c.if-self.false, c.swap.ensures.x_after, c.swap.ensures.y_after) (λ i. record p { batch = sym all i; script = none i })
