use Rattle.std.proofs.Common.{ℕ, ◌∙◌, [], Option, refl, sym, subst, arith}
use Rattle.std.proofs.lemmas.Result.{err_from_is_err_and}
use Rattle.of_mem.specs.ProgramWork.{memory_of}
use Rattle.of_mem.specs.Plots.{base}
use Rattle.of_mem.proofs.Heaps.{front_free}
use Rattle.of_eval.specs.Walking.{LinkLeadsOn}
use Rattle.of_eval.proofs.Beginnings.{here_below, walked_none, stepped_smaller, stepped_end, fits_free, freed}
use Rattle.of_eval.proofs.Passing.{counted_few, leads_on, walked_step, pointer_fault, here_push, with_block}
use Rattle.of_eval.proofs.lawful_cells.walk.free_list.Goals as goal

pub loop-block-init : goal.loop-block-init
loop-block-init c = ((λ _. []), walked_none c.args.plot.now c.args.cells.now c.args.owners.now c.requires.begun c.requires.fresh c.requires.unmet, c.free-cell.ensures ∙ sym (front_free (base c.args.plot.now) c.args.plot.now.blocks))

pub next-requires-clause-cell : goal.next-requires-clause-cell
next-requires-clause-cell c =
    let i = c.loop-block.invariant in
    let h = here_below c.args.plot.now c.args.cells.now 0 0 i.0 c.loop-block.owners i.1 (omega arith) in
    omega (arith, h, i.2, c.requires.sized)

pub returns-in_err-block-clause-err : goal.returns-in_err-block-clause-err
returns-in_err-block-clause-err c =
    let i = c.loop-block.invariant in
    let q = err_from_is_err_and c.from_residual.result c.from_residual.ensures.1 in
    rw (q.1, q.2) (pointer_fault c.args.plot.now c.args.cells.now 0 0 i.0 c.loop-block.owners i.1 c.loop-block.cell c.in_err-block.field-0.0 (omega arith) (counted_few (base c.args.plot.now) c.args.plot.now.blocks (memory_of c.args.cells.now) 0 i.0 (omega arith)) i.2 c.in_err-block.ensures.err)

pub loop-block-smaller : goal.loop-block-smaller
loop-block-smaller c =
    let s = subst (λ (o : Option ℕ). LinkLeadsOn c.args.cells.now c.loop-block.cell 0 c.loop-block.owners c.next.new.owners o) c.in-Some.is c.in_ok-block.ensures.ok in
    stepped_smaller c.args.cells.now c.loop-block.cell 0 c.in-Some.block c.loop-block.owners c.next.new.owners s

pub loop-block-preserved : goal.loop-block-preserved
loop-block-preserved c =
    let i = c.loop-block.invariant in
    let s = subst (λ (o : Option ℕ). LinkLeadsOn c.args.cells.now c.loop-block.cell 0 c.loop-block.owners c.next.new.owners o) c.in-Some.is c.in_ok-block.ensures.ok in
    let l = leads_on c.args.plot.now c.args.cells.now 0 0 i.0 c.loop-block.owners i.1 c.loop-block.cell 0 c.in-Some.block c.next.new.owners i.2 s in (
      with_block i.0 0 c.in-Some.block,
      walked_step c.args.plot.now c.args.cells.now 0 0 i.0 c.loop-block.owners i.1 0 c.in-Some.block c.next.new.owners refl (omega arith) (omega arith) s.1 s.2 s.3 l (fits_free (base c.args.plot.now) c.args.plot.now.blocks (memory_of c.args.cells.now) i.0 c.in-Some.block),
      c.block-cell.ensures ∙ sym (here_push c.args.plot.now c.args.cells.now 0 0 i.0 c.loop-block.owners i.1 c.in-Some.block),
    )

pub returns-clause-ok : goal.returns-clause-ok
returns-clause-ok c =
    let i = c.loop-block.invariant in
    let s = stepped_end c.args.cells.now c.loop-block.cell 0 c.loop-block.owners c.next.new.owners c.in_ok-block.field-0 c.in_default.not-Some c.in_ok-block.ensures.ok in
    freed c.args.plot.now c.args.cells.now i.0 c.loop-block.owners c.next.new.owners c.loop-block.cell i.1 i.2 s.0 s.1
