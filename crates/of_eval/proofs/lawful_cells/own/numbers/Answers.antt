use Rattle.std.proofs.Common.{ℕ, arith, sym, subst, ◌∙◌}
use Rattle.of_mem.specs.Numbers.{IsNumber}
use Rattle.of_mem.specs.ProgramWork.{memory_of}
use Rattle.of_eval.specs.Faults.OwnFault.{GreatReply}
use Rattle.of_eval.proofs.OwnCells.{numbers_hold}
use Rattle.of_eval.proofs.lawful_cells.own.numbers.Goals as goal

pub returns-then-cells-cell-gt-GREATEST-clause-err : goal.returns-then-cells-cell-gt-GREATEST-clause-err
returns-then-cells-cell-gt-GREATEST-clause-err c =
    GreatReply c.requires.called c.args.reply.now c.requires.shape c.loop-j.j (omega (arith, c.loop-j-test.true, c.from-j-end.ensures)) (sym c.is_some.ensures ∙ c.if-is_some.true) c.loop-j.invariant
    (λ h. let k : IsNumber (memory_of c.args.cells.now c.reply-cell.result) = subst (λ (a : ℕ). IsNumber (memory_of c.args.cells.now a)) (sym c.reply-cell.ensures) h in omega (arith, k, c.if-cells-cell-gt-GREATEST.true))
    c.reply-cell.ensures

pub returns-clause-ok : goal.returns-clause-ok
returns-clause-ok c = record {
  none = λ e. absurd (c.requires.called e);
  some = λ _. numbers_hold c.args.plot.now.instrs (memory_of c.args.cells.now) c.args.caller c.args.reply.now c.requires.shape (λ i l k. c.loop-j.invariant i (omega (arith, l, c.loop-j-test.false, c.from-j-end.ensures)) k);
}
