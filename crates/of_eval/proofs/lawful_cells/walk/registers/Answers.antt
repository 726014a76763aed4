use Rattle.std.proofs.Common.{ℕ, sym, subst, arith}
use Rattle.of_mem.specs.ProgramWork.{memory_of}
use Rattle.of_mem.specs.Numbers.{IsNumber}
use Rattle.of_eval.specs.Faults.IsFirstFault.{Register}
use Rattle.of_eval.proofs.lawful_cells.walk.registers.Goals as goal

pub returns-then-cells-cell-gt-GREATEST-clause-err : goal.returns-then-cells-cell-gt-GREATEST-clause-err
returns-then-cells-cell-gt-GREATEST-clause-err c =
    Register c.requires.own c.loop-r.r (omega (arith, c.loop-r-test.true)) c.loop-r.invariant
    (λ h. let k : IsNumber (memory_of c.args.cells.now c.register-cell.result) = subst (λ (a : ℕ). IsNumber (memory_of c.args.cells.now a)) (sym c.register-cell.ensures) h in omega (arith, k, c.if-cells-cell-gt-GREATEST.true))
    c.register-cell.ensures
