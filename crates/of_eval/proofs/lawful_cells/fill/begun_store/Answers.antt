use Rattle.std.proofs.Common.{ℕ, ◌≡◌, ◌<◌, ◌+◌, get_or, sym, arith, ap, subst}
use Rattle.of_mem.specs.ProgramWork.{memory_of}
use Rattle.of_mem.specs.Numbers.{IsNumber}
use Rattle.of_store.specs.Store.{Store}
use Rattle.of_eval.specs.Walking.{HasRegisters}
use Rattle.of_eval.proofs.FillSteps.{registers_none, registers_more}
use Rattle.of_eval.proofs.lawful_cells.fill.begun_store.Goals as goal

pub loop-r-init : goal.loop-r-init
loop-r-init c = subst (λ (s : Store). HasRegisters c.args.plot.now c.args.cells.now 0 s) (sym c.in_ok-store.ensures) (registers_none c.args.plot.now c.args.cells.now)

pub apply-requires : goal.apply-requires
apply-requires c =
    let small : IsNumber (memory_of c.args.cells.now c.register.result) = subst (λ (a : ℕ). IsNumber (memory_of c.args.cells.now a)) (sym c.register.ensures) (c.requires.numbers c.loop-r.r (omega (arith, c.loop-r-test.true))) in
    (omega (arith, c.loop-r-test.true), omega (arith, small))

pub loop-r-preserved : goal.loop-r-preserved
loop-r-preserved c =
    let r_in : c.loop-r.r < 16 = omega (arith, c.loop-r-test.true) in
    let small : IsNumber (memory_of c.args.cells.now c.register.result) = subst (λ (a : ℕ). IsNumber (memory_of c.args.cells.now a)) (sym c.register.ensures) (c.requires.numbers c.loop-r.r r_in) in
    subst (λ (s : Store). HasRegisters c.args.plot.now c.args.cells.now (c.loop-r.r + 1) s) (sym c.in_ok-apply.ensures)
    (registers_more c.args.plot.now c.args.cells.now c.loop-r.r (get_or c.args.cells.now c.register.result 0) c.loop-r.store r_in (ap (memory_of c.args.cells.now) c.register.ensures) (omega (arith, small)) c.loop-r.invariant)

pub returns : goal.returns
returns c = let e : c.loop-r.r ≡ 16 = omega (arith, c.loop-r-test.false, c.loop-r.auto.r-end) in subst (λ (n : ℕ). HasRegisters c.args.plot.now c.args.cells.now n c.loop-r.store) e c.loop-r.invariant
