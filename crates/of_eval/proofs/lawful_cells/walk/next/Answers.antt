use Rattle.std.proofs.Common.{◌-◌, get_or, arith, refl, inl}
use Rattle.of_eval.proofs.lawful_cells.walk.next.Goals as goal

pub returns-then-block-owners-clause-err : goal.returns-then-block-owners-clause-err
returns-then-block-owners-clause-err c = (refl, (get_or c.args.cells.now c.args.cell 0 - 1, omega (arith, c.if-pointer-eq0.false), inl c.if-block-owners.true))
