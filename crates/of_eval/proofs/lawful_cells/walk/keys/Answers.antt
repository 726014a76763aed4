use Rattle.std.proofs.Common.{arith}
use Rattle.of_eval.proofs.Endings.{keys_right, keys_fault}
use Rattle.of_eval.proofs.lawful_cells.walk.keys.Goals as goal

pub returns-then-cells-cell-clause-err : goal.returns-then-cells-cell-clause-err
returns-then-cells-cell-clause-err c = λ owners h. keys_fault c.args.plot.now c.args.cells.now owners c.args.store.now c.keys-cell.result c.keys-cell.ensures (λ e. omega (arith, e, c.if-cells-cell.true, c.keys.ensures)) h

pub returns-clause-ok : goal.returns-clause-ok
returns-clause-ok c = λ owners h. keys_right c.args.plot.now c.args.cells.now owners c.args.store.now c.keys-cell.result c.keys-cell.ensures (omega (arith, c.if-cells-cell.false, c.keys.ensures)) h
