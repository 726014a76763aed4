use Rattle.std.proofs.Common.{arith}
use Rattle.std.proofs.lemmas.Result.{err_from_is_err_and}
use Rattle.of_eval.proofs.OwnCells.{own_names}
use Rattle.of_eval.proofs.lawful_cells.own.callers.Goals as goal

pub returns-in_err-own-clause-err : goal.returns-in_err-own-clause-err
returns-in_err-own-clause-err c =
    let q = err_from_is_err_and c.from_residual.result c.from_residual.ensures.1 in
    rw (q.1, q.2) (own_names c.args.plot.now c.args.cells.now c.loop-caller.caller c.in_err-own.field-0.0 (omega (arith, c.loop-caller-test.true)) c.loop-caller.invariant c.in_err-own.ensures.err)
