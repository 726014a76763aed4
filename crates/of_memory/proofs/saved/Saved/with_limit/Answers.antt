use Rattle.std.proofs.Common.{◌≤◌, sym, subst}
use Rattle.of_memory.proofs.Saving.{saves_same, still_saved}
use Rattle.of_memory.proofs.saved.Saved.with_limit.Goals as goal

pub returns-in-Ok-clause-saved : goal.returns-in-Ok-clause-saved
returns-in-Ok-clause-saved c =
    let e = c.in-Ok.ensures in
    still_saved c.args.self (record { cells = c.in-Ok.cells }) e.same c.requires e.saved (subst (λ n. 1 ≤ n) (sym e.limit) e.within.some)

pub returns-in-Ok-clause-same : goal.returns-in-Ok-clause-same
returns-in-Ok-clause-same c = saves_same c.args.self (record { cells = c.in-Ok.cells }) c.in-Ok.ensures.same
