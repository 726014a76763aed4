use Rattle.std.proofs.Common.{◌≤◌, ◌<◌, [], sym, subst}
use Rattle.of_cell.specs.declared.word.TheConstants.{GREATEST_LIMIT}
use Rattle.of_memory.proofs.Holding.{nothing_made}
use Rattle.of_memory.proofs.Starting.{empty_row, empty_start}
use Rattle.of_memory.proofs.memory.Memory.open.Goals as goal

pub returns-in-Ok-clause-memory : goal.returns-in-Ok-clause-memory
returns-in-Ok-clause-memory c =
    let e = c.in-Ok.ensures in
    nothing_made (record { alloc = c.args.alloc; cells = c.in-Ok.cells }) e.memory (empty_row (record { alloc = c.args.alloc; cells = c.in-Ok.cells }) _ e.work e.callers e.size (subst (λ n. 1 ≤ n) (sym e.limit) e.within.some) (subst (λ n. n ≤ GREATEST_LIMIT) (sym e.limit) e.within.few) e.zeros) e.none e.idle

pub returns-in-Ok-clause-empty : goal.returns-in-Ok-clause-empty
returns-in-Ok-clause-empty c =
    let e = c.in-Ok.ensures in
    empty_start (record { alloc = c.args.alloc; cells = c.in-Ok.cells }) _ e.work e.callers e.size (subst (λ n. 1 ≤ n) (sym e.limit) e.within.some) (subst (λ n. n ≤ GREATEST_LIMIT) (sym e.limit) e.within.few) e.zeros

pub returns-in-Ok-clause-none : goal.returns-in-Ok-clause-none
returns-in-Ok-clause-none c n low =
    let e = c.in-Ok.ensures in
    record { ended = []; here = e.none n (subst (λ k. n < k) (sym e.callers) low); made = tt }
