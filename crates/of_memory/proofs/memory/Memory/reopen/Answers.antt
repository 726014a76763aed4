use Rattle.std.proofs.Common.{◌<◌, [], sym, subst}
use Rattle.of_memory.proofs.Holding.{nothing_made}
use Rattle.of_memory.proofs.Starting.{saved_row}
use Rattle.of_memory.proofs.memory.Memory.reopen.Goals as goal

pub returns-clause-memory : goal.returns-clause-memory
returns-clause-memory c =
    let e = c.in_ok-cells.ensures in
    nothing_made (record { alloc = c.args.alloc; cells = c.in_ok-cells.cells }) e.memory (saved_row (record { alloc = c.args.alloc; cells = c.in_ok-cells.cells }) c.args.saved.now c.requires e.work e.callers e.size e.limit e.goes_on) e.none e.idle

pub returns-clause-none : goal.returns-clause-none
returns-clause-none c n low =
    let e = c.in_ok-cells.ensures in
    record { ended = []; here = e.none n (subst (λ k. n < k) (sym e.callers) low); made = tt }
