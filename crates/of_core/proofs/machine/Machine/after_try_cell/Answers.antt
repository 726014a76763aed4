use Rattle.std.proofs.Common.{◌≤◌, arith}
use Rattle.of_cell.specs.Words.{seq_of}
use Rattle.of_core.proofs.machine.Machine.after_try_cell.Goals as goal

pub read_on-requires-clause-agrees : goal.read_on-requires-clause-agrees
read_on-requires-clause-agrees g c =
    let old : seq_of c.args.found ≤ c.self.inside.seq = omega arith in
    let a = (rw (← c.self.view_is) at c.requires.agrees) old in
    rw (c.learn.ensures, c.payload_of.ensures) a
