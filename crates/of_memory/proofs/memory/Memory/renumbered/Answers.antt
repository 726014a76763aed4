use Rattle.of_memory.proofs.Renewing.{leaves}
use Rattle.of_memory.proofs.memory.Memory.renumbered.Goals as goal

pub returns-in-Ok-reopen-clause-saved : goal.returns-in-Ok-reopen-clause-saved
returns-in-Ok-reopen-clause-saved c =
    let e = c.in-Ok.ensures in
    let r = c.renumbered-saved.ensures in
    leaves c.args.self c.in-Ok.saved c.renumbered-saved.result r.same e.here e.history e.callers e.limit r.saved r.limit r.seq

pub returns-in-Err-reopen-clause-cause : goal.returns-in-Err-reopen-clause-cause
returns-in-Err-reopen-clause-cause c =
    let e = c.in-Ok.ensures in
    let r = c.renumbered-saved.ensures in
    leaves c.args.self c.in-Ok.saved c.renumbered-saved.result r.same e.here e.history e.callers e.limit r.saved r.limit r.seq
