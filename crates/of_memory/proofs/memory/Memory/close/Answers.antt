use Rattle.of_memory.proofs.Closing.{has_history, is_saved}
use Rattle.of_memory.proofs.memory.Memory.close.Goals as goal

pub returns-in-Ok-clause-saved : goal.returns-in-Ok-clause-saved
returns-in-Ok-clause-saved c =
    let e = c.in-Ok.ensures in
    is_saved c.args.self c.requires e.here _ e.work e.callers e.limit e.saved e.history e.own

pub returns-in-Ok-clause-history : goal.returns-in-Ok-clause-history
returns-in-Ok-clause-history c =
    let e = c.in-Ok.ensures in
    has_history c.args.self c.requires e.here _ e.work e.callers e.limit e.saved e.history e.own
