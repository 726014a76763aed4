use Rattle.of_memory.proofs.Losing.{revived_handle, revived_calls, still_lost}
use Rattle.of_memory.proofs.lost.LostHandle.revive.Goals as goal

pub returns-in-Ok-clause-handle : goal.returns-in-Ok-clause-handle
returns-in-Ok-clause-handle c = revived_handle c.args.self c.requires.lost _ c.in-Ok.ensures.handle c.in-Ok.ensures.revived

pub returns-in-Ok-clause-revived : goal.returns-in-Ok-clause-revived
returns-in-Ok-clause-revived c = revived_calls c.args.self _ c.in-Ok.ensures.revived

pub returns-in-Err-clause-lost : goal.returns-in-Err-clause-lost
returns-in-Err-clause-lost c = still_lost c.args.self c.requires.lost _ c.in-Err.ensures.lost c.in-Err.ensures.stays
