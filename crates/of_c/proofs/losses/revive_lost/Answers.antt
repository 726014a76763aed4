use Rattle.std.proofs.Common.{refl, sym, ap}
use Rattle.of_c.specs.Losses.{code_of_reason}
use Rattle.of_c.proofs.losses.revive_lost.Goals as goal

pub returns-in-Ok-clause-revived : goal.returns-in-Ok-clause-revived
returns-in-Ok-clause-revived c done = record { lost = c.args.vacant.lost; was = refl; handle = c.in-Ok.handle; is = refl; revived = c.in-Ok.ensures.revived }

pub returns-in-NotYet-clause-lost : goal.returns-in-NotYet-clause-lost
returns-in-NotYet-clause-lost c none = record { lost = c.args.vacant.lost; was = refl; next = c.in-Err.lost; is = refl; stays = c.in-Err.ensures.stays; reason = c.in-Err.reason; cause = c.in-Err.ensures.cause; code_is = sym (ap code_of_reason c.in-NotYet.is) }

pub returns-in-AtLimit-clause-lost : goal.returns-in-AtLimit-clause-lost
returns-in-AtLimit-clause-lost c none = record { lost = c.args.vacant.lost; was = refl; next = c.in-Err.lost; is = refl; stays = c.in-Err.ensures.stays; reason = c.in-Err.reason; cause = c.in-Err.ensures.cause; code_is = sym (ap code_of_reason c.in-AtLimit.is) }

pub returns-in-OutOfMemory-clause-lost : goal.returns-in-OutOfMemory-clause-lost
returns-in-OutOfMemory-clause-lost c none = record { lost = c.args.vacant.lost; was = refl; next = c.in-Err.lost; is = refl; stays = c.in-Err.ensures.stays; reason = c.in-Err.reason; cause = c.in-Err.ensures.cause; code_is = sym (ap code_of_reason c.in-OutOfMemory.is) }
