use Rattle.of_c.proofs.Knowing.{keeps_memory, keeps_held, evicts_held}
use Rattle.of_c.proofs.losses.evict_held.Goals as goal

pub returns-in-Memory-clause-kept : goal.returns-in-Memory-clause-kept
returns-in-Memory-clause-kept c = keeps_memory _ c.in-Memory.home _ c.in-Memory.is c.evict_request.ensures.still c.evict_request.ensures.none c.evict_request.ensures.remembers

pub returns-in_default-clause-kept : goal.returns-in_default-clause-kept
returns-in_default-clause-kept c = keeps_held c.args.held.now

pub returns-in-Memory-clause-evicted : goal.returns-in-Memory-clause-evicted
returns-in-Memory-clause-evicted c done = evicts_held c.args.number _ c.in-Memory.home _ c.in-Memory.is c.evict_request.ensures.evicted c.evict_request.ensures.same
