use Rattle.of_memory.proofs.Holding.{took_none}
use Rattle.of_memory.proofs.memory.Memory.evict_request.Goals as goal

pub returns-clause-memory : goal.returns-clause-memory
returns-clause-memory c = took_none c.args.self.now _ c.requires c.evict_request.ensures.memory c.evict_request.ensures.still c.evict_request.ensures.none
