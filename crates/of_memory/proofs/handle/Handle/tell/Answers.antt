use Rattle.of_memory.proofs.Called.{same_calls}
use Rattle.of_memory.proofs.handle.Handle.tell.Goals as goal

pub returns-clause-handle : goal.returns-clause-handle
returns-clause-handle c = same_calls c.args.self.now _ c.requires c.tell.ensures.handle c.tell.ensures.same c.tell.ensures.calls
