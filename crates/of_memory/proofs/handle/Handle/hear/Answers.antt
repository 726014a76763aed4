use Rattle.of_memory.proofs.Called.{same_calls}
use Rattle.of_memory.proofs.handle.Handle.hear.Goals as goal

pub returns-clause-handle : goal.returns-clause-handle
returns-clause-handle c = same_calls c.args.self.now _ c.requires.handle c.hear.ensures.handle c.hear.ensures.same c.hear.ensures.calls
